-- Newest revision: the greatest revision value read, in byte order, a beginning before what it begins; of equals the first.
-- Assumes nothing.
use Rattle.std.specs.Prelude.{ℕ, ◌≡◌, Bool, true, false, cond, not, ◌&&◌, ◌||◌, List, [], ◌∷◌, ◌++◌, ltb}
use Rattle.scan_rows.specs.Rows.{Each}
use Rattle.scan_rows.specs.Span.{missing, value_in}
use Rattle.scan_rows.specs.declared.Span.{Span}

-- byte order, a beginning before what it begins
unfoldable pub less : List ℕ → List ℕ → Bool
less xs [] = false
less [] (y ∷ ys) = true
less (x ∷ xs) (y ∷ ys) = cond (ltb x y) true (cond (ltb y x) false (less xs ys))

-- a revision: where its value lies in the store, and the value
pub record Revision : Type 0 where
  pub span : Span
  pub value : List ℕ

-- none was read: the missing value, with 0, 0
abbrev pub no_revision : Revision
no_revision = record { span = missing; value = [] }

-- one that was read
abbrev pub Read : Revision → Type 0
Read r = r.span.present ≡ true

-- the newer of two, of equals the first
unfoldable pub newer : Revision → Revision → Revision
newer old new = cond (old.span.present && not (less old.value new.value)) old new

-- of all that were read, in the order read
unfoldable pub newest_from : Revision → List Revision → Revision
newest_from n [] = n
newest_from n (r ∷ rs) = newest_from (newer n r) rs

unfoldable pub newest : List Revision → Revision
newest rs = newest_from no_revision rs

-- n stands among rs, and every one before it is less
pub record First (rs : List Revision) (n : Revision) : Type 0 where
  pub before : List Revision
  pub behind : List Revision
  pub parts : rs ≡ before ++ n ∷ behind
  pub lesser : Each (λ a. less a.value n.value ≡ true) before

-- what the code tells: whether the value x comes in the place of the newest so far
unfoldable pub comes_newer : List ℕ → Span → Span → Bool
comes_newer store old x = not old.present || less (value_in store old) (value_in store x)
