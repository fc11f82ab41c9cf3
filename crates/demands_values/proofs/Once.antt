-- The places where a keyword matches: of a text that is given, they are computed.
-- Assumes nothing.
use Rattle.std.specs.Prelude.{Some, None, Option}
use Prim.Native.Nat.{ℕ, zero, suc, ◌<◌}
use mathlib.Core.Path.{◌≡◌, sym, ap, ◌∙◌}
use mathlib.Core.Bool.{Bool, true, false, ◌&&◌, ◌||◌}
use mathlib.Core.List.{List}
use native.Mathlib.Nat.{not-suc-le-zero}
use native.Mathlib.Omega.{arith}
use lib.Dec.{eqb}
use lib.ListN.{length}
use borrow.Author.Tests.{eqb-true, eqb-false}
use Rattle.text.specs.Keyword.{match_at}
use Rattle.text.specs.declared.Cursor.{Cursor}
use Rattle.text.proofs.Here.{by_test, both}
use Rattle.text.proofs.KeywordLaws.{match_far}

unfoldable pub unmatched : Option Cursor → Bool
unmatched (Some c) = false
unmatched None = true

-- f holds of each number below n
unfoldable pub below : (ℕ → Bool) → ℕ → Bool
below f zero = true
below f (suc n) = f n && below f n

below_all : (f : ℕ → Bool) (n k : ℕ) → below f n ≡ true → k < n → f k ≡ true
unfolding below
below_all f zero k h l = absurd (not-suc-le-zero l)
below_all f (suc n) k h l =
    let w = both (f n) (below f n) h in
    by_test (eqb k n) (λ t. ap f (eqb-true k n t) ∙ w.0)
    (λ t. let z : (k ≡ n → ⊥) = eqb-false k n t in below_all f n k w.1 (omega arith))

-- the test f holds of each place where the word matches
pub met_where : (s word : List ℕ) (f : ℕ → Bool) → below (λ p. unmatched (match_at s p word) || f p) (length s) ≡ true
    → (p : ℕ) (c : Cursor) → match_at s p word ≡ Some c → f p ≡ true
unfolding unmatched
met_where s word f h p c m =
    let w = below_all (λ p. unmatched (match_at s p word) || f p) (length s) p h (omega (arith, match_far s p word c m)) in
    ap (λ z. unmatched z || f p) (sym m) ∙ w
