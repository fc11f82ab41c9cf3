-- What the functions on the six values answer, by what they tested and what their calls answered.
-- Assumes nothing.
use mathlib.Core.Path.{◌≡◌, ap, ◌∙◌}
use mathlib.Core.Bool.{Bool, true, false, cond}
use mathlib.Core.List.{List}
use Prim.Native.Nat.{ℕ, ◌<◌}
use native.Mathlib.Omega.{arith}
use lib.Dec.{eqb}
use lib.ListN.{set}
use borrow.Author.Tests.{ne_eqb}
use Rattle.scan_rows.specs.declared.Span.{Span}
use Rattle.scan_metadata.specs.Values.{value_of, first_kept, newest_kept, kept_in}

-- ---- a value in its place

place_small : (a b c : Bool) → cond a 4 (cond b 1 (cond c 2 0)) < 6
place_small true b c = omega arith
place_small false true c = omega arith
place_small false false true = omega arith
place_small false false false = omega arith

pub place_within : (k : ℕ) → value_of k < 6
unfolding value_of
place_within k = place_small (eqb k 3) (eqb k 4) (eqb k 5)

module _ (store : List ℕ) (vs : List Span) (k : ℕ) (x : Span) where
  pub kept_revision : k ≡ 7 → {f r : List Span} → f ≡ first_kept vs x → r ≡ newest_kept store f x → r ≡ kept_in store vs k x
  unfolding kept_in
  kept_revision h fe re = rw h (re ∙ ap (λ z. newest_kept store z x) fe)

  pub kept_value : (k ≡ 7 → ⊥) → {i : ℕ} → i ≡ value_of k → set vs i x ≡ kept_in store vs k x
  unfolding kept_in
  kept_value h ie = rw (ne_eqb k 7 h) (ap (λ i. set vs i x) ie)
