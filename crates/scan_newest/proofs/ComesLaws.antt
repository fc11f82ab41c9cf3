-- What the code tells is what the definition does: where there is none yet, or it is less, the value read comes in its place.
-- Assumes nothing.
use Rattle.std.specs.Cmp.Lexicographic.{slice_partial_cmp}
use Rattle.std.specs.Ordering.{is_lt, is_some_and, nat_cmp}
use Rattle.std.specs.Prelude.{Some}
use mathlib.Core.Path.{◌≡◌, refl, sym, ap, ap₂, ◌∙◌}
use mathlib.Core.Bool.{Bool, true, false, cond, not, ◌&&◌, ◌||◌}
use mathlib.Core.List.{List}
use Prim.Native.Nat.{ℕ}
use Rattle.scan_rows.specs.Span.{value_in}
use Rattle.scan_rows.specs.declared.Span.{Span}
use Rattle.scan_newest.specs.Newest.{less, Revision, newer, comes_newer}
use Rattle.scan_newest.proofs.LessLaws.{less_is}

-- ---- the code's ways out

module _ (store : List ℕ) (old x : Span) where
  pub comes_none : not old.present ≡ true → not old.present ≡ comes_newer store old x
  unfolding comes_newer
  comes_none h = rw h refl

  pub comes_less : {n v : List ℕ} {t : Bool} → not old.present ≡ false → n ≡ value_in store old → v ≡ value_in store x
      → t ≡ is_some_and is_lt (slice_partial_cmp (λ x y. Some (nat_cmp x y)) n v) → t ≡ comes_newer store old x
  unfolding comes_newer
  comes_less {n} {v} {t} h ne ve te = less_is n v t te ∙ ap₂ less ne ve ∙ sym (ap (λ p. p || less (value_in store old) (value_in store x)) h)

-- ---- the code and the definition

-- kept or replaced, the two tests are one
chosen : {A : Type 0} (p l : Bool) (old new : A) → cond (p && not l) old new ≡ cond (not p || l) new old
chosen true true old new = refl
chosen true false old new = refl
chosen false l old new = refl

module _ (store : List ℕ) (n r : Revision) (ne : value_in store n.span ≡ n.value) (re : value_in store r.span ≡ r.value) where
  pub newer_comes : newer n r ≡ cond (comes_newer store n.span r.span) r n
  unfolding newer comes_newer
  newer_comes = rw (ne, re) (chosen n.span.present (less n.value r.value) n r)

module _ (store : List ℕ) (n : Revision) (x : Span) {bs : List ℕ} (ne : value_in store n.span ≡ n.value) (xe : value_in store x ≡ bs) where
  either : (t : Bool) → (cond t (record { span = x; value = bs }) n).span ≡ cond t x n.span
  either true = refl
  either false = refl

  pub newest_comes : (newer n (record { span = x; value = bs })).span ≡ cond (comes_newer store n.span x) x n.span
  newest_comes = ap (λ m. m.span) (newer_comes store n (record { span = x; value = bs }) ne xe) ∙ either (comes_newer store n.span x)
