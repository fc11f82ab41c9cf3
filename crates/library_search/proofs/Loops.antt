-- A counted list tried by a loop: the answer from the start is the answer from here, over any step. One theory for all of them.
-- Assumes nothing.
use Rattle.std.specs.Prelude.{None, Option}
use Rattle.std.proofs.Common.{Continue, Break}
use mathlib.Core.Path.{◌≡◌, refl, sym, ap, ◌∙◌}
use mathlib.Core.List.{List}
use mathlib.Core.Bool.{Bool, true, false}
use Prim.Native.Nat.{ℕ, zero, suc, ◌+◌, ◌-◌, ◌≤◌, ◌<◌}
use native.Mathlib.Omega.{arith}
use native.Mathlib.Numerals.{sub-one}
use Rattle.library_form.specs.Form.{good, bad}
use Rattle.library_image.specs.Image.{count_at}
use Rattle.library_search.specs.Search.{Tried, and_then, tries, list_tried, entries_tried, set_tried}

-- ---- the loop

-- one part of a count that is not 0
tries_turn : (f : ℕ → Tried) (left at : ℕ) → 0 < left → tries f left at ≡ and_then (f at) (tries f (left - 1))
unfolding tries
tries_turn f zero at h = elim h [ ]
tries_turn f (suc n) at h = simp sub-one

-- what the loop keeps: the parts from the i-th of `count` on stand from `at` on
pub record Left (f : ℕ → Tried) (whole : Tried) (count i at : ℕ) : Type 0 where
  pub rest : whole ≡ tries f (count - i) at

pub begun : (f : ℕ → Tried) (count at : ℕ) → Left f (tries f count at) count 0 at
begun f count at = let d : count - 0 ≡ count = omega arith in record { rest = rw d }

module _ (f : ℕ → Tried) (count i at : ℕ) where
  pub turn : i < count → tries f (count - i) at ≡ and_then (f at) (tries f (count - (i + 1)))
  turn h = let d : count - i - 1 ≡ count - (i + 1) = omega arith in tries_turn f (count - i) at (omega arith) ∙ ap (λ k. and_then (f at) (tries f k)) d

  pub spent : count ≤ i → tries f (count - i) at ≡ Continue at
  unfolding tries
  spent h = let d : count - i ≡ 0 = omega arith in ap (λ k. tries f k at) d

module _ (f : ℕ → Tried) (whole : Tried) (count i at : ℕ) (g : Left f whole count i at) where
  turned : i < count → whole ≡ and_then (f at) (tries f (count - (i + 1)))
  turned h = g.rest ∙ turn f count i at h

  pub part_passed : {n : ℕ} → Continue n ≡ f at → i < count → Left f whole count (i + 1) n
  part_passed e h = record { rest = turned h ∙ ap (λ x. and_then x (tries f (count - (i + 1)))) (sym e) }

  pub part_ends : {b : Option (ℕ × ℕ)} → Break b ≡ f at → i < count → Break b ≡ whole
  part_ends e h = sym (turned h ∙ ap (λ x. and_then x (tries f (count - (i + 1)))) (sym e))

  pub all_passed : count ≤ i → Continue at ≡ whole
  all_passed h = sym (g.rest ∙ spent f count i at h)

-- ---- its count

module _ (f : ℕ → Tried) (most : ℕ) (s : List ℕ) (at : ℕ) where
  pub list_uncounted : {p : ℕ} → bad p ≡ count_at 0 most s at → Break None ≡ list_tried most f s at
  unfolding list_tried
  list_uncounted e = rw (← e) refl

  pub list_begun : {count n : ℕ} → good count n ≡ count_at 0 most s at → Left f (list_tried most f s at) count 0 n
  unfolding list_tried
  list_begun {count} {n} e = rw (← e) (begun f count n)

-- ---- the two lists of a set

module _ (s t : List ℕ) (x y : Bool) (at : ℕ) where
  pub modules_end : {h : Option (ℕ × ℕ)} → Break h ≡ entries_tried s t false x at → Break h ≡ set_tried s t x y at
  unfolding set_tried
  modules_end e = ap (λ x. and_then x (entries_tried s t true y)) e

  pub imports_behind : {n : ℕ} {r : Tried} → Continue n ≡ entries_tried s t false x at → r ≡ entries_tried s t true y n → r ≡ set_tried s t x y at
  unfolding set_tried
  imports_behind e g = g ∙ ap (λ x. and_then x (entries_tried s t true y)) e
