-- Membership in a list that grows at its end, and the place where a member stands.
-- Assumes nothing.
use mathlib.Core.Path.{◌≡◌, refl, sym, ◌∙◌}
use mathlib.Core.Bool.{Bool, true, false, cond, ◌||◌, or-true, or-false}
use mathlib.Core.List.{List, [], ◌∷◌, ◌++◌}
use Prim.Native.Nat.{ℕ, zero, suc, ◌<◌}
use native.Mathlib.Omega.{arith}
use lib.ListN.{length, get_or}
use lib.Dec.{eqb}
use borrow.Author.Tests.{eqb-true, eq-eqb, ne_eqb}
use Rattle.text.proofs.Here.{never}
use Rattle.order_tables.specs.Free.{mem}

pub mem_append : (v : ℕ) (xs ys : List ℕ) → mem v (xs ++ ys) ≡ (mem v xs || mem v ys)
unfolding mem
mem_append v [] ys = refl
mem_append v (x ∷ xs) ys = go (eqb x v) (mem_append v xs ys)
  where
    go : (b : Bool) → mem v (xs ++ ys) ≡ (mem v xs || mem v ys) → cond b true (mem v (xs ++ ys)) ≡ (cond b true (mem v xs) || mem v ys)
    go true ih = refl
    go false ih = ih

pub mem_snoc_old : (v u : ℕ) (xs : List ℕ) → mem v xs ≡ true → mem v (xs ++ (u ∷ [])) ≡ true
mem_snoc_old v u xs h = mem_append v xs (u ∷ []) ∙ rw h

pub mem_snoc_new : (v : ℕ) (xs : List ℕ) → mem v (xs ++ (v ∷ [])) ≡ true
unfolding mem
mem_snoc_new v xs = mem_append v xs (v ∷ []) ∙ rw (eq-eqb v v refl) (or-true (mem v xs))

pub mem_snoc_else : (v u : ℕ) (xs : List ℕ) → (v ≡ u → ⊥) → mem v (xs ++ (u ∷ [])) ≡ mem v xs
unfolding mem
mem_snoc_else v u xs d = mem_append v xs (u ∷ []) ∙ rw (ne_eqb u v (λ e. d (sym e))) (or-false (mem v xs))

pub record Placed (v : ℕ) (xs : List ℕ) : Type 0 where
  pub place : ℕ
  pub below : place < length xs
  pub same : get_or xs place 0 ≡ v

pub mem_place : (v : ℕ) (xs : List ℕ) → mem v xs ≡ true → Placed v xs
unfolding mem
mem_place v [] h = absurd (never refl h)
mem_place v (x ∷ xs) h = go (eqb x v) refl (mem_place v xs) h
  where
    go : (b : Bool) → eqb x v ≡ b → (mem v xs ≡ true → Placed v xs) → cond b true (mem v xs) ≡ true → Placed v (x ∷ xs)
    go true e ih k = record { place = 0; below = omega arith; same = eqb-true x v e }
    go false e ih k = let p = ih k in record { place = suc p.place; below = omega (arith, p.below); same = p.same }

pub place_mem : (xs : List ℕ) (i : ℕ) → i < length xs → mem (get_or xs i 0) xs ≡ true
unfolding mem
place_mem [] i l = absurd (omega arith)
place_mem (x ∷ xs) zero l = rw (eq-eqb x x refl)
place_mem (x ∷ xs) (suc i) l = go (eqb x (get_or xs i 0)) (place_mem xs i (omega arith))
  where
    go : (b : Bool) → mem (get_or xs i 0) xs ≡ true → cond b true (mem (get_or xs i 0) xs) ≡ true
    go true ih = refl
    go false ih = ih
