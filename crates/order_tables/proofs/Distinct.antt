-- Different numbers below n are at most n, and a list that has all of them is at least as long: a number is taken out of the list at a time.
-- Assumes nothing.
use mathlib.Core.Path.{◌≡◌, refl, sym, ◌∙◌}
use mathlib.Core.Bool.{Bool, true, false, cond}
use mathlib.Core.Logic.{⊎_elim}
use mathlib.Core.List.{List, [], ◌∷◌, ◌++◌}
use Prim.Native.Nat.{ℕ, zero, suc, ◌≤◌, ◌<◌}
use native.Mathlib.Omega.{arith}
use lib.ListN.{length}
use lib.Dec.{eqb}
use borrow.Author.Tests.{eqb-true, eqb-false, eq-eqb, ne_eqb}
use Rattle.text.proofs.Here.{never}
use Rattle.text_lent.proofs.Numbers.{decide}
use Rattle.order_tables.specs.Free.{mem}
use Rattle.order_tables.proofs.Mem.{mem_snoc_else}

pub data Distinct : List ℕ → Type 0 where
  none : Distinct []
  more : {x : ℕ} {xs : List ℕ} → mem x xs ≡ false → Distinct xs → Distinct (x ∷ xs)

-- a member of a list that is longer at its front
pub mem_tail : (v x : ℕ) (xs : List ℕ) → mem v xs ≡ true → mem v (x ∷ xs) ≡ true
unfolding mem
mem_tail v x xs h = go (eqb x v)
  where
    go : (b : Bool) → cond b true (mem v xs) ≡ true
    go true = refl
    go false = h

pub mem_head : (x : ℕ) (xs : List ℕ) → mem x (x ∷ xs) ≡ true
unfolding mem
mem_head x xs = rw (eq-eqb x x refl)

pub mem_other : (v x : ℕ) (xs : List ℕ) → (x ≡ v → ⊥) → mem v (x ∷ xs) ≡ mem v xs
unfolding mem
mem_other v x xs d = rw (ne_eqb x v d)

pub distinct_snoc : (xs : List ℕ) (x : ℕ) → Distinct xs → mem x xs ≡ false → Distinct (xs ++ (x ∷ []))
unfolding mem
distinct_snoc [] x none h = more refl none
distinct_snoc (y ∷ ys) x (more q d) h = ⊎_elim
    (λ e. absurd (never h (rw e (mem_head x ys))))
    (λ k. more (mem_snoc_else y x ys k ∙ q) (distinct_snoc ys x d (sym (mem_other x y ys k) ∙ h)))
    (decide y x)

-- ---- a list without its members v

unfoldable without : ℕ → List ℕ → List ℕ
without v [] = []
without v (x ∷ xs) = cond (eqb x v) (without v xs) (x ∷ without v xs)

module _ (v : ℕ) where
  without_else : (u : ℕ) (xs : List ℕ) → (u ≡ v → ⊥) → mem u (without v xs) ≡ mem u xs
  unfolding without mem
  without_else u [] d = refl
  without_else u (x ∷ xs) d = go (eqb x v) refl (without_else u xs d)
    where
      go : (b : Bool) → eqb x v ≡ b → mem u (without v xs) ≡ mem u xs → mem u (cond b (without v xs) (x ∷ without v xs)) ≡ cond (eqb x u) true (mem u xs)
      go true e ih = let q = eqb-true x v e in ih ∙ sym (rw (ne_eqb x u (λ k. d (sym k ∙ q))))
      go false e ih = rw ih

  without_own : (xs : List ℕ) → mem v (without v xs) ≡ false
  unfolding without mem
  without_own [] = refl
  without_own (x ∷ xs) = go (eqb x v) refl (without_own xs)
    where
      go : (b : Bool) → eqb x v ≡ b → mem v (without v xs) ≡ false → mem v (cond b (without v xs) (x ∷ without v xs)) ≡ false
      go true e ih = ih
      go false e ih = rw (e, ih)

  without_none : (xs : List ℕ) → mem v xs ≡ false → without v xs ≡ xs
  unfolding without mem
  without_none [] h = refl
  without_none (x ∷ xs) h = go (eqb x v) refl (without_none xs) h
    where
      go : (b : Bool) → eqb x v ≡ b → (mem v xs ≡ false → without v xs ≡ xs) → cond b true (mem v xs) ≡ false
          → cond b (without v xs) (x ∷ without v xs) ≡ x ∷ xs
      go true e ih k = absurd (never k refl)
      go false e ih k = rw (ih k)

  without_distinct : (xs : List ℕ) → Distinct xs → Distinct (without v xs)
  unfolding without
  without_distinct [] none = none
  without_distinct (x ∷ xs) (more q d) = go (eqb x v) refl (without_distinct xs d)
    where
      go : (b : Bool) → eqb x v ≡ b → Distinct (without v xs) → Distinct (cond b (without v xs) (x ∷ without v xs))
      go true e ih = ih
      go false e ih = more (without_else x xs (eqb-false x v e) ∙ q) ih

  -- of a list of different numbers one goes at the most
  without_length : (xs : List ℕ) → Distinct xs → length xs ≤ suc (length (without v xs))
  unfolding without
  without_length [] none = omega arith
  without_length (x ∷ xs) (more q d) = go (eqb x v) refl (without_length xs d)
    where
      go : (b : Bool) → eqb x v ≡ b → length xs ≤ suc (length (without v xs)) → length (x ∷ xs) ≤ suc (length (cond b (without v xs) (x ∷ without v xs)))
      go true e ih = let k : mem v xs ≡ false = rw (eqb-true x v e) at q in rw (without_none xs k) (omega arith)
      go false e ih = omega (arith, ih)

  at_most : (xs : List ℕ) → length (without v xs) ≤ length xs
  unfolding without
  at_most [] = omega arith
  at_most (x ∷ xs) = go (eqb x v) (at_most xs)
    where
      go : (b : Bool) → length (without v xs) ≤ length xs → length (cond b (without v xs) (x ∷ without v xs)) ≤ suc (length xs)
      go true ih = omega (arith, ih)
      go false ih = omega (arith, ih)

  without_shorter : (xs : List ℕ) → mem v xs ≡ true → suc (length (without v xs)) ≤ length xs
  unfolding without mem
  without_shorter [] h = absurd (never refl h)
  without_shorter (x ∷ xs) h = go (eqb x v) refl (without_shorter xs) h
    where
      go : (b : Bool) → eqb x v ≡ b → (mem v xs ≡ true → suc (length (without v xs)) ≤ length xs) → cond b true (mem v xs) ≡ true
          → suc (length (cond b (without v xs) (x ∷ without v xs))) ≤ length (x ∷ xs)
      go true e ih k = omega (arith, at_most xs)
      go false e ih k = omega (arith, ih k)

-- ---- how long a list is

pub short : (n : ℕ) (xs : List ℕ) → Distinct xs → ((v : ℕ) → mem v xs ≡ true → v < n) → length xs ≤ n
unfolding mem
short zero [] d h = omega arith
short zero (x ∷ xs) d h = absurd (omega (arith, h x (mem_head x xs)))
short (suc n) xs d h = omega (arith, without_length n xs d, short n (without n xs) (without_distinct n xs d) below)
  where
    below : (v : ℕ) → mem v (without n xs) ≡ true → v < n
    below v k = ⊎_elim
        (λ e. absurd (never (without_own n xs) (rw e at k)))
        (λ d. let l = h v (sym (without_else n v xs d) ∙ k) in omega arith)
        (decide v n)

pub covers : (n : ℕ) (xs : List ℕ) → ((v : ℕ) → v < n → mem v xs ≡ true) → n ≤ length xs
covers zero xs h = omega arith
covers (suc n) xs h =
    omega (arith, without_shorter n xs (h n (omega arith)), covers n (without n xs) (λ v l. without_else n v xs (λ e. omega arith) ∙ h v (omega arith)))
