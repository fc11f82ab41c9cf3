-- Different numbers below n that are as many as n are all of them, so the list is the numbers below n in some order; and what stands before a member of a
-- list, as the list grows.
-- Assumes nothing.
use Prim.Native.Nat.{ℕ, zero, suc, ◌≤◌, ◌<◌}
use mathlib.Core.Path.{◌≡◌, refl, sym, ◌∙◌, ap}
use mathlib.Core.HLevel.{⊥_prop}
use mathlib.Core.Logic.{⊎_elim, ∥∥₁_elim, ∥∥₁_map}
use mathlib.Core.Bool.{Bool, true, false, cond, or-true, Bool-set}
use mathlib.Core.List.Pairwise
use mathlib.Core.List.{List, [], ◌∷◌, ◌++◌, Memᴰ, Nodup}
use mathlib.Core.List.Perm
use mathlib.Core.List.{Perm, perm_ext_iff_of_Nodup}
use native.Mathlib.Omega.{arith}
use native.Mathlib.Nat.{eq-or-lt_of_le}
use lib.Dec.{eqb}
use lib.ListN.{length, length-append}
use borrow.Author.Tests.{eqb-false, eq-eqb}
use Rattle.text.proofs.Here.{by_test, never}
use Rattle.text_lent.proofs.Numbers.{decide}
use Rattle.graph.proofs.Spread.{perm_length}
use Rattle.order_tables.specs.Free.{mem}
use Rattle.order_tables.proofs.Mem.{mem_append, mem_snoc_old, mem_snoc_new, mem_snoc_else}
use Rattle.order_tables.proofs.Distinct.{Distinct, none, more, distinct_snoc, short, mem_head, mem_tail, mem_other}
use Rattle.order_ring.specs.Ring.{until}
use Rattle.demands_order.specs.Order.{up_to}

-- ---- membership by test, and as the library has it

mem_in : (v : ℕ) (xs : List ℕ) → mem v xs ≡ true → Memᴰ v xs
unfolding mem
mem_in v [] h = absurd (never refl h)
mem_in v (x ∷ xs) h = ⊎_elim
    (λ e. Memᴰ.head (sym e))
    (λ d. Memᴰ.tail (mem_in v xs (sym (mem_other v x xs d) ∙ h)))
    (decide x v)

in_mem : {v : ℕ} {xs : List ℕ} → Memᴰ v xs → mem v xs ≡ true
in_mem {v} (Memᴰ.head {x = x} {xs = xs} e) = rw e (mem_head x xs)
in_mem {v} (Memᴰ.tail {x = x} {xs = xs} m) = mem_tail v x xs (in_mem m)

pub distinct_nodup : {xs : List ℕ} → Distinct xs → Nodup xs
distinct_nodup none = Pairwise.nil
distinct_nodup (more {x = x} {xs = xs} q d) = Pairwise.cons {a = x} (λ v m e. ∥∥₁_elim m ⊥_prop (λ k. never q (rw e (in_mem k)))) (distinct_nodup d)

nodup_distinct : {xs : List ℕ} → Nodup xs → Distinct xs
nodup_distinct Pairwise.nil = none
nodup_distinct (Pairwise.cons {a = x} {l = xs} f d) =
    more (by_test (mem x xs) (λ t. absurd (f x ∣ mem_in x xs t ∣₁ refl)) (λ t. t)) (nodup_distinct d)

perm_mem : (v : ℕ) {xs ys : List ℕ} → Perm xs ys → mem v xs ≡ true → mem v ys ≡ true
perm_mem v {xs} {ys} p h = ∥∥₁_elim ((Perm.mem_iff p).0 ∣ mem_in v xs h ∣₁) (Bool-set (mem v ys) true) in_mem

-- lists of the same different numbers
module _ (xs ys : List ℕ) (d : Nodup xs) (e : Nodup ys) (f : (v : ℕ) → mem v xs ≡ true → mem v ys ≡ true)
    (g : (v : ℕ) → mem v ys ≡ true → mem v xs ≡ true) where
  same_perm : Perm xs ys
  same_perm = (perm_ext_iff_of_Nodup d e).1
      (λ v. (λ m. ∥∥₁_map m (λ k. mem_in v ys (f v (in_mem k))), λ m. ∥∥₁_map m (λ k. mem_in v xs (g v (in_mem k)))))

  pub nodup_length : length xs ≡ length ys
  nodup_length = perm_length same_perm

-- ---- the numbers below n

up_below : (n v : ℕ) → mem v (up_to n) ≡ true → v < n
unfolding up_to mem
up_below zero v h = absurd (never refl h)
up_below (suc n) v h = ⊎_elim
    (λ e. omega arith)
    (λ d. let l = up_below n v (sym (mem_snoc_else v n (up_to n) d) ∙ h) in omega arith)
    (decide v n)

below_up : (n v : ℕ) → v < n → mem v (up_to n) ≡ true
unfolding up_to
below_up zero v l = absurd (omega arith)
below_up (suc n) v l = ⊎_elim
    (λ e. rw e (mem_snoc_new n (up_to n)))
    (λ m. mem_snoc_old v n (up_to n) (below_up n v m))
    (eq-or-lt_of_le {n = v} {m = n} (omega arith))

up_distinct : (n : ℕ) → Distinct (up_to n)
unfolding up_to
up_distinct zero = none
up_distinct (suc n) = distinct_snoc (up_to n) n (up_distinct n) (by_test (mem n (up_to n)) (λ t. let l = up_below n n t in absurd (omega arith)) (λ t. t))

up_length : (n : ℕ) → length (up_to n) ≡ n
unfolding up_to
up_length zero = refl
up_length (suc n) = omega (arith, length-append (up_to n) (n ∷ []), up_length n)

module _ (n : ℕ) (xs : List ℕ) where
  pub perm_distinct : Perm xs (up_to n) → Distinct xs
  perm_distinct p = nodup_distinct (Perm.nodup (Perm.symm p) (distinct_nodup (up_distinct n)))

  pub perm_below : Perm xs (up_to n) → (v : ℕ) → mem v xs ≡ true → v < n
  perm_below p v h = up_below n v (perm_mem v p h)

  pub perm_full : Perm xs (up_to n) → length xs ≡ n
  perm_full p = perm_length p ∙ up_length n

  module _ (d : Distinct xs) (b : (v : ℕ) → mem v xs ≡ true → v < n) (l : n ≤ length xs) where
    -- one that is missing would be one more
    pub all_there : (v : ℕ) → v < n → mem v xs ≡ true
    all_there v k = by_test (mem v xs)
        (λ t. t)
        (λ t. absurd (omega (arith, short n (v ∷ xs) (more t d) (within t))))
      where
        within : mem v xs ≡ false → (u : ℕ) → mem u (v ∷ xs) ≡ true → u < n
        within t u h = ⊎_elim (λ e. rw (← e) k) (λ c. b u (sym (mem_other u v xs c) ∙ h)) (decide v u)

    pub all_perm : Perm xs (up_to n)
    all_perm = same_perm xs (up_to n) (distinct_nodup d) (distinct_nodup (up_distinct n))
        (λ v h. below_up n v (b v h))
        (λ v h. all_there v (up_below n v h))

-- ---- what stands before a member

pub distinct_front : (xs : List ℕ) (y : ℕ) (ys : List ℕ) → Distinct (xs ++ (y ∷ ys)) → mem y xs ≡ false
unfolding mem
distinct_front [] y ys d = refl
distinct_front (x ∷ xs) y ys (more q d) = ⊎_elim
    (λ e. absurd (never q (rw e (mem_append y xs (y ∷ ys) ∙ rw (mem_head y ys) (or-true (mem y xs))))))
    (λ c. mem_other y x xs c ∙ distinct_front xs y ys d)
    (decide x y)

pub until_seam : (y : ℕ) (xs ys : List ℕ) → mem y xs ≡ false → until y (xs ++ (y ∷ ys)) ≡ xs
unfolding until mem
until_seam y [] ys h = rw (eq-eqb y y refl)
until_seam y (x ∷ xs) ys h = go (eqb x y) h (until_seam y xs ys)
  where
    go : (b : Bool) → cond b true (mem y xs) ≡ false → (mem y xs ≡ false → until y (xs ++ (y ∷ ys)) ≡ xs)
        → cond b [] (x ∷ until y (xs ++ (y ∷ ys))) ≡ x ∷ xs
    go true k ih = absurd (never k refl)
    go false k ih = ap (λ l. x ∷ l) (ih k)

pub until_front : (y : ℕ) (xs ys : List ℕ) → mem y xs ≡ true → until y (xs ++ ys) ≡ until y xs
unfolding until mem
until_front y [] ys h = absurd (never refl h)
until_front y (x ∷ xs) ys h = go (eqb x y) h (until_front y xs ys)
  where
    go : (b : Bool) → cond b true (mem y xs) ≡ true → (mem y xs ≡ true → until y (xs ++ ys) ≡ until y xs)
        → cond b [] (x ∷ until y (xs ++ ys)) ≡ cond b [] (x ∷ until y xs)
    go true k ih = refl
    go false k ih = ap (λ l. x ∷ l) (ih k)

-- what stands before v has less before it than v
pub until_less : (u v : ℕ) (xs : List ℕ) → mem u (until v xs) ≡ true → length (until u xs) < length (until v xs)
unfolding until mem
until_less u v [] h = absurd (never refl h)
until_less u v (x ∷ xs) h = go (eqb x v) (eqb x u) refl h (until_less u v xs)
  where
    go : (b c : Bool) → eqb x u ≡ c → mem u (cond b [] (x ∷ until v xs)) ≡ true → (mem u (until v xs) ≡ true → length (until u xs) < length (until v xs))
        → length (cond c [] (x ∷ until u xs)) < length (cond b [] (x ∷ until v xs))
    go true c e k ih = absurd (never refl k)
    go false true e k ih = omega arith
    go false false e k ih = let l = ih (sym (mem_other u x (until v xs) (eqb-false x u e)) ∙ k) in omega arith
