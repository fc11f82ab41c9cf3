-- Below the lowest number with a property none has it, and it is the only one so. The first zero of a part of a table is the lowest number there whose
-- word is 0.
-- Assumes nothing.
use mathlib.Core.Path.{◌≡◌, refl, sym, ap, ◌∙◌}
use mathlib.Core.Bool.{Bool, true, false, cond}
use mathlib.Core.Logic.{⊎_elim}
use mathlib.Core.List.{List}
use Prim.Native.Nat.{ℕ, zero, suc, ◌+◌, ◌-◌, ◌≤◌, ◌<◌, max}
use native.Mathlib.Omega.{arith}
use native.Mathlib.Nat.{eq-or-lt_of_le}
use native.Mathlib.Numerals.{add-one}
use lib.ListN.{get_or}
use lib.Dec.{ltb}
use borrow.Author.Tests.{eqb-true, eq-eqb, ne_eqb, ltb-true, ltb-false}
use Rattle.text.proofs.Here.{by_test, never}
use Rattle.order_tables.specs.Free.{lowest_from, lowest, zero_at}

module _ (p : ℕ → Bool) where
  from_bounds : (i k : ℕ) → (i ≤ lowest_from p i k) × (lowest_from p i k ≤ i + k)
  unfolding lowest_from
  from_bounds i zero = (omega arith, omega arith)
  from_bounds i (suc k) = go (p i) (from_bounds (suc i) k)
    where
      go : (b : Bool) → (suc i ≤ lowest_from p (suc i) k) × (lowest_from p (suc i) k ≤ suc i + k)
          → (i ≤ cond b i (lowest_from p (suc i) k)) × (cond b i (lowest_from p (suc i) k) ≤ i + suc k)
      go true h = (omega arith, omega arith)
      go false h = (omega (arith, h.0), omega (arith, h.1))

  from_has : (i k : ℕ) → lowest_from p i k < i + k → p (lowest_from p i k) ≡ true
  unfolding lowest_from
  from_has i zero l = absurd (omega arith)
  from_has i (suc k) l = go (p i) refl (from_has (suc i) k) l
    where
      go : (b : Bool) → p i ≡ b → (lowest_from p (suc i) k < suc i + k → p (lowest_from p (suc i) k) ≡ true)
          → cond b i (lowest_from p (suc i) k) < i + suc k → p (cond b i (lowest_from p (suc i) k)) ≡ true
      go true e ih m = e
      go false e ih m = ih (omega (arith, m))

  from_none : (i k j : ℕ) → i ≤ j → j < lowest_from p i k → p j ≡ false
  unfolding lowest_from
  from_none i zero j l m = absurd (omega arith)
  from_none i (suc k) j l m = go (p i) refl (from_none (suc i) k j) m
    where
      go : (b : Bool) → p i ≡ b → (suc i ≤ j → j < lowest_from p (suc i) k → p j ≡ false) → j < cond b i (lowest_from p (suc i) k) → p j ≡ false
      go true e ih h = absurd (omega arith)
      go false e ih h = ⊎_elim (λ q. rw (← q) e) (λ q. ih q h) (eq-or-lt_of_le {n = i} {m = j} l)

  module _ (n : ℕ) where
    pub lowest_most : lowest p n ≤ n
    lowest_most = omega (arith, (from_bounds 0 n).1)

    pub lowest_has : lowest p n < n → p (lowest p n) ≡ true
    lowest_has l = from_has 0 n (omega arith)

    pub lowest_none : (j : ℕ) → j < lowest p n → p j ≡ false
    lowest_none j l = from_none 0 n j (omega arith) l

    -- one that has p is not below the lowest
    pub lowest_low : (w : ℕ) → p w ≡ true → lowest p n ≤ w
    lowest_low w h = by_test (ltb w (lowest p n)) (λ t. absurd (never (lowest_none w (ltb-true _ _ t)) h)) (λ t. ltb-false _ _ t)

    pub lowest_is : (r : ℕ) → r < n → p r ≡ true → ((j : ℕ) → j < r → p j ≡ false) → lowest p n ≡ r
    lowest_is r l h none = ⊎_elim
        (λ e. e)
        (λ m. absurd (never (none (lowest p n) m) (lowest_has (omega arith))))
        (eq-or-lt_of_le {n = lowest p n} {m = r} (lowest_low r h))

    pub lowest_not : ((j : ℕ) → j < n → p j ≡ false) → lowest p n ≡ n
    lowest_not none =
        ⊎_elim (λ e. e) (λ m. absurd (never (none (lowest p n) m) (lowest_has m))) (eq-or-lt_of_le {n = lowest p n} {m = n} lowest_most)

-- a longer look finds the same where a shorter one finds some
pub lowest_wider : (p : ℕ → Bool) (n k : ℕ) → n ≤ k → lowest p n < n → lowest p k ≡ lowest p n
lowest_wider p n k l m = lowest_is p k (lowest p n) (omega arith) (lowest_has p n m) (lowest_none p n)

from_same : (p q : ℕ → Bool) (i k : ℕ) → ((j : ℕ) → i ≤ j → j < i + k → p j ≡ q j) → lowest_from p i k ≡ lowest_from q i k
unfolding lowest_from
from_same p q i zero h = refl
from_same p q i (suc k) h = rw (h i (omega arith) (omega arith), from_same p q (suc i) k (λ j a b. h j (omega arith) (omega arith)))

pub lowest_same : (p q : ℕ → Bool) (n : ℕ) → ((j : ℕ) → j < n → p j ≡ q j) → lowest p n ≡ lowest q n
lowest_same p q n same = from_same p q 0 n (λ j a b. same j (omega arith))

-- ---- the loop of `first_zero`

module _ (t : List ℕ) (first last : ℕ) where
  abbrev answer : ℕ
  answer = lowest_from (zero_at t) first (last - first)

  -- what the loop keeps: the answer from here is the answer from the start
  abbrev pub Sought : ℕ → Type 0
  Sought v = lowest_from (zero_at t) v (last - v) ≡ answer

  module _ (v : ℕ) (h : Sought v) where
    pub seek_hit : v < last → get_or t v 0 ≡ 0 → v ≡ answer
    unfolding lowest_from
    seek_hit l z = let e : last - v ≡ suc (last - (v + 1)) = omega arith in sym (ap (lowest_from (zero_at t) v) e ∙ rw (eq-eqb (get_or t v 0) 0 z)) ∙ h

    pub seek_on : v < last → (get_or t v 0 ≡ 0 → ⊥) → Sought (v + 1)
    unfolding lowest_from
    seek_on l d =
        let e : last - v ≡ suc (last - (v + 1)) = omega arith in
        sym (ap (lowest_from (zero_at t) v) e ∙ rw (ne_eqb (get_or t v 0) 0 d, ← add-one v)) ∙ h

    -- all were passed, or there are none
    pub seek_done : last ≤ v → (first ≤ last → v ≤ last) → {r : ℕ} → r ≡ max first last → r ≡ answer
    unfolding lowest_from
    seek_done l m {r} k =
        let e : last - v ≡ 0 = omega arith in
        let f : v ≡ answer = sym (ap (lowest_from (zero_at t) v) e) ∙ h in
        omega (arith, from_bounds (zero_at t) first (last - first))

  -- what is known of it
  module _ {r : ℕ} (q : r ≡ answer) where
    pub none_before : (w : ℕ) → first ≤ w → w < r → get_or t w 0 ≡ 0 → ⊥
    none_before w a b z = never (from_none (zero_at t) first (last - first) w a (omega arith)) (eq-eqb (get_or t w 0) 0 z)

    pub zero_there : r < last → get_or t r 0 ≡ 0
    zero_there l =
        let h = from_has (zero_at t) first (last - first) (omega (arith, (from_bounds (zero_at t) first (last - first)).0)) in
        eqb-true (get_or t r 0) 0 (rw q h)
