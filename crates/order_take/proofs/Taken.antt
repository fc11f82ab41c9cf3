-- Each node that is taken is free after those before it, so no node is taken twice; and where fewer than n are taken, none of those left over is free.
-- Assumes nothing.
use Prim.Native.Nat.{ℕ, zero, suc, ◌+◌, ◌≤◌, ◌<◌}
use mathlib.Core.Path.{◌≡◌, sym, ◌∙◌}
use mathlib.Core.Logic.{◌⊎◌, inl, inr, ⊎_elim}
use mathlib.Core.Bool.{true, false, not}
use mathlib.Core.List.{List, [], ◌∷◌, ◌++◌}
use native.Mathlib.Omega.{arith}
use lib.Dec.{ltb}
use lib.ListN.{length, length-append}
use borrow.Author.Tests.{ltb-true, ltb-false, lt-ltb, not-true, not-false}
use Rattle.text.proofs.Here.{by_test, never, both}
use Rattle.text_lent.proofs.Numbers.{decide}
use Rattle.graph.specs.Numbers.{Row}
use Rattle.order_tables.specs.Free.{mem, ready, free, lowest, Stuck}
use Rattle.order_tables.proofs.Mem.{mem_snoc_else}
use Rattle.order_tables.proofs.Lowest.{lowest_has, lowest_none}
use Rattle.order_tables.proofs.Distinct.{Distinct, none, distinct_snoc, short, covers}
use Rattle.order_take.specs.Taking.{next, take_from, taken}

-- ---- a list in which each node is free after those before it

pub data InTurn (n : ℕ) (es : List Row) : List ℕ → Type 0 where
  start : InTurn n es []
  then_one : (done : List ℕ) (v : ℕ) → InTurn n es done → free n es done v ≡ true → InTurn n es (done ++ (v ∷ []))

module _ (n : ℕ) (es : List Row) where
  module _ (done : List ℕ) (v : ℕ) (f : free n es done v ≡ true) where
    pub free_below : v < n
    free_below = ltb-true v n (both (ltb v n) _ f).0

    pub free_new : mem v done ≡ false
    free_new = not-true (mem v done) (both (not (mem v done)) _ (both (ltb v n) _ f).1).0

    pub free_ready : ready es done v ≡ true
    free_ready = (both (not (mem v done)) _ (both (ltb v n) _ f).1).1

  pub turn_distinct : {xs : List ℕ} → InTurn n es xs → Distinct xs
  turn_distinct start = none
  turn_distinct (then_one done v t f) = distinct_snoc done v (turn_distinct t) (free_new done v f)

  pub turn_below : {xs : List ℕ} → InTurn n es xs → (v : ℕ) → mem v xs ≡ true → v < n
  unfolding mem
  turn_below start v h = let z : ◌≡◌ {A = ℕ} 0 1 = cc in absurd (omega arith)
  turn_below (then_one done u t f) v h = ⊎_elim
      (λ e. rw e (free_below done u f))
      (λ d. turn_below t v (sym (mem_snoc_else v u done d) ∙ h))
      (decide v u)

  -- ---- what is taken is such a list

  take_in_turn : (k : ℕ) (done : List ℕ) → InTurn n es done → InTurn n es (take_from k n es done)
  unfolding take_from
  take_in_turn zero done t = t
  take_in_turn (suc k) done t = by_test (ltb (next n es done) n)
      (λ h. rw h (take_in_turn k (done ++ (next n es done ∷ [])) (then_one done (next n es done) t (lowest_has (free n es done) n (ltb-true _ _ h)))))
      (λ h. rw h t)

  pub taken_in_turn : InTurn n es (taken n es)
  taken_in_turn = take_in_turn n [] start

  pub taken_distinct : Distinct (taken n es)
  taken_distinct = turn_distinct taken_in_turn

  pub taken_below : (v : ℕ) → mem v (taken n es) ≡ true → v < n
  taken_below = turn_below taken_in_turn

  pub taken_short : length (taken n es) ≤ n
  taken_short = short n (taken n es) taken_distinct taken_below

  -- ---- all turns were used, or no node is free any more

  pub take_ends : (k : ℕ) (done : List ℕ) → (length (take_from k n es done) ≡ length done + k) ⊎ (n ≤ next n es (take_from k n es done))
  unfolding take_from
  take_ends zero done = inl (omega arith)
  take_ends (suc k) done = by_test (ltb (next n es done) n)
      (λ h. rw h (⊎_elim
      (λ e. inl (omega (arith, e, length-append done (next n es done ∷ []))))
      inr
      (take_ends k (done ++ (next n es done ∷ [])))))
      (λ h. rw h (inr (ltb-false _ _ h)))

  -- one is left over, since all n would be n
  one_left : length (taken n es) < n → lowest (λ v. not (mem v (taken n es))) n < n
  one_left l = by_test (ltb (lowest (λ v. not (mem v (taken n es))) n) n) (λ h. ltb-true _ _ h) (λ h. absurd (omega (arith, all (ltb-false _ _ h))))
    where
      all : n ≤ lowest (λ v. not (mem v (taken n es))) n → n ≤ length (taken n es)
      all m = covers n (taken n es) (λ v b. not-false (mem v (taken n es)) (lowest_none (λ u. not (mem u (taken n es))) n v (omega arith)))

  none_free : n ≤ next n es (taken n es) → (v : ℕ) → v < n → mem v (taken n es) ≡ false → ready es (taken n es) v ≡ false
  none_free e v b m = by_test (ready es (taken n es) v)
      (λ r. absurd (never (lowest_none (free n es (taken n es)) n v (omega arith)) (rw (lt-ltb v n b, m, r))))
      (λ r. r)

  pub taken_stuck : length (taken n es) < n → Stuck n es (taken n es)
  taken_stuck l = record {
    below = taken_below;
    some = one_left l;
    waiting = none_free (⊎_elim (λ e. absurd (omega (arith, e))) (λ e. e) (take_ends n []));
  }
