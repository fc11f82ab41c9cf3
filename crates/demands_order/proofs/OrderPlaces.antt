-- The check goes along the list: the answer from a place on is the answer from the start, as long as each place before it is good.
-- Assumes nothing.
use Rattle.std.specs.Prelude.{Ok, Err, Result}
use Prim.Native.Nat.{ℕ, ◌≤◌, ◌<◌}
use mathlib.Core.Path.{◌≡◌, refl, sym, ◌∙◌, ap, subst}
use mathlib.Core.Logic.{⊎_elim}
use mathlib.Core.Bool.{true, false}
use mathlib.Core.List.{List, [], ◌∷◌, ◌++◌, append-nil}
use native.Mathlib.Omega.{arith}
use native.Mathlib.Nat.{eq-or-lt_of_le}
use lib.Dec.{ltb}
use lib.ListN.{length, get_or, take, length-append}
use lib.Seq.{append_snoc, take-append_seam, get_or-append_seam}
use borrow.Author.Tests.{ltb-true, ltb-false, lt-ltb, le-ltb}
use Rattle.text.proofs.Here.{by_test, never}
use Rattle.graph.specs.Numbers.{Row}
use Rattle.order_tables.specs.Free.{mem, free}
use Rattle.order_tables.proofs.Ready.{Awaited, unready, ready_edge, ready_all}
use Rattle.order_take.proofs.Taken.{InTurn, start, then_one, free_below, free_new, free_ready}
use Rattle.order_places.specs.Places.{place_from, place_of}
use Rattle.demands_order.specs.Order.{Valid, Good, Fault, no_node, there_already, from_later, WrongHere, at_place, at_end, FirstWrong}
use Rattle.demands_order.proofs.OrderValid.{valid_free, valid_length}

same_place : {i j : ℕ} → ◌≡◌ {A = Result (Unit {0}) ℕ} (Err i) (Err j) → i ≡ j
same_place e = cc

wrong_not_right : {i : ℕ} → ◌≡◌ {A = Result (Unit {0}) ℕ} (Err i) (Ok tt) → ⊥
wrong_not_right e = let z : ◌≡◌ {A = ℕ} 0 1 = cc in omega arith

module _ (n : ℕ) (es : List Row) where
  -- ---- a list is accepted

  right_turn : (rest done : List ℕ) → InTurn n es done → place_from n es done rest ≡ Ok tt → InTurn n es (done ++ rest) × (n ≤ length (done ++ rest))
  unfolding place_from
  right_turn [] done t h = by_test (ltb (length done) n)
      (λ k. absurd (wrong_not_right (rw k at h)))
      (λ k. rw append-nil (t, ltb-false _ _ k))
  right_turn (x ∷ xs) done t h = by_test (free n es done x)
      (λ k. rw (append_snoc done x xs) at (right_turn xs (done ++ (x ∷ [])) (then_one done x t k) (rw k at h)))
      (λ k. absurd (wrong_not_right (rw k at h)))

  pub right_in_turn : (xs : List ℕ) → place_of n es xs ≡ Ok tt → InTurn n es xs × (n ≤ length xs)
  right_in_turn xs h = right_turn xs [] start h

  valid_right_from : (rest done : List ℕ) → Valid n es (done ++ rest) → place_from n es done rest ≡ Ok tt
  unfolding place_from
  valid_right_from [] done v =
      let l : length (done ++ []) ≡ n = valid_length n es (done ++ []) v in
      let e : length done ≡ n = rw (append-nil done) at l in
      rw (le-ltb (length done) n (omega arith))
  valid_right_from (x ∷ xs) done v = rw (valid_free n es done x xs v) (valid_right_from xs (done ++ (x ∷ [])) (rw (append_snoc done x xs) v))

  pub valid_right : (xs : List ℕ) → Valid n es xs → place_of n es xs ≡ Ok tt
  valid_right xs v = valid_right_from xs [] v

  -- ---- good places and faults

  module _ (done : List ℕ) (x : ℕ) where
    pub free_good : free n es done x ≡ true → Good n es done x
    free_good f = record {
      node = free_below n es done x f;
      new = free_new n es done x f;
      after = λ u e. ready_edge done x es u (free_ready n es done x f) e;
    }

    pub good_free : Good n es done x → free n es done x ≡ true
    good_free g = rw (lt-ltb x n g.node, g.new, ready_all done x es g.after)

    unfree_fault : free n es done x ≡ false → Fault n es done x
    unfree_fault f = by_test (ltb x n)
        (λ b. by_test (mem x done)
        there_already
        (λ m. let a : Awaited done x es = unready done x es (rw (b, m) at f) in from_later a.from a.edge a.missing))
        (λ b. no_node (ltb-false x n b))

    fault_unfree : Fault n es done x → free n es done x ≡ false
    fault_unfree (no_node l) = rw (le-ltb x n l)
    fault_unfree (there_already m) = by_test (free n es done x) (λ f. absurd (never (free_new n es done x f) m)) (λ f. f)
    fault_unfree (from_later u e m) = by_test (free n es done x) (λ f. absurd (never m ((free_good f).after u e))) (λ f. f)

  -- ---- the first wrong place

  -- what stands at the end of what was gone through
  module _ (done : List ℕ) (x : ℕ) (xs list : List ℕ) (e : done ++ (x ∷ xs) ≡ list) where
    front_is : take (length done) list ≡ done
    front_is = rw (← e) (take-append_seam done (x ∷ xs))

    here_is : get_or list (length done) 0 ≡ x
    here_is = rw (← e) (get_or-append_seam done x xs 0)

    place_in : length done < length list
    place_in = rw (← e) (omega (arith, length-append done (x ∷ xs)))

    step_is : (done ++ (x ∷ [])) ++ xs ≡ list
    step_is = append_snoc done x xs ∙ e

  wrong_from : (rest done list : List ℕ) (i : ℕ) → done ++ rest ≡ list → ((j : ℕ) → j < length done → Good n es (take j list) (get_or list j 0))
      → place_from n es done rest ≡ Err i → FirstWrong n es list i
  unfolding place_from
  wrong_from [] done list i e g h =
      let m : length list ≡ length done = ap length (sym e ∙ append-nil done) in
      by_test (ltb (length done) n)
      (λ k. let q : length done ≡ i = same_place (rw k at h) in
      record { within = omega arith; good_before = λ j l. g j (omega arith); wrong = at_end (omega arith) (omega (arith, ltb-true (length done) n k)) })
      (λ k. absurd (wrong_not_right (sym (rw k at h))))
  wrong_from (x ∷ xs) done list i e g h = by_test (free n es done x)
      (λ k. wrong_from xs (done ++ (x ∷ [])) list i (step_is done x xs list e) (further k) (rw k at h))
      (λ k. let q : length done ≡ i = same_place (rw k at h) in
      let l : length done < length list = place_in done x xs list e in
      record {
        within = omega arith;
        good_before = λ j m. g j (omega arith);
        wrong = at_place (omega arith) (rw (← q, front_is done x xs list e, here_is done x xs list e) (unfree_fault done x k));
      })
    where
      further : free n es done x ≡ true → (j : ℕ) → j < length (done ++ (x ∷ [])) → Good n es (take j list) (get_or list j 0)
      further k j l = ⊎_elim
          (λ q. subst (λ (a : ℕ). Good n es (take a list) (get_or list a 0)) (sym q)
          (rw (front_is done x xs list e, here_is done x xs list e) (free_good done x k)))
          (g j)
          (eq-or-lt_of_le {n = j} {m = length done} (omega (arith, length-append done (x ∷ []))))

  pub wrong_first_wrong : (xs : List ℕ) (i : ℕ) → place_of n es xs ≡ Err i → FirstWrong n es xs i
  wrong_first_wrong xs i h = wrong_from xs [] xs i refl (λ j l. absurd (omega arith)) h

  first_from : (rest done list : List ℕ) (i : ℕ) → done ++ rest ≡ list → length done ≤ i → FirstWrong n es list i → place_from n es done rest ≡ Err i
  unfolding place_from
  first_from [] done list i e l w = go w.wrong
    where
      m : length list ≡ length done
      m = ap length (sym e ∙ append-nil done)

      go : WrongHere n es list i → place_from n es done [] ≡ Err i
      go (at_place k f) = absurd (omega (arith, m))
      go (at_end q k) = rw (lt-ltb (length done) n (omega (arith, m))) (ap Err (omega (arith, m)))
  first_from (x ∷ xs) done list i e l w = ⊎_elim
      (λ q. go q w.wrong)
      (λ k. rw (good_free done x (rw (front_is done x xs list e, here_is done x xs list e) at (w.good_before (length done) k)))
      (first_from xs (done ++ (x ∷ [])) list i (step_is done x xs list e) (omega (arith, length-append done (x ∷ []))) w))
      (eq-or-lt_of_le {n = length done} {m = i} l)
    where
      go : length done ≡ i → WrongHere n es list i → place_from n es done (x ∷ xs) ≡ Err i
      go q (at_place k f) =
          let f' : Fault n es done x = rw (← q, front_is done x xs list e, here_is done x xs list e) at f in
          rw (fault_unfree done x f') (ap Err q)
      go q (at_end r k) = absurd (omega (arith, place_in done x xs list e))

  pub first_wrong_wrong : (xs : List ℕ) (i : ℕ) → FirstWrong n es xs i → place_of n es xs ≡ Err i
  first_wrong_wrong xs i w = first_from xs [] xs i refl (omega arith) w
