-- What is taken stands before every other list that holds each node once and breaks no edge: up to the first difference both have the same nodes, and there
-- the other list has a node that is free too, so not a lower one.
-- Assumes nothing.
use Prim.Native.Nat.{ℕ, zero, suc, ◌+◌, ◌≤◌, ◌<◌}
use mathlib.Core.Path.{◌≡◌, sym, ◌∙◌, subst}
use mathlib.Core.Logic.{⊎_elim}
use mathlib.Core.Bool.{true}
use mathlib.Core.List.{List, [], ◌∷◌, ◌++◌, append-nil}
use native.Mathlib.Omega.{arith}
use native.Mathlib.Nat.{eq-or-lt_of_le}
use lib.Dec.{ltb}
use lib.ListN.{length, get_or, take, length-append, get_or-append}
use lib.Seq.{append_snoc, take-append_seam, take-append-le, get_or-append_seam}
use borrow.Author.Tests.{ltb-true, lt-ltb}
use Rattle.text.proofs.Here.{by_test, never}
use Rattle.graph.specs.Numbers.{Row}
use Rattle.order_tables.specs.Free.{free}
use Rattle.order_tables.proofs.Lowest.{lowest_has, lowest_low}
use Rattle.order_take.specs.Taking.{next, take_from, taken}
use Rattle.order_take.proofs.Taken.{free_below, take_ends, taken_distinct, taken_below}
use Rattle.demands_order.specs.Order.{Valid, NotAfter, same, lower, later, Good, LowestGood}
use Rattle.demands_order.proofs.OrderLists.{all_there}
use Rattle.demands_order.proofs.OrderValid.{valid_free, valid_length}
use Rattle.demands_order.proofs.OrderPlaces.{free_good, good_free}

behind_front : (front xs ys : List ℕ) → NotAfter xs ys → NotAfter (front ++ xs) (front ++ ys)
behind_front [] xs ys h = h
behind_front (x ∷ front) xs ys h = later (behind_front front xs ys h)

module _ (n : ℕ) (es : List Row) where
  -- ---- each place has the lowest node that is good there, and behind the last none is

  abbrev AllLowest : List ℕ → Type 0
  AllLowest xs = (i : ℕ) → i < length xs → LowestGood n es (take i xs) (get_or xs i 0)

  one_more : (done : List ℕ) (v : ℕ) → AllLowest done → LowestGood n es done v → AllLowest (done ++ (v ∷ []))
  one_more done v f g i l = ⊎_elim
      (λ q. subst (λ (a : ℕ). LowestGood n es (take a (done ++ (v ∷ []))) (get_or (done ++ (v ∷ [])) a 0)) (sym q)
      (rw (take-append_seam done (v ∷ []), get_or-append_seam done v [] 0) g))
      (λ m. rw (take-append-le i done (v ∷ []) (omega arith), get_or-append done (v ∷ []) 0 i m) (f i m))
      (eq-or-lt_of_le {n = i} {m = length done} (omega (arith, length-append done (v ∷ []))))

  all_lowest : (k : ℕ) (done : List ℕ) → AllLowest done → AllLowest (take_from k n es done)
  unfolding take_from
  all_lowest zero done f = f
  all_lowest (suc k) done f = by_test (ltb (next n es done) n)
      (λ h. rw h (all_lowest k (done ++ (next n es done ∷ [])) (one_more done (next n es done) f (here (ltb-true _ _ h)))))
      (λ h. rw h f)
    where
      here : next n es done < n → LowestGood n es done (next n es done)
      here l = record {
        good = free_good n es done (next n es done) (lowest_has (free n es done) n l);
        lowest = λ w g. lowest_low (free n es done) n w (good_free n es done w g);
      }

  pub taken_lowest : (i : ℕ) → i < length (taken n es) → LowestGood n es (take i (taken n es)) (get_or (taken n es) i 0)
  taken_lowest = all_lowest n [] (λ i l. absurd (omega arith))

  pub taken_all : (v : ℕ) → Good n es (taken n es) v → ⊥
  taken_all v g = ⊎_elim
      (λ e. never g.new (all_there n (taken n es) (taken_distinct n es) (taken_below n es) (omega (arith, e)) v g.node))
      (λ l. omega (arith, g.node, lowest_low (free n es (taken n es)) n v (good_free n es (taken n es) v g)))
      (take_ends n es n [])

  -- ---- no other list stands before it

  -- nodes are taken behind those that were taken
  record Kept (k : ℕ) (done : List ℕ) : Type 0 where
    rest : List ℕ
    is : take_from k n es done ≡ done ++ rest

  kept : (k : ℕ) (done : List ℕ) → Kept k done
  unfolding take_from
  kept zero done = record { rest = []; is = sym (append-nil done) }
  kept (suc k) done = by_test (ltb (next n es done) n)
      (λ h. let r = kept k (done ++ (next n es done ∷ [])) in
      record { rest = next n es done ∷ r.rest; is = rw h (r.is ∙ append_snoc done (next n es done) r.rest) })
      (λ h. record { rest = []; is = rw h (sym (append-nil done)) })

  -- the other list has the same node here, or a higher one
  as_low : (k : ℕ) (done : List ℕ) (y : ℕ) (ys : List ℕ) → next n es done ≡ y → NotAfter (take_from k n es (done ++ (y ∷ []))) ((done ++ (y ∷ [])) ++ ys)
      → NotAfter (take_from k n es (done ++ (next n es done ∷ []))) (done ++ (y ∷ ys))
  as_low k done y ys q h = rw (q, ← append_snoc done y ys) h

  lower_here : (k : ℕ) (done : List ℕ) (y : ℕ) (ys : List ℕ) → next n es done < y
      → NotAfter (take_from k n es (done ++ (next n es done ∷ []))) (done ++ (y ∷ ys))
  lower_here k done y ys l =
      let r = kept k (done ++ (next n es done ∷ [])) in
      rw (r.is, append_snoc done (next n es done) r.rest) (behind_front done (next n es done ∷ r.rest) (y ∷ ys) (lower l))

  least_from : (k : ℕ) (done rest : List ℕ) → length done + k ≡ n → Valid n es (done ++ rest) → NotAfter (take_from k n es done) (done ++ rest)
  unfolding take_from
  least_from zero done [] e v = rw append-nil same
  least_from zero done (y ∷ ys) e v = absurd (omega (arith, valid_length n es (done ++ (y ∷ ys)) v, length-append done (y ∷ ys)))
  least_from (suc k) done [] e v = absurd (omega (arith, valid_length n es (done ++ []) v, length-append {A = ℕ} done []))
  least_from (suc k) done (y ∷ ys) e v = rw (lt-ltb (next n es done) n (omega (arith, low, free_below n es done y f))) (⊎_elim
      (λ q. as_low k done y ys q (least_from k (done ++ (y ∷ [])) ys (omega (arith, length-append done (y ∷ []))) (rw (append_snoc done y ys) v)))
      (λ l. lower_here k done y ys l)
      (eq-or-lt_of_le {n = next n es done} {m = y} low))
    where
      f : free n es done y ≡ true
      f = valid_free n es done y ys v

      low : next n es done ≤ y
      low = lowest_low (free n es done) n y f

  pub taken_least : (xs : List ℕ) → Valid n es xs → NotAfter (taken n es) xs
  taken_least xs v = least_from n [] xs (omega arith) v
