-- A ring on the way back, place by place; and going round it once is a chain that comes back.
-- Assumes nothing.
use Prim.Native.Nat.{ℕ, zero, suc, ◌+◌, ◌-◌, ◌<◌}
use mathlib.Core.Path.{◌≡◌}
use mathlib.Core.Bool.{true, ◌&&◌}
use mathlib.Core.List.{List, [], ◌∷◌}
use native.Mathlib.Omega.{arith}
use native.Mathlib.Numerals.{add-one}
use lib.ListN.{length, get_or}
use borrow.Author.Tests.{not-true}
use Rattle.graph.specs.Numbers.{Row, row, mem_r}
use Rattle.order_tables.specs.Free.{Stuck}
use Rattle.order_tables.specs.Tables.{all_within}
use Rattle.order_tables.proofs.Lowest.{lowest_has, lowest_low}
use Rattle.order_ring.specs.Ring.{left, first_left, before, go_back, ring_of}
use Rattle.order_ring.proofs.Round.{Along, Round, Led, Reached, first, further, Ringed, ring_ringed, first_lowest}
use Rattle.demands_order.specs.Order as Order
use Rattle.demands_order.specs.Order.{Chain, one, on, Returns, LowestLeft, LowestTo, BackCycle}
use Rattle.demands_order.proofs.OrderLists.{distinct_nodup}

-- ---- a ring, place by place

module _ (leads : ℕ → ℕ → Type 0) where
  along_next : (u : ℕ) (xs : List ℕ) (v : ℕ) → Along leads u xs v → (i : ℕ) → i < length xs → leads (get_or (u ∷ xs) i 0) (get_or xs i 0)
  unfolding Along
  along_next u [] v a i l = absurd (omega arith)
  along_next u (x ∷ xs) v a zero l = a.0
  along_next u (x ∷ xs) v a (suc i) l = along_next x xs v a.1 i (omega arith)

  along_last : (u : ℕ) (xs : List ℕ) (v : ℕ) → Along leads u xs v → leads (get_or (u ∷ xs) (length xs) 0) v
  unfolding Along
  along_last u [] v a = a
  along_last u (x ∷ xs) v a = along_last x xs v a.1

  round_some : (xs : List ℕ) → Round leads xs → 0 < length xs
  unfolding Round
  round_some [] r = absurd r
  round_some (x ∷ xs) r = omega arith

  round_next : (xs : List ℕ) → Round leads xs → (i : ℕ) → i + 1 < length xs → leads (get_or xs i 0) (get_or xs (i + 1) 0)
  unfolding Round
  round_next [] r i l = absurd r
  round_next (x ∷ xs) r i l = rw add-one (along_next x xs x r i (omega arith))

  round_first : (xs : List ℕ) → Round leads xs → leads (get_or xs (length xs - 1) 0) (get_or xs 0 0)
  unfolding Round
  round_first [] r = absurd r
  round_first (x ∷ xs) r = let e : length (x ∷ xs) - 1 ≡ length xs = omega arith in rw e (along_last x xs x r)

module _ (n : ℕ) (es : List Row) (done : List ℕ) where
  along_chain : (u : ℕ) (xs : List ℕ) (v : ℕ) → Along (Led n es done) u xs v → Chain es u v
  unfolding Along
  along_chain u [] v a = one a.edge
  along_chain u (x ∷ xs) v a = on a.0.edge (along_chain x xs v a.1)

  pub round_returns : (xs : List ℕ) → Round (Led n es done) xs → Returns es
  unfolding Round
  round_returns [] r = absurd r
  round_returns (x ∷ xs) r = record { node = x; chain = along_chain x xs x r }

  -- ---- the way back

  led_lowest : {u v : ℕ} → Led n es done u v → LowestTo es done u v
  led_lowest {u} {v} l = record {
    edge = l.edge;
    left_over = l.over;
    lowest = λ w e m. omega (arith, l.is, lowest_low (λ x. left done x && mem_r (row x v) es) n w (rw (m, e)));
  }

  module _ (stuck : Stuck n es done) where
    first_left_lem : LowestLeft n done (first_left n done)
    first_left_lem = record {
      node = stuck.some;
      left_over = not-true _ (lowest_has (left done) n stuck.some);
      lowest = λ w b k. lowest_low (left done) n w (rw k);
    }

    reached : {v : ℕ} → Reached n es done v → Order.Reached n es done v
    reached (first {v = v} e) = Order.first {v = v} (rw e first_left_lem)
    reached (further r l) = Order.further (reached r) (led_lowest l)

    module _ (inside : all_within n es ≡ true) where
      abbrev ring : List ℕ
      ring = ring_of n es done

      pub ringed : Ringed n es done ring
      ringed = ring_ringed n es done stuck inside

      led_next : (i : ℕ) → i + 1 < length ring → Led n es done (get_or ring i 0) (get_or ring (i + 1) 0)
      led_next = round_next (Led n es done) ring ringed.round

      led_first : Led n es done (get_or ring (length ring - 1) 0) (get_or ring 0 0)
      led_first = round_first (Led n es done) ring ringed.round

      pub back_cycle : BackCycle n es done ring
      back_cycle = record {
        cycle = record {
          some = round_some (Led n es done) ring ringed.round;
          differ = distinct_nodup ringed.differ;
          to_next = λ i l. (led_next i l).edge;
          to_first = led_first.edge;
        };
        nodes = λ v h. (ringed.way v h).below;
        left_over = λ v h. (ringed.way v h).over;
        reached = λ v h. reached (ringed.way v h).reached;
        back_next = λ i l. led_lowest (led_next i l);
        back_first = led_lowest led_first;
        lowest_first = first_lowest (go_back (before n es done) (suc n) [] (first_left n done));
      }
