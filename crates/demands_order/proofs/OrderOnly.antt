-- Two cycles on the way back are the same: the way comes to both, so one of them holds a node of the other; going back from it goes through both, and from
-- the lowest node back each place of the one is that of the other.
-- Assumes nothing.
use Prim.Native.Nat.{ℕ, zero, suc, ◌+◌, ◌-◌, ◌≤◌, ◌<◌}
use mathlib.Core.Path.{◌≡◌}
use mathlib.Core.Bool.{true}
use mathlib.Core.List.{List}
use native.Mathlib.Omega.{arith}
use native.Mathlib.Nat.{zero-add, suc-add}
use native.Mathlib.Numerals.{add-one}
use lib.Dec.{leb}
use lib.ListN.{length, get_or}
use lib.Seq.{ext_get_or}
use borrow.Author.Tests.{leb-true, leb-false}
use Rattle.text.proofs.Here.{by_test}
use Rattle.graph.specs.Numbers.{Row}
use Rattle.order_tables.specs.Free.{mem}
use Rattle.order_tables.proofs.Mem.{Placed, mem_place, place_mem}
use Rattle.demands_order.specs.Order.{LowestLeft, LowestTo, Reached, first, further, BackCycle}
use Rattle.demands_order.proofs.OrderLists.{nodup_length}

module _ (n : ℕ) (es : List Row) (done : List ℕ) where
  one_lowest : {v w : ℕ} → LowestLeft n done v → LowestLeft n done w → v ≡ w
  one_lowest {v} {w} a b = omega (arith, a.lowest w b.node b.left_over, b.lowest v a.node a.left_over)

  one_before : {u w v : ℕ} → LowestTo es done u v → LowestTo es done w v → u ≡ w
  one_before {u} {w} a b = omega (arith, a.lowest w b.edge b.left_over, b.lowest u a.edge a.left_over)

  -- ---- the way back, step by step

  After : ℕ → ℕ → Type 0
  After zero v = LowestLeft n done v
  After (suc k) v = (u : ℕ) × After k u × LowestTo es done v u

  record Steps (v : ℕ) : Type 0 where
    count : ℕ
    after : After count v

  steps : {v : ℕ} → Reached n es done v → Steps v
  unfolding After
  steps (first l) = record { count = 0; after = l }
  steps (further {v = v} r l) = let s = steps r in record { count = suc s.count; after = (v, s.after, l) }

  one_after : (k : ℕ) {v w : ℕ} → After k v → After k w → v ≡ w
  unfolding After
  one_after zero a b = one_lowest a b
  one_after (suc k) {v} {w} a b = one_before a.2 (rw (one_after k b.1 a.1) at b.2)

  -- ---- going back within a cycle

  module _ (xs : List ℕ) (c : BackCycle n es done xs) where
    back_in : (u v : ℕ) → LowestTo es done u v → mem v xs ≡ true → mem u xs ≡ true
    back_in u v l h = go p.place p.below p.same
      where
        p : Placed v xs
        p = mem_place v xs h

        go : (i : ℕ) → i < length xs → get_or xs i 0 ≡ v → mem u xs ≡ true
        go zero k e =
            let q : u ≡ get_or xs (length xs - 1) 0 = one_before l (rw e at c.back_first) in
            rw q (place_mem xs (length xs - 1) (omega arith))
        go (suc i) k e =
            let t : LowestTo es done (get_or xs i 0) (get_or xs (suc i) 0) = rw add-one at (c.back_next i (omega arith)) in
            let q : u ≡ get_or xs i 0 = one_before l (rw e at t) in
            rw q (place_mem xs i (omega arith))

    -- what is come to from a node of the cycle
    back_on : (k j : ℕ) (v w : ℕ) → After k v → mem v xs ≡ true → After (j + k) w → mem w xs ≡ true
    unfolding After
    back_on k j v w a h b = go j w b
      where
        go : (j w : ℕ) → After (j + k) w → mem w xs ≡ true
        go zero w b = rw (one_after k (rw zero-add at b) a) h
        go (suc j) w b = let s : After (suc (j + k)) w = rw suc-add at b in back_in w s.0 s.2 (go j s.0 s.1)

    -- a set that holds a node of the cycle, and with each node the one before it, holds the cycle
    module _ (in-set : ℕ → Type 0) (closed : (u v : ℕ) → LowestTo es done u v → in-set v → in-set u) where
      down : (i j : ℕ) → i + j < length xs → in-set (get_or xs (i + j) 0) → in-set (get_or xs j 0)
      down zero j l h = rw zero-add at h
      down (suc i) j l h =
          let t = c.back_next (i + j) (omega arith) in
          let e : i + j + 1 ≡ suc i + j = omega arith in
          down i j (omega arith) (closed (get_or xs (i + j) 0) (get_or xs (i + j + 1) 0) t (rw e h))

      holds_first : (v : ℕ) → mem v xs ≡ true → in-set v → in-set (get_or xs 0 0)
      holds_first v m h =
          let p = mem_place v xs m in
          let e : p.place + 0 ≡ p.place = omega arith in
          down p.place 0 (omega (arith, p.below)) (rw (e, p.same) h)

      holds_all : in-set (get_or xs 0 0) → (v : ℕ) → mem v xs ≡ true → in-set v
      holds_all h v m =
          let p = mem_place v xs m in
          let l = p.below in
          let e : length xs - 1 - p.place + p.place ≡ length xs - 1 = omega arith in
          rw p.same at (down (length xs - 1 - p.place) p.place (omega arith) (rw e (closed _ _ c.back_first h)))

  -- ---- two cycles

  module _ (xs ys : List ℕ) (c : BackCycle n es done xs) (d : BackCycle n es done ys) where
    first_in : mem (get_or xs 0 0) ys ≡ true
    first_in = by_test (leb s.count t.count)
        (λ f. let l : s.count ≤ t.count = leb-true _ _ f in
        let e : t.count - s.count + s.count ≡ t.count = omega arith in
        let h : mem (get_or ys 0 0) xs ≡ true = back_on xs c s.count (t.count - s.count) _ _ s.after here (rw e t.after) in
        holds_first xs c (λ v. mem v ys ≡ true) (back_in ys d) (get_or ys 0 0) h there)
        (λ f. let l : t.count < s.count = leb-false _ _ f in
        let e : s.count - t.count + t.count ≡ s.count = omega arith in
        back_on ys d t.count (s.count - t.count) _ _ t.after there (rw e s.after))
      where
        here : mem (get_or xs 0 0) xs ≡ true
        here = place_mem xs 0 c.cycle.some

        there : mem (get_or ys 0 0) ys ≡ true
        there = place_mem ys 0 d.cycle.some

        s : Steps (get_or xs 0 0)
        s = steps (c.reached (get_or xs 0 0) here)

        t : Steps (get_or ys 0 0)
        t = steps (d.reached (get_or ys 0 0) there)

    all_in : (v : ℕ) → mem v xs ≡ true → mem v ys ≡ true
    all_in = holds_all xs c (λ v. mem v ys ≡ true) (back_in ys d) first_in

  module _ (xs ys : List ℕ) (c : BackCycle n es done xs) (d : BackCycle n es done ys) where
    same_length : length xs ≡ length ys
    same_length = nodup_length xs ys c.cycle.differ d.cycle.differ (all_in xs ys c d) (all_in ys xs d c)

    same_first : get_or xs 0 0 ≡ get_or ys 0 0
    same_first = omega (arith, c.lowest_first (get_or ys 0 0) (first_in ys xs d c), d.lowest_first (get_or xs 0 0) (first_in xs ys c d))

    same_from_end : (k i : ℕ) → i + k + 1 ≡ length xs → get_or xs i 0 ≡ get_or ys i 0
    same_from_end zero i e =
        let p : length xs - 1 ≡ i = omega arith in
        let q : length ys - 1 ≡ i = omega (arith, same_length) in
        let a : LowestTo es done (get_or xs i 0) (get_or ys 0 0) = rw (p, same_first) at c.back_first in
        one_before a (rw q at d.back_first)
    same_from_end (suc k) i e =
        let a : LowestTo es done (get_or xs i 0) (get_or ys (i + 1) 0) = rw (same_from_end k (i + 1) (omega arith)) at (c.back_next i (omega arith)) in
        one_before a (d.back_next i (omega (arith, same_length)))

    pub one_cycle : xs ≡ ys
    one_cycle = ext_get_or 0 xs ys same_length (λ i l. same_from_end (length xs - 1 - i) i (omega arith))
