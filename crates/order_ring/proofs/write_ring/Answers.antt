-- `order_ring::write_ring`. The two parts written one behind the other are the ring.
-- Assumes nothing.
use Rattle.order_ring.proofs.Rings.{front_long, cleared, ring_written}
use Rattle.order_ring.proofs.write_ring.Goals as goal

pub slice_bounds-fill-end-2 : goal.slice_bounds-fill-end-2
slice_bounds-fill-end-2 c = search front_long

pub returns : goal.returns
returns c =
    ring_written _ _ _ _ _ _ _ c.make_trail-at.auto.trail c.make_trail-at.ensures c.behind-end.ensures c.lowest_place-low.ensures
    c.args.order.now c.requires.1 (cleared _ _ c.requires.2 c.requires.4 (c.fill.ensures.after (λ y e. e))) c.copy.ensures
    c.copy-2.ensures
