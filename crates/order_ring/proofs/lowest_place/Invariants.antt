-- `order_ring::lowest_place`. Each way through the loop is one law of Parts.
-- Assumes nothing.
use Rattle.order_ring.proofs.Parts.{Lowering}
use Rattle.order_ring.proofs.lowest_place.Given as goal

abbrev pub invariant-loop-i : goal.invariant-loop-i
invariant-loop-i l = Lowering l.trail l.at l.end l.p l.i
