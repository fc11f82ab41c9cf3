-- `order_ring::mark`. Each way out is one law of Marking.
-- Assumes nothing.
use Rattle.order_ring.proofs.Marking.{Marking}
use Rattle.order_ring.proofs.mark.Given as goal

abbrev pub invariant-loop-x : goal.invariant-loop-x
invariant-loop-x l = Marking l.list l.count l.initial.gone l.gone l.x-index
