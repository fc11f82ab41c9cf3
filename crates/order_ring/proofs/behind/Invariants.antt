-- `order_ring::behind`. Each way out is one law of Parts.
-- Assumes nothing.
use Rattle.order_ring.proofs.Parts.{Seeking}
use Rattle.order_ring.proofs.behind.Given as goal

abbrev pub invariant-loop-i : goal.invariant-loop-i
invariant-loop-i l = Seeking l.trail l.at l.v l.i
