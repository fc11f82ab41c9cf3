-- `order_take::release_all`. Each way out is one law of Releasing.
-- Assumes nothing.
use Rattle.order_take.proofs.Releasing.{Releasing}
use Rattle.order_take.proofs.release_all.Given as goal

abbrev pub invariant-loop-e : goal.invariant-loop-e
invariant-loop-e l = Releasing l.edges l.heads l.links l.initial.waits l.initial.lows l.v l.waits l.lows l.e

abbrev pub decreases-loop-e : goal.decreases-loop-e
decreases-loop-e l = l.e
