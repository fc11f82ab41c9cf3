-- `order_ring::go_back`. What each turn keeps, by the laws of Back.
-- Assumes nothing.
use Rattle.order_ring.proofs.Back.{Going}
use Rattle.order_ring.proofs.go_back.Given as goal

abbrev pub invariant-loop-gone : goal.invariant-loop-gone
invariant-loop-gone l = Going l.before l.v l.initial.gone l.initial.trail l.gone l.trail l.node l.at

abbrev pub decreases-loop-gone : goal.decreases-loop-gone
decreases-loop-gone l = l.at
