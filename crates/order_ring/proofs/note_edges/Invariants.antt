-- `order_ring::note_edges`. What each turn keeps, by the laws of Noting.
-- Assumes nothing.
use Rattle.order_ring.proofs.Noting.{Noting}
use Rattle.order_ring.proofs.note_edges.Given as goal

abbrev pub invariant-loop-i : goal.invariant-loop-i
invariant-loop-i l = Noting l.edges l.m l.gone l.initial.before l.before l.i
