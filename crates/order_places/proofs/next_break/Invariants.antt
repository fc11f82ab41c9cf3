-- `order_places::next_break`. Each way out is one law of Barring.
-- Assumes nothing.
use Rattle.order_places.proofs.Barring.{Seeking}
use Rattle.order_places.proofs.next_break.Given as goal

abbrev pub invariant-loop-i : goal.invariant-loop-i
invariant-loop-i l = Seeking l.places l.edges l.first l.m l.good l.i
