-- `order_places::note_places`. Each way out is one law of Noting.
-- Assumes nothing.
use Rattle.order_places.proofs.Noting.{Noting}
use Rattle.order_places.proofs.note_places.Given as goal

abbrev pub invariant-loop-i : goal.invariant-loop-i
invariant-loop-i l = Noting l.list l.n l.initial.places l.places l.i
