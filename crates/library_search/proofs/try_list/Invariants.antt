-- `library_search::try_list`. Each way out is one law of Loops.
-- Assumes nothing.
use Rattle.library_search.proofs.Loops.{Left}
use Rattle.library_search.specs.Search.{list_tried}
use Rattle.library_search.proofs.try_list.Given as goal

abbrev pub invariant-loop : goal.invariant-loop
invariant-loop g l = Left g.step (list_tried l.most g.step l.s l.at) l.count l.counter l.here
