-- `library_index::seek`. Each way out is one law of Chain.
-- Assumes nothing.
use Rattle.library_index.proofs.Chain.{Chained}
use Rattle.library_index.proofs.seek.Given as goal

abbrev pub invariant-loop-j : goal.invariant-loop-j
invariant-loop-j l = Chained l.s l.tab l.name l.count l.j

abbrev pub decreases-loop-j : goal.decreases-loop-j
decreases-loop-j l = l.j
