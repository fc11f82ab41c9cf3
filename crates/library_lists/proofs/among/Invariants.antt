-- `library_lists::among`. Each way out is one law of Bounds or Words.
-- Assumes nothing.
use Rattle.library_lists.proofs.Words.{Same}
use Rattle.library_lists.proofs.among.Given as goal

abbrev pub invariant-loop : goal.invariant-loop
invariant-loop l = Same l.s l.name l.count l.from l.counter l.at
