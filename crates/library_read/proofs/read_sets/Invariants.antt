-- `library_read::read_sets`. Each way out is one law of Sets; its loop is one of Counting.
-- Assumes nothing.
use Rattle.library_read.proofs.Sets.{Setting}
use Rattle.library_read.proofs.read_sets.Given as goal

abbrev pub invariant-loop : goal.invariant-loop
invariant-loop l = Setting l.s l.initial.tab l.tab l.count l.initial.here l.counter l.here
