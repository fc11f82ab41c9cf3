-- `library_read::read_entries`. Each way out is one law of Entries; its loop is one of Counting.
-- Assumes nothing.
use Rattle.library_read.proofs.Entries.{Entering}
use Rattle.library_read.proofs.read_entries.Given as goal

abbrev pub invariant-loop-i : goal.invariant-loop-i
invariant-loop-i l = Entering l.import_only l.s l.initial.tab l.tab l.count l.initial.here l.i l.here
