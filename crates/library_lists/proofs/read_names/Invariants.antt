-- `library_lists::read_names`. Each way out is one law of Words; its loop is one of Counting.
-- Assumes nothing.
use Rattle.library_lists.proofs.Counting.{Going}
use Rattle.library_lists.specs.Lists.{word_of}
use Rattle.library_lists.proofs.read_names.Given as goal

abbrev pub invariant-loop-i : goal.invariant-loop-i
invariant-loop-i l = Going (word_of l.differ l.s) l.count l.from l.i l.here
