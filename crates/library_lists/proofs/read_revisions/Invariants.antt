-- `library_lists::read_revisions`. Each way out is one law of Rests; its loop is one of Counting.
-- Assumes nothing.
use Rattle.library_image.specs.Image.{revision_at}
use Rattle.library_lists.proofs.Counting.{Going}
use Rattle.library_lists.proofs.read_revisions.Given as goal

abbrev pub invariant-loop : goal.invariant-loop
invariant-loop l = Going (revision_at l.s) l.count l.initial.here l.counter l.here
