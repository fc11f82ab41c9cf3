-- `library_bundle::longest`: the largest of the lengths behind the first i names; begun, one text more, all.
-- Assumes nothing.
use Rattle.library_bundle.proofs.Measuring.{Measured}
use Rattle.library_bundle.proofs.longest.Given as goal

abbrev pub invariant-loop-i : goal.invariant-loop-i
invariant-loop-i l = Measured l.s l.tab l.count l.most l.i
