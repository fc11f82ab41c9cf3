-- `library_bundle::open`. Each way out is one law of Opening.
-- Assumes nothing.
use Rattle.library_bundle.proofs.Opening.{Reading}
use Rattle.library_bundle.proofs.open.Given as goal

abbrev pub invariant-loop-i : goal.invariant-loop-i
invariant-loop-i l = Reading l.s l.initial.tab l.tab l.count l.initial.at l.i l.at
