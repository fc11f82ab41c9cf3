-- `yangparser::parse`. The invariant is `Reading`: what was read so far stands in the store and the tables, and the scan from here is the whole scan.
-- Assumes nothing.
use Prim.Native.Nat.{◌-◌}
use Rattle.yangparser.proofs.LoopLaws.{Reading}
use lib.ListN.{length}
use Rattle.yangparser.proofs.parse.Given as goal

abbrev pub invariant-loop-next : goal.invariant-loop-next
invariant-loop-next l = Reading l.whole l.s l.initial.store l.initial.imports l.initial.includes l.store l.imports l.includes l.far

abbrev pub decreases-loop-next : goal.decreases-loop-next
decreases-loop-next l = length l.s - l.far.at
