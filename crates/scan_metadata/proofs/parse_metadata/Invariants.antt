-- `scan_metadata::parse_metadata`. The loop keeps that what was read stands in the values and the store, and that the scan from here is the text's.
-- Assumes nothing.
use Prim.Native.Nat.{◌-◌}
use Rattle.scan_metadata.proofs.LoopLaws.{Sofar}
use lib.ListN.{length}
use Rattle.scan_metadata.proofs.parse_metadata.Given as goal

abbrev pub invariant-loop-keyword : goal.invariant-loop-keyword
invariant-loop-keyword l = Sofar l.whole l.s l.initial.store l.values l.here.at l.used l.store

abbrev pub decreases-loop-keyword : goal.decreases-loop-keyword
decreases-loop-keyword l = length l.s - l.here.at
