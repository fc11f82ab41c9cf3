-- `scan_block::parse_block`. The loop's invariant is `Reading`: the block from here is the block from its start, and what was read stands in the
-- store.
-- Assumes nothing.
use Prim.Native.Nat.{◌-◌}
use Rattle.scan_block.proofs.BlockLaws.{Reading}
use lib.ListN.{length}
use Rattle.scan_block.proofs.parse_block.Given as goal

abbrev pub invariant-loop-next : goal.invariant-loop-next
invariant-loop-next l = Reading l.whole l.s l.keyword l.used l.initial.store l.initial.body l.store l.body

abbrev pub decreases-loop-next : goal.decreases-loop-next
decreases-loop-next l = length l.s - l.body.at
