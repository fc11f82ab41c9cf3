-- `replay::replay_all`. Each turn is one record more.
-- Assumes nothing.
use Rattle.std.proofs.Common.{arith, refl}
use Rattle.replay.specs.Records.{none_yet, one_more}
use Rattle.replay.proofs.replay_all.Goals as goal

pub loop-init : goal.loop-init
loop-init g c = rw c.start-run.ensures (none_yet, refl)

pub loop-preserved : goal.loop-preserved
loop-preserved g c =
    rw c.past-run.ensures (one_more c.loop.invariant.0 c.if-d-run.false (c.args.d, refl, c.look-agrees.ensures), omega arith)
