-- `replay::replay_all`. What was run so far is such a run, over as many records as there were turns.
-- Assumes nothing.
use Rattle.std.proofs.Common.{◌≡◌}
use Rattle.replay.specs.Records.{Runs}
use Rattle.replay.proofs.replay_all.Given as goal

abbrev pub invariant-loop : goal.invariant-loop
invariant-loop g l = Runs (λ s at r. goal.F-post g l.look s at r) l.d l.run × (l.run.records ≡ l.counter)
