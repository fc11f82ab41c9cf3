-- `text_skip::skip_added`. The loop keeps where and how the value ends: a string that is added leaves that as it was, and comes nearer the end.
-- Assumes nothing.
use Prim.Native.Nat.{◌-◌}
use Rattle.text_skip.specs.Skip.{added_at}
use lib.ListN.{length}
use mathlib.Core.Path.{◌≡◌}
use Rattle.text_skip.proofs.skip_added.Given as goal

abbrev pub invariant-loop-next : goal.invariant-loop-next
invariant-loop-next l = added_at l.s l.at.at ≡ added_at l.s l.initial.at.at

abbrev pub decreases-loop-next : goal.decreases-loop-next
decreases-loop-next l = length l.s - l.at.at
