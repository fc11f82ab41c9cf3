-- `yangparser::seek`. The invariant: what is sought from here is what is sought from the start.
-- Assumes nothing.
use Prim.Native.Nat.{◌-◌}
use Rattle.yangparser.specs.Seek.{sought_at}
use lib.ListN.{length}
use mathlib.Core.Path.{◌≡◌}
use Rattle.yangparser.proofs.seek.Given as goal

abbrev pub invariant-loop-next : goal.invariant-loop-next
invariant-loop-next l = sought_at l.whole l.s l.here.at ≡ sought_at l.whole l.s l.initial.here.at

abbrev pub decreases-loop-next : goal.decreases-loop-next
decreases-loop-next l = length l.s - l.here.at
