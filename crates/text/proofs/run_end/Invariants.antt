-- `text::run_end`. The loop keeps where the run ends: a byte of the run leaves its end as it was, any other ends it here.
-- Assumes nothing.
use Rattle.text.specs.Scan.{run_end}
use mathlib.Core.Path.{◌≡◌}
use Prim.Native.Nat.{◌-◌}
use lib.ListN.{length}
use Rattle.text.proofs.run_end.Given as goal

abbrev pub invariant-loop-i : goal.invariant-loop-i
invariant-loop-i l = run_end l.k l.s l.i ≡ run_end l.k l.s l.at

abbrev pub decreases-loop-i : goal.decreases-loop-i
decreases-loop-i l = length l.s - l.i
