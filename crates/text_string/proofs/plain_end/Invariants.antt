-- `text_string::plain_end`. The loop keeps where the string closes: eight bytes that neither close nor escape leave that as it was.
-- Assumes nothing.
use Prim.Native.Nat.{◌+◌, ◌-◌, ◌≤◌}
use Rattle.text_string.specs.Str.{str_end}
use lib.ListN.{drop}
use mathlib.Core.Bool.{false}
use mathlib.Core.Path.{◌≡◌}
use Rattle.text_string.proofs.plain_end.Given as goal

abbrev pub invariant-loop-i : goal.invariant-loop-i
invariant-loop-i l = (l.at ≤ l.i) × (str_end l.q false (drop l.i l.s) l.i ≡ str_end l.q false (drop l.at l.s) l.at)

abbrev pub decreases-loop-i : goal.decreases-loop-i
decreases-loop-i l = l.last + 1 - l.i
