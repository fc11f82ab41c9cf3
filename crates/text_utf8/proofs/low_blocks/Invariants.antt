-- `text_utf8::low_blocks`. The loop keeps where the first wrong sequence starts: a block of bytes below 128 leaves that as it was.
-- Assumes nothing.
use Prim.Native.Nat.{◌+◌, ◌-◌, ◌≤◌}
use Rattle.text_utf8.specs.Utf8.{wrong_from}
use mathlib.Core.Path.{◌≡◌}
use Rattle.text_utf8.proofs.low_blocks.Given as goal

abbrev pub invariant-loop-i : goal.invariant-loop-i
invariant-loop-i l = (l.at ≤ l.i) × (wrong_from l.s l.i ≡ wrong_from l.s l.at)

abbrev pub decreases-loop-i : goal.decreases-loop-i
decreases-loop-i l = l.last + 1 - l.i
