-- `text::Cursor::skip_whitespace_and_comments`. The loop keeps where the gap ends: white bytes and a comment leave its end as it was, white
-- bytes and none end it there.
-- Assumes nothing.
use Prim.Native.Nat.{◌-◌}
use Rattle.text.specs.Scan.{gap_end}
use lib.ListN.{length}
use mathlib.Core.Path.{◌≡◌}
use Rattle.text.proofs.Cursor.skip_whitespace_and_comments.Given as goal

abbrev pub invariant-loop-at : goal.invariant-loop-at
invariant-loop-at l = gap_end l.s l.at ≡ gap_end l.s l.initial.at

abbrev pub decreases-loop-at : goal.decreases-loop-at
decreases-loop-at l = length l.s - l.at
