-- `text_value::copy_part`. The loop keeps what is left to be written, the part from here on: each byte written is its first.
-- Assumes nothing.
use Prim.Native.Nat.{◌+◌, ◌-◌, ◌≤◌}
use Rattle.text.proofs.Writing.{Writing}
use Rattle.text.specs.Keyword.{part}
use lib.ListN.{length}
use Rattle.text_value.proofs.copy_part.Given as goal

abbrev pub invariant-loop-i : goal.invariant-loop-i
invariant-loop-i l =
    (l.n + (l.end - l.i) ≤ length l.store) × Writing l.initial.store l.used (part l.s l.at l.end) l.store l.n (part l.s l.i l.end)

abbrev pub decreases-loop-i : goal.decreases-loop-i
decreases-loop-i l = l.end - l.i
