-- `scan_line::put`. The loop keeps what is left to be written, the bytes from here on: each byte written is the first of them.
-- Assumes nothing.
use Prim.Native.Nat.{◌+◌, ◌-◌, ◌≤◌}
use Rattle.text.proofs.Writing.{Writing}
use lib.ListN.{length, drop}
use Rattle.scan_line.proofs.put.Given as goal

abbrev pub invariant-loop-i : goal.invariant-loop-i
invariant-loop-i l = (l.n + (length l.bytes - l.i) ≤ length l.page) × Writing l.initial.page l.at l.bytes l.page l.n (drop l.i l.bytes)

abbrev pub decreases-loop-i : goal.decreases-loop-i
decreases-loop-i l = length l.bytes - l.i
