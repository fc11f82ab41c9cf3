-- `text_string::copy_string`. The loop keeps what is left to be written, what the string gives from here on: a byte written is its first, a
-- backslash gives none.
-- Assumes nothing.
use Prim.Native.Nat.{◌+◌, ◌-◌, ◌≤◌}
use Rattle.text.proofs.Writing.{Writing}
use Rattle.text_string.specs.Str.{str_bytes}
use lib.ListN.{length, drop}
use mathlib.Core.Bool.{false}
use Rattle.text_string.proofs.copy_string.Given as goal

abbrev pub invariant-loop-i : goal.invariant-loop-i
invariant-loop-i l =
    (l.n + (length l.s - l.i) ≤ length l.store) × Writing l.initial.store l.used (str_bytes l.q false (drop l.at l.s)) l.store l.n (str_bytes l.q l.esc (drop l.i l.s))
