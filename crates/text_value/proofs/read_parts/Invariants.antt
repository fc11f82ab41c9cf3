-- `text_value::read_parts`. The loop's invariant is `Joining`: the bytes of all that was added stand in the store. Each part takes more bytes
-- than it adds, so there is room and an end.
-- Assumes nothing.
use Prim.Native.Nat.{◌-◌}
use Rattle.text_value.proofs.JoinLaws.{Joining}
use lib.ListN.{length}
use Rattle.text_value.proofs.read_parts.Given as goal

abbrev pub invariant-loop-m : goal.invariant-loop-m
invariant-loop-m l = Joining l.s l.initial.store l.used l.initial.at.at l.store l.at.at l.n

abbrev pub decreases-loop-m : goal.decreases-loop-m
decreases-loop-m l = length l.s - l.at.at
