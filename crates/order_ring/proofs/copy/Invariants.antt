-- `order_ring::copy`. What each turn keeps, by the laws of Parts.
-- Assumes nothing.
use Prim.Native.Nat.{◌-◌}
use Rattle.order_ring.proofs.Copying.{Copying}
use Rattle.order_ring.proofs.copy.Given as goal

abbrev pub invariant-loop-i : goal.invariant-loop-i
invariant-loop-i l = Copying l.trail l.from l.to l.initial.table l.at l.table l.i l.j

abbrev pub decreases-loop-i : goal.decreases-loop-i
decreases-loop-i l = l.to - l.i
