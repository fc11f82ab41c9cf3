-- `order_places::unbroken`. Each way out is one law of Barring.
-- Assumes nothing.
use Prim.Native.Nat.{◌-◌}
use Rattle.order_places.proofs.Barring.{Passing}
use Rattle.order_places.proofs.unbroken.Given as goal

abbrev pub invariant-loop-i : goal.invariant-loop-i
invariant-loop-i l = Passing l.edges l.places l.good l.m l.i l.least

abbrev pub decreases-loop-i : goal.decreases-loop-i
decreases-loop-i l = l.m - l.i
