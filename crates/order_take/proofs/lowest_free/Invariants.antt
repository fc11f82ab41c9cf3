-- `order_take::lowest_free`. Each way out is one law of Zeros.
-- Assumes nothing.
use Rattle.order_take.proofs.Zeros.{Searching}
use Rattle.order_take.proofs.lowest_free.Given as goal

abbrev pub invariant-loop-g : goal.invariant-loop-g
invariant-loop-g l = Searching l.waits l.n l.g l.lows
