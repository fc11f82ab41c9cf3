-- `order_take::take_all`. Each way out is one law of Turns.
-- Assumes nothing.
use Rattle.order_take.proofs.Turns.{Taking}
use Rattle.order_take.proofs.take_all.Given as goal

abbrev pub invariant-loop-k : goal.invariant-loop-k
invariant-loop-k l = Taking l.edges l.n l.m l.initial.order l.heads l.links l.order l.waits l.lows l.k
