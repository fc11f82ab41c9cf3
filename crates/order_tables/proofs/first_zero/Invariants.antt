-- `order_tables::first_zero`. Each way out is one law of Lowest.
-- Assumes nothing.
use Rattle.order_tables.proofs.Lowest.{Sought}
use Rattle.order_tables.proofs.first_zero.Given as goal

abbrev pub invariant-loop-v : goal.invariant-loop-v
invariant-loop-v l = Sought l.words l.first l.last l.v
