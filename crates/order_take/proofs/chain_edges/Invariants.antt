-- `order_take::chain_edges`. The first i edges are chained: begun with none, one more, all.
-- Assumes nothing.
use Rattle.order_take.specs.Chains.{Chained}
use Rattle.order_take.proofs.chain_edges.Given as goal

abbrev pub invariant-loop-i : goal.invariant-loop-i
invariant-loop-i l = Chained l.edges l.i l.heads l.links l.waits
