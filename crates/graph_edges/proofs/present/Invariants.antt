-- `graph_edges::present`. Each way out is one law of Chains.
-- Assumes nothing.
use Rattle.graph_edges.proofs.Chains.{Seeking}
use Rattle.graph_edges.proofs.present.Given as goal

abbrev pub invariant-loop-e : goal.invariant-loop-e
invariant-loop-e l = Seeking l.edges l.chains l.from l.to l.h l.e

abbrev pub decreases-loop-e : goal.decreases-loop-e
decreases-loop-e l = l.e
