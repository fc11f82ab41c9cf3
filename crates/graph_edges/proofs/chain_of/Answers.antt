-- `graph_edges::chain_of`. The chain is a law of Chains.
-- Assumes nothing.
use Rattle.graph_edges.proofs.Chains.{bucketed}
use Rattle.graph_edges.proofs.chain_of.Goals as goal

pub returns : goal.returns
returns c = bucketed _ _ c.node_row.ensures c.node_row-2.ensures
