-- `graph_nodes::node_at`. Each way out is one law of Looking.
-- Assumes nothing.
use Rattle.graph_nodes.proofs.Looking.{row_low, node_low, node_is}
use Rattle.graph_nodes.proofs.node_at.Goals as goal

pub node_of-requires : goal.node_of-requires
node_of-requires c = search row_low

pub returns : goal.returns
returns c = (search node_is, search node_low)
