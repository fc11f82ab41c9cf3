-- `graph_nodes::add_name`. Each way out is one law of Growing.
-- Assumes nothing.
use Rattle.graph_nodes.proofs.Growing.{name_there, name_full, name_new}
use Rattle.graph_nodes.proofs.add_name.Goals as goal

pub returns-in_default : goal.returns-in_default
returns-in_default c = search name_there

pub returns-then-n-ge-MOST_NODES : goal.returns-then-n-ge-MOST_NODES
returns-then-n-ge-MOST_NODES c = search name_full

pub returns : goal.returns
returns c = search name_new
