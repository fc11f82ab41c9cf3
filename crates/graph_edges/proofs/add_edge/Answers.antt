-- `graph_edges::add_edge`. Each way out is one law of Linking.
-- Assumes nothing.
use Rattle.graph_edges.proofs.Chains.{look_in}
use Rattle.graph_edges.proofs.Linking.{already, full, linked}
use borrow.Author.Rules.{rules}
use Rattle.graph_edges.proofs.add_edge.Goals as goal

pub present-requires : goal.present-requires
present-requires c = (search look_in, search rules)

pub returns-then-present : goal.returns-then-present
returns-then-present c = search already

pub returns-then-count-ge-MOST_EDGES : goal.returns-then-count-ge-MOST_EDGES
returns-then-count-ge-MOST_EDGES c = search full

pub returns : goal.returns
returns c = search linked
