-- `graph_entries::next_node`. Each way out is one law of Going.
-- Assumes nothing.
use Rattle.graph_nodes.proofs.Growing.{entry_told}
use Rattle.graph_entries.proofs.Going.{entry_stands, node_own, node_kept, node_behind}
use borrow.Author.Rules.{rules}
use Rattle.graph_entries.proofs.next_node.Goals as goal

pub node_at-requires : goal.node_at-requires
node_at-requires c = search (entry_stands, entry_told)

pub returns-then-is_entry : goal.returns-then-is_entry
returns-then-is_entry c = (search (node_own, entry_told), search rules)

pub returns-else-is_entry : goal.returns-else-is_entry
returns-else-is_entry c = (search (node_kept, entry_told), search (node_behind, entry_told))
