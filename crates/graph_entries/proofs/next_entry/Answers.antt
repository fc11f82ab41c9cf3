-- `graph_entries::next_entry`. Each way out is one law of Going.
-- Assumes nothing.
use Rattle.graph_nodes.proofs.Growing.{entry_told}
use Rattle.graph_entries.proofs.Going.{entry_more, entry_same}
use Rattle.graph_entries.proofs.next_entry.Goals as goal

pub returns-then-is_entry : goal.returns-then-is_entry
returns-then-is_entry c = search (entry_more, entry_told)

pub returns-else-is_entry : goal.returns-else-is_entry
returns-else-is_entry c = search (entry_same, entry_told)
