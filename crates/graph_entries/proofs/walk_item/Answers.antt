-- `graph_entries::walk_item`. Each way out is one law of Going.
-- Assumes nothing.
use Rattle.graph_nodes.proofs.Growing.{entry_told}
use Rattle.graph_entries.proofs.Going.{item_walked, between_walked, item_linked, between_linked, item_silent}
use Rattle.graph_visit.proofs.Visiting.{kept_same}
use borrow.Author.Rules.{rules}
use Rattle.graph_entries.proofs.walk_item.Goals as goal

pub returns-then-is_entry : goal.returns-then-is_entry
returns-then-is_entry c = (search (item_walked, entry_told), search rules, search (between_walked, entry_told))

pub returns-then-is_listed : goal.returns-then-is_listed
returns-then-is_listed c = (search (item_linked, entry_told), kept_same _ _ _ _ _, search between_linked)

pub returns : goal.returns
returns c = (search (item_silent, entry_told), kept_same _ _ _ _ _, search rules)
