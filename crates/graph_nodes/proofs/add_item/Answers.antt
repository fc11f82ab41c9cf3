-- `graph_nodes::add_item`. Each way out is one law of Growing.
-- Assumes nothing.
use Rattle.graph_nodes.proofs.Growing.{entry_told, item_asks, item_entry, item_sub, item_other, item_passed}
use Rattle.graph_nodes.proofs.add_item.Goals.{else-adding-via-then-adding+else-is_sub, else-adding-via-else-adding}
use Rattle.graph_nodes.proofs.add_item.Goals as goal

pub add_name-requires : goal.add_name-requires
add_name-requires c = search item_asks

pub returns-then-is_entry : goal.returns-then-is_entry
returns-then-is_entry c = search (item_entry, entry_told)

pub add_name-requires-then-is_sub : goal.add_name-requires-then-is_sub
add_name-requires-then-is_sub c = search item_asks

pub returns-then-is_sub : goal.returns-then-is_sub
returns-then-is_sub c = search (item_sub, entry_told)

pub returns : goal.returns
returns c =
    elim c.else-adding.branch [
      | else-adding-via-then-adding+else-is_sub w ↦ search (item_other, entry_told)
      | else-adding-via-else-adding w ↦ search (item_passed, entry_told)
    ]
