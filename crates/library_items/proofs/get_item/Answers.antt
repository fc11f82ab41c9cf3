-- `library_items::get_item`. The two words of an item.
-- Assumes nothing.
use Rattle.library_items.proofs.Storing.{item_got}
use Rattle.library_items.proofs.get_item.Goals as goal

pub returns : goal.returns
returns c = search item_got
