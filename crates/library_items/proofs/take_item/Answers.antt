-- `library_items::take_item`. Each way out is one law of Storing.
-- Assumes nothing.
use Rattle.library_items.proofs.Storing.{no_name, name_fits, name_puts, name_taken}
use Rattle.library_items.proofs.take_item.Goals as goal

pub returns-in_default : goal.returns-in_default
returns-in_default c = absurd (search (no_name, c.in_default.ensures))

pub put_item-requires : goal.put_item-requires
put_item-requires c = search name_puts

pub overflow_add-result-2 : goal.overflow_add-result-2
overflow_add-result-2 c = search name_fits

pub returns : goal.returns
returns c = search name_taken
