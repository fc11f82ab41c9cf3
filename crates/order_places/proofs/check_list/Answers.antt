-- `order_places::check_list`. Each way out is one law of First.
-- Assumes nothing.
use Rattle.order_places.proofs.First.{blank_table, all_known, first_wrong, all_right}
use Rattle.order_places.proofs.check_list.Goals as goal

pub note_places-noted-requires : goal.note_places-noted-requires
note_places-noted-requires c = search blank_table

pub unbroken-place-requires : goal.unbroken-place-requires
unbroken-place-requires c = search all_known

pub returns-then-place-max : goal.returns-then-place-max
returns-then-place-max c = search first_wrong

pub returns-else-place-max : goal.returns-else-place-max
returns-else-place-max c = search all_right
