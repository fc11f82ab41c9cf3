-- `order::told_place`. Each way out is one law of Sorting.
-- Assumes nothing.
use Rattle.order.proofs.Sorting.{right_told, wrong_told}
use Rattle.order.proofs.told_place.Goals as goal

pub returns-in-Ok : goal.returns-in-Ok
returns-in-Ok c = search right_told

pub returns-in-Err : goal.returns-in-Err
returns-in-Err c = search wrong_told
