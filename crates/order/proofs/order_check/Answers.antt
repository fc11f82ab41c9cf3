-- `order::order_check`. Each way out is one law of Sorting.
-- Assumes nothing.
use Rattle.order.proofs.Sorting.{check_unfit, check_fit, check_told}
use Rattle.order.proofs.order_check.Goals as goal

pub returns-then-not-fit : goal.returns-then-not-fit
returns-then-not-fit c = search check_unfit

pub check_list-requires : goal.check_list-requires
check_list-requires c = search check_fit

pub returns : goal.returns
returns c = search check_told
