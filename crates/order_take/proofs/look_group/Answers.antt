-- `order_take::look_group`. Each way out is one law of Zeros.
-- Assumes nothing.
use Rattle.order_take.proofs.Zeros.{group_hit, group_vain}
use Rattle.order_take.proofs.look_group.Goals as goal

pub returns-then-v-last : goal.returns-then-v-last
returns-then-v-last c = search group_hit

pub returns : goal.returns
returns c = search group_vain
