-- `order_take::release`. Each way out is one law of Releasing.
-- Assumes nothing.
use Rattle.order_take.proofs.Releasing.{last_released, one_released}
use Rattle.std.proofs.Common.{rules}
use Rattle.order_take.proofs.release.Goals as goal

pub returns-then-waits-v-eq0 : goal.returns-then-waits-v-eq0
returns-then-waits-v-eq0 c = search (rules, last_released)

pub returns-else-waits-v-eq0 : goal.returns-else-waits-v-eq0
returns-else-waits-v-eq0 c = search (rules, one_released)
