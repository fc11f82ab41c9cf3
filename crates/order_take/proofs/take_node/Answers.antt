-- `order_take::take_node`. The mark, and the releases behind it: laws of Releasing.
-- Assumes nothing.
use Rattle.order_take.proofs.Releasing.{marked, took, took_room}
use Rattle.order_take.proofs.take_node.Goals as goal

pub release_all-requires : goal.release_all-requires
release_all-requires c = search marked

pub shape_of-waits : goal.shape_of-waits
shape_of-waits c = search took_room

pub returns : goal.returns
returns c = search took
