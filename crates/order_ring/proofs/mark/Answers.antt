use Rattle.order_ring.proofs.Marking.{mark_begun, mark_in, mark_more, mark_done}
use Rattle.order_ring.proofs.mark.Goals as goal

pub loop-x-init : goal.loop-x-init
loop-x-init c = search mark_begun

pub bounds-gone-node_row : goal.bounds-gone-node_row
bounds-gone-node_row c = search mark_in

pub loop-x-preserved : goal.loop-x-preserved
loop-x-preserved c = search mark_more

pub returns : goal.returns
returns c = search mark_done
