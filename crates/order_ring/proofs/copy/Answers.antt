use Rattle.order_ring.proofs.Copying.{copy_begun, copy_kept, copy_in, copy_more, copy_done}
use Rattle.order_ring.proofs.copy.Goals as goal

pub loop-i-init : goal.loop-i-init
loop-i-init c = search copy_begun

pub bounds-table-j : goal.bounds-table-j
bounds-table-j c = search copy_in

pub loop-i-preserved : goal.loop-i-preserved
loop-i-preserved c = search copy_more

pub shape_of-table : goal.shape_of-table
shape_of-table c = search copy_kept

pub returns : goal.returns
returns c = search copy_done
