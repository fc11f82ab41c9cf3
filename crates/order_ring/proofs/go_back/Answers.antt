use Rattle.order_ring.proofs.Back.{back_begun, node_fits, node_word, node_gone, node_before, room, back_less, trail_in, back_more, back_done}
use Rattle.order_ring.proofs.go_back.Goals as goal

pub loop-gone-init : goal.loop-gone-init
loop-gone-init c = search back_begun

pub offset_bounds-gone-node : goal.offset_bounds-gone-node
offset_bounds-gone-node c = search node_fits

pub bounds-gone-node : goal.bounds-gone-node
bounds-gone-node c = search node_gone

pub offset_bounds-gone-node-in-loop-gone : goal.offset_bounds-gone-node-in-loop-gone
offset_bounds-gone-node-in-loop-gone c = search node_fits

pub bounds-gone-node-in-loop-gone : goal.bounds-gone-node-in-loop-gone
bounds-gone-node-in-loop-gone c = search node_gone

pub overflow_sub-at : goal.overflow_sub-at
overflow_sub-at c = search room

pub overflow_cast-trail : goal.overflow_cast-trail
overflow_cast-trail c = search node_word

pub bounds-trail-at : goal.bounds-trail-at
bounds-trail-at c = search trail_in

pub offset_bounds-before-node : goal.offset_bounds-before-node
offset_bounds-before-node c = search node_fits

pub bounds-before-node : goal.bounds-before-node
bounds-before-node c = search node_before

pub loop-gone-smaller : goal.loop-gone-smaller
loop-gone-smaller c = search back_less

pub loop-gone-preserved : goal.loop-gone-preserved
loop-gone-preserved c = search back_more

pub returns : goal.returns
returns c = search back_done
