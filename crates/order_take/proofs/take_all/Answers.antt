use Rattle.order_take.proofs.Turns.{rows_fit, none_chained, take_begun, may_seek, place_in}
use Rattle.order_take.proofs.Turns.{take_stuck, take_full, same_room, may_take, take_more}
use Rattle.order_take.proofs.take_all.Goals as goal

pub chain_edges-requires : goal.chain_edges-requires
chain_edges-requires c = (search rows_fit, search none_chained)

pub loop-k-init : goal.loop-k-init
loop-k-init c = search take_begun

pub lowest_free-v-requires : goal.lowest_free-v-requires
lowest_free-v-requires c = search may_seek

pub shape_of-order-then-n-v : goal.shape_of-order-then-n-v
shape_of-order-then-n-v c = search same_room

pub returns-then-n-v : goal.returns-then-n-v
returns-then-n-v c =
    let pre = c.requires in
    take_stuck _ _ _ pre.0 _ _ _ _ _ _ _ c.loop-k.invariant c.lowest_free-v.ensures c.loop-k-test.true c.if-n-v.true

pub bounds-order-k : goal.bounds-order-k
bounds-order-k c =
    let pre = c.requires in
    place_in _ _ _ pre.0 _ _ _ _ _ _ _ c.loop-k.invariant pre.1 c.loop-k-test.true

pub take_node-requires : goal.take_node-requires
take_node-requires c =
    let pre = c.requires in
    may_take _ _ _ pre.0 _ _ _ _ _ _ _ c.loop-k.invariant c.lowest_free-v.ensures c.loop-k-test.true c.if-n-v.false

pub loop-k-preserved : goal.loop-k-preserved
loop-k-preserved c = search take_more

pub shape_of-order : goal.shape_of-order
shape_of-order c = search same_room

pub returns : goal.returns
returns c =
    let pre = c.requires in
    take_full _ _ _ pre.0 _ _ _ _ _ _ _ c.loop-k.invariant c.loop-k-test.false c.loop-k.auto.k-end
