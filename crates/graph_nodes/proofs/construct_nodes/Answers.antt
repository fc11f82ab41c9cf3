use Rattle.graph_nodes.proofs.Growing.{build_begun, build_asks, build_on, build_full, build_done}
use Rattle.graph_nodes.proofs.construct_nodes.Goals as goal

pub loop-i-init : goal.loop-i-init
loop-i-init c = search build_begun

pub add_item-requires : goal.add_item-requires
add_item-requires c = search build_asks

pub returns-in_err-n : goal.returns-in_err-n
returns-in_err-n c = rw c.from_residual.ensures (search (build_full, c.in_err-n.was, c.type_inv.s))

pub loop-i-preserved : goal.loop-i-preserved
loop-i-preserved c = search (build_on, c.in_ok-n.was)

pub returns : goal.returns
returns c = search (build_done, c.type_inv.s)
