use Rattle.order_ring.proofs.Noting.{note_begun, row_in, from_in, to_in, note_more, note_done}
use Rattle.order_ring.proofs.note_edges.Goals as goal

pub loop-i-init : goal.loop-i-init
loop-i-init c = search note_begun

pub note_edge-requires : goal.note_edge-requires
note_edge-requires c = (search row_in, search from_in, search to_in)

pub loop-i-preserved : goal.loop-i-preserved
loop-i-preserved c = search note_more

pub returns : goal.returns
returns c = search note_done
