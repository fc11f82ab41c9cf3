-- `graph_edges::put_edge`. What the four stores leave.
-- Assumes nothing.
use Rattle.graph_edges.proofs.Laying.{second_in, head_in, laid}
use Rattle.graph_edges.proofs.put_edge.Goals as goal

pub bounds-edges-count-2 : goal.bounds-edges-count-2
bounds-edges-count-2 c = search second_in

pub bounds-chains-h-2 : goal.bounds-chains-h-2
bounds-chains-h-2 c = search head_in

pub returns : goal.returns
returns c = search laid
