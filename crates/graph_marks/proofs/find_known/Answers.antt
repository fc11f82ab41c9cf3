-- `graph_marks::find_known`. Each way out is one law of Looking.
-- Assumes nothing.
use Rattle.graph_marks.proofs.Nodes.{desk_of}
use Rattle.graph_marks.proofs.Looking.{known_not, known_yes, known_nowhere, found_low, found_node, node_below, at_bytes, at_in}
use Rattle.graph_marks.proofs.find_known.Goals as goal

pub returns-in_err-find : goal.returns-in_err-find
returns-in_err-find c = rw c.from_residual.ensures (search (known_nowhere, desk_of, c.in_err-find.was), tt)

pub node_of-u-requires : goal.node_of-u-requires
node_of-u-requires c = search (found_low, desk_of, c.in_ok-find.was)

pub pair_row-requires : goal.pair_row-requires
pair_row-requires c = search (found_node, desk_of, c.in_ok-find.was)

pub bounds-nodes-pair_row : goal.bounds-nodes-pair_row
bounds-nodes-pair_row c = search (at_in, desk_of, c.in_ok-find.was)

pub offset_bounds-nodes-pair_row : goal.offset_bounds-nodes-pair_row
offset_bounds-nodes-pair_row c = search (at_bytes, desk_of, c.in_ok-find.was)

pub returns-then-nodes-pair_row-eq0 : goal.returns-then-nodes-pair_row-eq0
returns-then-nodes-pair_row-eq0 c = (search (known_not, desk_of, c.in_ok-find.was), tt)

pub returns-else-nodes-pair_row-eq0 : goal.returns-else-nodes-pair_row-eq0
returns-else-nodes-pair_row-eq0 c = (search (known_yes, desk_of, c.in_ok-find.was), search (node_below, desk_of, c.in_ok-find.was))
