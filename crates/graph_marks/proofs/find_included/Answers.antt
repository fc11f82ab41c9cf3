-- `graph_marks::find_included`. Each way out is one law of Looking.
-- Assumes nothing.
use Rattle.graph_marks.proofs.Nodes.{desk_of}
use Rattle.graph_marks.proofs.Looking.{included_not, included_yes, included_nowhere, found_low, found_node, node_below, next_fits, next_bytes, next_in}
use Rattle.graph_marks.proofs.Looking.{never_node}
use Rattle.graph_marks.proofs.find_included.Goals as goal

pub no_node-requires : goal.no_node-requires
no_node-requires c = (desk_of c.args.nodes.found).reads

pub returns-in_default : goal.returns-in_default
returns-in_default c = (search (included_nowhere, desk_of), search never_node)

pub node_of-u-requires : goal.node_of-u-requires
node_of-u-requires c = search (found_low, desk_of)

pub pair_row-requires : goal.pair_row-requires
pair_row-requires c = search (found_node, desk_of)

pub overflow_add-pair_row : goal.overflow_add-pair_row
overflow_add-pair_row c = search (next_fits, desk_of)

pub offset_bounds-nodes-pair_row : goal.offset_bounds-nodes-pair_row
offset_bounds-nodes-pair_row c = search (next_bytes, desk_of)

pub bounds-nodes-pair_row : goal.bounds-nodes-pair_row
bounds-nodes-pair_row c = search (next_in, desk_of)

pub returns-then-nodes-pair_row-eq0 : goal.returns-then-nodes-pair_row-eq0
returns-then-nodes-pair_row-eq0 c = (search (included_not, desk_of), tt)

pub returns-else-nodes-pair_row-eq0 : goal.returns-else-nodes-pair_row-eq0
returns-else-nodes-pair_row-eq0 c = (search (included_yes, desk_of), search (node_below, desk_of))
