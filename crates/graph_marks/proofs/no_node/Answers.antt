-- `graph_marks::no_node`. Each way out is one law of Looking.
-- Assumes nothing.
use Rattle.graph_marks.proofs.Looking.{not_broken, sub_missed, sub_found}
use Rattle.graph_marks.proofs.no_node.Goals as goal

pub returns-in-Ok-Some : goal.returns-in-Ok-Some
returns-in-Ok-Some c = search sub_found

pub returns-in_default : goal.returns-in_default
returns-in_default c = search (sub_missed, c.in_default.ensures)

pub returns-in_default-2 : goal.returns-in_default-2
returns-in_default-2 c = search not_broken
