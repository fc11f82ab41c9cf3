-- `graph_nodes::name_of`. Each way out is one law of Looking.
-- Assumes nothing.
use Rattle.graph_nodes.proofs.Looking.{name_in, name_fits, name_text}
use Rattle.graph_nodes.proofs.name_of.Goals as goal

pub overflow_add-result : goal.overflow_add-result
overflow_add-result c = search name_fits

pub slice_bounds-result-end : goal.slice_bounds-result-end
slice_bounds-result-end c = search name_in

pub returns : goal.returns
returns c = search name_text
