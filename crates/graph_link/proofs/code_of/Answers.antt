-- `graph_link::code_of`. Each way out is one law of Single.
-- Assumes nothing.
use Rattle.graph_link.proofs.Single.{code_fits, code_is}
use Rattle.graph_link.proofs.code_of.Goals as goal

pub overflow_add-result : goal.overflow_add-result
overflow_add-result c = search code_fits

pub returns-in-Node : goal.returns-in-Node
returns-in-Node c = search code_is
