-- `graph_nodes::construct_nodes`. Each way out is one law of Growing.
-- Assumes nothing.
use Rattle.graph_nodes.proofs.Growing.{Building}
use Rattle.graph_nodes.proofs.construct_nodes.Given as goal

abbrev pub invariant-loop-i : goal.invariant-loop-i
invariant-loop-i l = Building l.complete l.s l.table l.initial.tab l.count l.tab l.n l.adding l.i
