-- `graph_marks::mark_nodes`. Each way out is one law of Setting.
-- Assumes nothing.
use Rattle.graph_marks.proofs.Setting.{MarkLoop}
use Rattle.graph_marks.proofs.mark_nodes.Given as goal

abbrev pub invariant-loop-i : goal.invariant-loop-i
invariant-loop-i l = MarkLoop l.s l.table l.tab l.count l.n l.initial.marks l.marks l.i
