-- `graph_tables::put_nodes`. Each turn lays two words; each fact is one law of Tables.
-- Assumes nothing.
use Rattle.graph_tables.proofs.Tables.{Naming}
use Rattle.graph_tables.proofs.put_nodes.Given as goal

abbrev pub invariant-loop-i : goal.invariant-loop-i
invariant-loop-i l = Naming l.ntab l.n l.initial.nodes l.nodes l.i
