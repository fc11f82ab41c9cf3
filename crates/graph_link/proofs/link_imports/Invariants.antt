-- `graph_link::link_imports`. Each way out is one law of Naming.
-- Assumes nothing.
use Rattle.graph_edges.specs.Edges.{rows_in}
use Rattle.graph_link.proofs.Naming.{Naming}
use Rattle.graph_nodes.specs.Adding.{names_held}
use Rattle.graph_link.proofs.link_imports.Given as goal

abbrev pub invariant-loop-i : goal.invariant-loop-i
invariant-loop-i l =
    Naming l.nodes.image.now (names_held l.nodes.image.now l.nodes.ntab.now l.nodes.count) l.store l.imports l.rows l.v.0
    (rows_in l.count l.initial.edges) l.initial.edges l.initial.chains l.edges l.chains l.total l.i
