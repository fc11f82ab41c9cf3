-- `graph_link::save_includes`. Each way out is one law of Saving.
-- Assumes nothing.
use Rattle.graph_link.proofs.Saving.{Saving}
use Rattle.graph_nodes.specs.Adding.{names_held}
use Rattle.graph_link.proofs.save_includes.Given as goal

abbrev pub invariant-loop-i : goal.invariant-loop-i
invariant-loop-i l =
    Saving l.nodes.count l.nodes.image.now (names_held l.nodes.image.now l.nodes.ntab.now l.nodes.count)
    l.store l.includes l.rows l.base l.initial.levels l.levels l.i
