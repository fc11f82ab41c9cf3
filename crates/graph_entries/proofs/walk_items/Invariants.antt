-- `graph_entries::walk_items`. Each turn walks one item; each fact is one law of Going.
-- Assumes nothing.
use Rattle.graph_entries.proofs.Going.{Going}
use Rattle.graph_nodes.specs.Adding.{names_held}
use Rattle.graph_entries.proofs.walk_items.Given as goal

abbrev pub invariant-loop-i : goal.invariant-loop-i
invariant-loop-i l =
    Going l.ground.nodes.image.now l.ground.bundle.now (names_held l.ground.nodes.image.now l.ground.nodes.ntab.now l.ground.nodes.count)
    l.ground.nodes.count l.table l.items l.initial.store l.initial.imports l.initial.includes l.initial.levels l.initial.edges l.initial.chains
    l.store l.imports l.includes l.levels l.edges l.chains l.total l.entry l.v.0 l.i
