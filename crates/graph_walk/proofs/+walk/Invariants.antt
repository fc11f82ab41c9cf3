-- `graph_walk::walk`, which calls itself with less depth left. What each include keeps is said by Walking.
-- Assumes nothing.
use Rattle.graph_nodes.specs.Adding.{names_held}
use Rattle.graph_visit.specs.Visit.{codes_here, AsLong}
use Rattle.graph_walk.proofs.Walking.{Walking}
use Rattle.graph_walk.proofs.+walk.Given as goal

-- the depth left
abbrev pub decreases-walk : goal.decreases-walk
decreases-walk l = l.spot.left

abbrev pub invariant-loop-i : goal.invariant-loop-i
invariant-loop-i l =
    Walking (codes_here l.ground.nodes.image.now l.ground.bundle.now (names_held l.ground.nodes.image.now l.ground.nodes.ntab.now l.ground.nodes.count))
    l.ground.nodes.count l.left l.v.0 l.base l.k l.initial.levels l.initial.edges l.initial.chains l.linked l.levels l.edges l.chains l.total l.most l.i
    × AsLong l.initial.store l.initial.imports l.initial.includes l.initial.levels l.store l.imports l.includes l.levels
