-- `graph_link::step`. Each way out is one law of Single.
-- Assumes nothing.
use Rattle.graph_link.proofs.Single.{no_submodule, no_node, no_room, too_deep_lem, down}
use Rattle.graph_link.proofs.step.Goals as goal

pub returns-then-word-eq0 : goal.returns-then-word-eq0
returns-then-word-eq0 c = search no_submodule

pub returns-then-word-eq1 : goal.returns-then-word-eq1
returns-then-word-eq1 c = search no_node

pub returns-in_default : goal.returns-in_default
returns-in_default c = search no_room

pub returns-then-left-eq0 : goal.returns-then-left-eq0
returns-then-left-eq0 c = search too_deep_lem

pub returns : goal.returns
returns c = search down
