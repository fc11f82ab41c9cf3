use Rattle.graph_marks.proofs.Setting.{marks_begun, marks_ask, marks_on, marks_done}
use borrow.Author.Rules.{rules}
use Rattle.graph_marks.proofs.mark_nodes.Goals as goal

pub loop-i-init : goal.loop-i-init
loop-i-init c = search marks_begun

pub mark_item-requires : goal.mark_item-requires
mark_item-requires c =
    let given = c.requires in
    marks_ask _ _ _ _ _ c.loop-i.invariant given.0 given.1 c.loop-i-test.true

pub loop-i-preserved : goal.loop-i-preserved
loop-i-preserved c = search marks_on

pub returns : goal.returns
returns c = (search marks_done, search rules)
