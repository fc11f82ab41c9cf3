use Rattle.library_items.proofs.Ahead.{ahead_reads, ahead_on, ahead_done}
use Rattle.library_items.proofs.Parts.{no_list, list_begun}
use borrow.Author.Rules.{rules}
use Rattle.library_items.proofs.take_list.Goals as goal

pub returns-in_default : goal.returns-in_default
returns-in_default c = absurd (search (no_list, c.in_default.ensures))

pub loop-init : goal.loop-init
loop-init c = search (list_begun, c.in-Ok.ensures)

pub take_item-reach-requires : goal.take_item-reach-requires
take_item-reach-requires c = (search rules, ahead_reads c.loop.invariant c.loop-test.true)

pub loop-preserved : goal.loop-preserved
loop-preserved c = search ahead_on

pub returns : goal.returns
returns c = search ahead_done
