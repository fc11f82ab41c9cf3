use Rattle.library_items.proofs.Ahead.{ahead_reads, ahead_on}
use Rattle.library_items.proofs.Parts.{no_revisions, revisions_room, first_read, revisions_begun, revisions_taken}
use borrow.Author.Rules.{rules}
use Rattle.library_items.proofs.take_revisions.Goals as goal

pub returns-in_default : goal.returns-in_default
returns-in_default c = absurd (search (no_revisions, c.in_default.ensures))

pub take_list-reach-requires : goal.take_list-reach-requires
take_list-reach-requires c = (search (revisions_room, c.in-Ok.ensures), search (first_read, c.in-Ok.ensures))

pub loop-init : goal.loop-init
loop-init c = search (revisions_begun, c.in-Ok.ensures)

pub take_list-reach-requires-in-loop : goal.take_list-reach-requires-in-loop
take_list-reach-requires-in-loop c = (search rules, ahead_reads c.loop.invariant c.loop-test.true)

pub loop-preserved : goal.loop-preserved
loop-preserved c = search ahead_on

pub returns : goal.returns
returns c = search (revisions_taken, c.in-Ok.ensures)
