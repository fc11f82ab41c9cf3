use Rattle.library_items.proofs.Ahead.{ahead_reads, ahead_on}
use Rattle.library_items.proofs.Listing.{no_sets, sets_begun, all_listed, length_kept}
use borrow.Author.Rules.{rules}
use Rattle.library_items.proofs.list_items.Goals as goal

pub returns-in_default : goal.returns-in_default
returns-in_default c = absurd (search (no_sets, c.in_default.ensures))

pub loop-init : goal.loop-init
loop-init c = search (sets_begun, c.in-Ok.ensures)

pub take_set-reach-requires : goal.take_set-reach-requires
take_set-reach-requires c = (search rules, ahead_reads c.loop.invariant c.loop-test.true)

pub loop-preserved : goal.loop-preserved
loop-preserved c = search ahead_on

pub returns : goal.returns
returns c = (search all_listed, search length_kept)
