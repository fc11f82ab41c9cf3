use Rattle.library_form.proofs.Handed.{handed}
use Rattle.library_read.proofs.Entries.{no_entries, entries_begun, entry_space, entries_further, entries_stopped, entries_read_lem}
use Rattle.library_read.proofs.read_entries.Goals as goal

pub returns-in_err-count : goal.returns-in_err-count
returns-in_err-count c = rw (handed _ c.from_residual.ensures.1) (search (no_entries, c.in_err-count.ensures))

pub loop-i-init : goal.loop-i-init
loop-i-init c = search (entries_begun, c.in_ok-count.ensures)

pub take_entry-requires : goal.take_entry-requires
take_entry-requires c = entry_space _ _ c.loop-i.invariant c.loop-i-test.true

pub returns-in_err-here : goal.returns-in_err-here
returns-in_err-here c = rw (handed _ c.from_residual-in_err-here.ensures.1) (search (entries_stopped, c.in_ok-count.ensures, c.in_err-here.ensures))

pub loop-i-preserved : goal.loop-i-preserved
loop-i-preserved c = search (entries_further, c.in_ok-here.ensures)

pub returns : goal.returns
returns c = search (entries_read_lem, c.in_ok-count.ensures)
