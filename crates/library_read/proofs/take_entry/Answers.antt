-- `library_read::take_entry`. Each way out is one law of Entries.
-- Assumes nothing.
use Rattle.library_form.proofs.Handed.{handed}
use Rattle.library_read.proofs.Entries.{name_refused, name_fits, entry_taken}
use Rattle.library_read.proofs.take_entry.Goals as goal

pub returns-in_err-first : goal.returns-in_err-first
returns-in_err-first c = rw (handed _ c.from_residual.ensures.1) (search (name_refused, c.in_err-first.ensures))

pub overflow_add-first : goal.overflow_add-first
overflow_add-first c = search (name_fits, c.in_ok-first.ensures)

pub returns : goal.returns
returns c = search (entry_taken, c.in_ok-first.ensures)
