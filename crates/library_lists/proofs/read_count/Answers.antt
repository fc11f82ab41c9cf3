-- `library_lists::read_count`. Each way out is one law of Counting.
-- Assumes nothing.
use Rattle.library_form.proofs.Handed.{handed}
use Rattle.library_lists.proofs.Counting.{no_number, out, as_many}
use Rattle.library_lists.proofs.read_count.Goals as goal

pub returns-in_err-count : goal.returns-in_err-count
returns-in_err-count c = rw (handed _ c.from_residual.ensures.1) (search (no_number, c.in_err-count.ensures))

pub returns-then-count-least : goal.returns-then-count-least
returns-then-count-least c = search (out, c.in_ok-count.ensures)

pub returns : goal.returns
returns c = search (as_many, c.in_ok-count.ensures)
