-- `library_read::read_set`. Each way out is one law of Sets.
-- Assumes nothing.
use Rattle.library_form.proofs.Handed.{handed}
use Rattle.library_read.proofs.Sets.{modules_stopped, set_read}
use Rattle.library_read.proofs.read_set.Goals as goal

pub returns-in_err-modules : goal.returns-in_err-modules
returns-in_err-modules c = rw (handed _ c.from_residual.ensures.1) (search (modules_stopped, c.in_err-modules.ensures))

pub returns : goal.returns
returns c = search (set_read, c.in_ok-modules.ensures)
