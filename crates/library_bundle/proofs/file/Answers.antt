-- `library_bundle::file`. Each way out is one law of Filing.
-- Assumes nothing.
use Rattle.library_form.proofs.Handed.{handed}
use Rattle.library_bundle.proofs.Filing.{no_name, end_fits, no_length, body_in, cut, entered}
use Rattle.library_bundle.proofs.file.Goals as goal

pub returns-in-Err : goal.returns-in-Err
returns-in-Err c = search (no_name, c.in-Err.ensures)

pub overflow_add-end : goal.overflow_add-end
overflow_add-end c = search (end_fits, c.in-Ok.ensures)

pub returns-in_err-size : goal.returns-in_err-size
returns-in_err-size c = rw (handed _ c.from_residual.ensures.1) (search (no_length, c.in-Ok.ensures, c.in_err-size.ensures))

pub overflow_sub-s : goal.overflow_sub-s
overflow_sub-s c = search (body_in, c.in-Ok.ensures, c.in_ok-size.ensures)

pub returns-then-s-body : goal.returns-then-s-body
returns-then-s-body c = search (cut, c.in-Ok.ensures, c.in_ok-size.ensures)

pub returns : goal.returns
returns c = search (entered, c.in-Ok.ensures, c.in_ok-size.ensures)
