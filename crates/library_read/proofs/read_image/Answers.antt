-- `library_read::read_image`. Each way out is one law of Sets.
-- Assumes nothing.
use Rattle.library_form.proofs.Handed.{handed}
use Rattle.library_read.proofs.Sets.{too_long, image_stopped, extra, whole}
use Rattle.library_read.proofs.read_image.Goals as goal

pub returns-then-s-gt-MOST_IMAGE : goal.returns-then-s-gt-MOST_IMAGE
returns-then-s-gt-MOST_IMAGE c = search too_long

pub returns-in_err-end : goal.returns-in_err-end
returns-in_err-end c = rw (handed _ c.from_residual.ensures.1) (search (image_stopped, c.in_err-end.ensures))

pub returns-then-end-s : goal.returns-then-end-s
returns-then-end-s c = search (extra, c.in_ok-end.ensures)

pub returns : goal.returns
returns c = search (whole, c.in_ok-end.ensures)
