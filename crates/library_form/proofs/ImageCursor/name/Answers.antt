-- `library_form::ImageCursor::name`. Each way out is one law of Names.
-- Assumes nothing.
use Rattle.library_form.proofs.Handed.{handed}
use Rattle.library_form.proofs.Names.{no_number, first_in, empty, long, cut, unprintable, whole}
use Rattle.library_form.proofs.ImageCursor.name.Goals as goal
use Rattle.library_form.proofs.ImageCursor.name.Goals.{then-len-lt1-via-then-len-lt1, then-len-lt1-via-else-len-lt1+then-len-gt-MOST_NAME}
use Rattle.library_form.proofs.ImageCursor.name.Goals.{then-len-lt1-via-else-len-lt1+else-len-gt-MOST_NAME+then-s-first}

pub returns-in_err-len : goal.returns-in_err-len
returns-in_err-len c = rw (handed _ c.from_residual.ensures.1) (search (no_number, c.in_err-len.ensures))

pub overflow_sub-s : goal.overflow_sub-s
overflow_sub-s c = search (first_in, c.in_ok-len.ensures)

pub returns-then-len-lt1 : goal.returns-then-len-lt1
returns-then-len-lt1 c = elim c.then-len-lt1.branch [
  | then-len-lt1-via-then-len-lt1 w ↦ search (empty, c.in_ok-len.ensures)
  | then-len-lt1-via-else-len-lt1+then-len-gt-MOST_NAME w ↦ search (long, c.in_ok-len.ensures)
  | then-len-lt1-via-else-len-lt1+else-len-gt-MOST_NAME+then-s-first w ↦ search (cut, c.in_ok-len.ensures)
]

pub returns-then-not-printable : goal.returns-then-not-printable
returns-then-not-printable c = search (unprintable, c.in_ok-len.ensures)

pub returns : goal.returns
returns c = search (whole, c.in_ok-len.ensures)
