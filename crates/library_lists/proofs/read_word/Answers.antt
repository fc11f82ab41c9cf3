-- `library_lists::read_word`. Each way out is one law of Bounds or Words.
-- Assumes nothing.
use Rattle.library_form.proofs.Handed.{handed}
use Rattle.library_form.proofs.Bounds.{end_fits, end_in}
use Rattle.library_lists.proofs.Words.{no_word, any_word, repeated, new_word}
use Rattle.library_lists.proofs.read_word.Goals.{else-differ-via-then-differ+else-among, else-differ-via-else-differ}
use Rattle.library_lists.proofs.read_word.Goals as goal

pub returns-in_err-first : goal.returns-in_err-first
returns-in_err-first c = rw (handed _ c.from_residual.ensures.1) (search (no_word, c.in_err-first.ensures))

pub overflow_add-first : goal.overflow_add-first
overflow_add-first c = search (end_fits, c.in_ok-first.was)

pub slice_bounds-among-end : goal.slice_bounds-among-end
slice_bounds-among-end c = search (end_in, c.in_ok-first.was)

pub returns-then-among : goal.returns-then-among
returns-then-among c = search (repeated, c.in_ok-first.ensures)

pub returns : goal.returns
returns c = elim c.else-differ.branch [
  | else-differ-via-then-differ+else-among w ↦ search (new_word, c.in_ok-first.ensures)
  | else-differ-via-else-differ w ↦ search (any_word, c.in_ok-first.ensures)
]
