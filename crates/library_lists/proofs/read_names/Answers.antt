use Rattle.library_form.proofs.Handed.{handed}
use Rattle.library_lists.proofs.Counting.{going}
use Rattle.library_lists.proofs.Words.{no_names, word_fits, names_further, names_stopped, names_read}
use Rattle.library_lists.proofs.read_names.Goals as goal

pub returns-in_err-count : goal.returns-in_err-count
returns-in_err-count c = rw (handed _ c.from_residual.ensures.1) (search (no_names, c.in_err-count.ensures))

pub loop-i-init : goal.loop-i-init
loop-i-init c = going _ _ _

pub returns-in_err-first : goal.returns-in_err-first
returns-in_err-first c = rw (handed _ c.from_residual-in_err-first.ensures.1) (search (names_stopped, c.in_ok-count.ensures, c.in_err-first.ensures))

pub overflow_add-here : goal.overflow_add-here
overflow_add-here c = search (word_fits, c.in_ok-first.ensures)

pub loop-i-preserved : goal.loop-i-preserved
loop-i-preserved c = search (names_further, c.in_ok-first.ensures)

pub returns : goal.returns
returns c = search (names_read, c.in_ok-count.ensures)
