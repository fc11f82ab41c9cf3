-- `library_search::try_word`. Each way out is one law of Ways.
-- Assumes nothing.
use Rattle.library_form.proofs.Bounds.{end_fits, end_in}
use Rattle.library_search.proofs.Ways.{no_word, word_hit, word_other}
use Rattle.library_search.proofs.try_word.Goals as goal

pub returns-in_default : goal.returns-in_default
returns-in_default c = search (no_word, c.in_default.ensures)

pub overflow_add-end : goal.overflow_add-end
overflow_add-end c = search end_fits

pub slice_bounds-eq-end : goal.slice_bounds-eq-end
slice_bounds-eq-end c = search end_in

pub returns-then-eq : goal.returns-then-eq
returns-then-eq c = search (word_hit, c.in-Ok.ensures)

pub returns : goal.returns
returns c = search (word_other, c.in-Ok.ensures)
