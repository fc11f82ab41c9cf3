-- `library_search::try_entry`. Each way out is one law of Ways.
-- Assumes nothing.
use Rattle.library_form.proofs.Bounds.{end_fits, end_in}
use Rattle.library_search.proofs.Ways.{no_entry, unwanted, entry_hit, entry_other}
use Rattle.library_search.proofs.try_entry.Goals.{else-wanted-via-then-wanted+else-eq, else-wanted-via-else-wanted}
use Rattle.library_search.proofs.try_entry.Goals as goal

pub returns-in_default : goal.returns-in_default
returns-in_default c = search (no_entry, c.in_default.ensures)

pub overflow_add-end : goal.overflow_add-end
overflow_add-end c = search end_fits

pub slice_bounds-eq-end : goal.slice_bounds-eq-end
slice_bounds-eq-end c = search end_in

pub returns-then-eq : goal.returns-then-eq
returns-then-eq c = search (entry_hit, c.in-Ok.ensures)

pub returns : goal.returns
returns c = elim c.else-wanted.branch [
  | else-wanted-via-then-wanted+else-eq w ↦ search (entry_other, c.in-Ok.ensures)
  | else-wanted-via-else-wanted w ↦ search (unwanted, c.in-Ok.ensures)
]
