use Rattle.library_form.proofs.Bounds.{end_fits, end_in}
use Rattle.library_lists.proofs.Words.{none_yet, none_left, no_name, is_it, not_it}
use Rattle.library_lists.proofs.among.Goals as goal

pub loop-init : goal.loop-init
loop-init c = none_yet _ _ _ _

pub returns-in_default : goal.returns-in_default
returns-in_default c = search (no_name, c.in_default.ensures)

pub overflow_add-end : goal.overflow_add-end
overflow_add-end c = search end_fits

pub slice_bounds-eq-end : goal.slice_bounds-eq-end
slice_bounds-eq-end c = search end_in

pub returns-then-eq : goal.returns-then-eq
returns-then-eq c = search (is_it, c.in-Ok.ensures)

pub loop-preserved : goal.loop-preserved
loop-preserved c = search (not_it, c.in-Ok.ensures)

pub returns : goal.returns
returns c = search none_left
