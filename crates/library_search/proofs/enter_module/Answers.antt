-- `library_search::enter_module`. Each way out is one law of Ways.
-- Assumes nothing.
use Rattle.library_form.proofs.Handed.{handed}
use Rattle.library_form.proofs.Bounds.{end_fits}
use Rattle.library_search.proofs.Ways.{no_module, entered}
use Rattle.library_search.proofs.enter_module.Goals as goal

pub returns-in_err-first : goal.returns-in_err-first
returns-in_err-first c = rw (handed _ c.from_residual.ensures.1) (search (no_module, c.in_err-first.ensures))

pub overflow_add-first : goal.overflow_add-first
overflow_add-first c = search (end_fits, c.in_ok-first.was)

pub returns : goal.returns
returns c = search (entered, c.in_ok-first.ensures)
