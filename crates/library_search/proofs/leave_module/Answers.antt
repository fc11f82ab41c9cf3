-- `library_search::leave_module`. Each way out is one law of Ways.
-- Assumes nothing.
use Rattle.library_form.proofs.Handed.{handed}
use Rattle.library_search.proofs.Ways.{not_left, left_behind}
use Rattle.library_search.proofs.leave_module.Goals as goal

pub returns-in_err-augmenting : goal.returns-in_err-augmenting
returns-in_err-augmenting c = rw (handed _ c.from_residual.ensures.1) (search (not_left, c.in_err-augmenting.ensures))

pub returns : goal.returns
returns c = search (left_behind, c.in_ok-augmenting.ensures)
