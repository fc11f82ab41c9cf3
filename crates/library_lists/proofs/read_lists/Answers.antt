-- `library_lists::read_lists`. Each way out is one law of Rests.
-- Assumes nothing.
use Rattle.library_form.proofs.Handed.{handed}
use Rattle.library_lists.proofs.Rests.{no_submodules, no_augmenting, last_list}
use Rattle.library_lists.proofs.read_lists.Goals as goal

pub returns-in_err-submodules : goal.returns-in_err-submodules
returns-in_err-submodules c = rw (handed _ c.from_residual.ensures.1) (search (no_submodules, c.in_err-submodules.ensures))

pub returns-in_err-augmenting : goal.returns-in_err-augmenting
returns-in_err-augmenting c =
    rw (handed _ c.from_residual-in_err-augmenting.ensures.1) (search (no_augmenting, c.in_ok-submodules.ensures, c.in_err-augmenting.ensures))

pub returns : goal.returns
returns c = search (last_list, c.in_ok-submodules.ensures, c.in_ok-augmenting.ensures)
