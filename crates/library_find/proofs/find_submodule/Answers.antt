-- `library_find::find_submodule`. Each way out is one law of Answers.
-- Assumes nothing.
use Rattle.library_form.proofs.Handed.{handed}
use Rattle.library_find.proofs.Answers.{submodule_broken, submodule_told}
use Rattle.library_find.proofs.find_submodule.Goals as goal

pub returns-in_err-read_image : goal.returns-in_err-read_image
returns-in_err-read_image c = rw (handed _ c.from_residual.ensures.1) (search (submodule_broken, c.in_err-read_image.ensures))

pub returns : goal.returns
returns c = search (submodule_told, c.in_ok-read_image.ensures)
