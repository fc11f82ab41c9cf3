-- `library_find::find_import_module`. Each way out is one law of Answers.
-- Assumes nothing.
use Rattle.library_form.proofs.Handed.{handed}
use Rattle.library_find.proofs.Answers.{import_broken, import_told}
use Rattle.library_find.proofs.find_import_module.Goals as goal

pub returns-in_err-read_image : goal.returns-in_err-read_image
returns-in_err-read_image c = rw (handed _ c.from_residual.ensures.1) (search (import_broken, c.in_err-read_image.ensures))

pub returns : goal.returns
returns c = search (import_told, c.in_ok-read_image.ensures)
