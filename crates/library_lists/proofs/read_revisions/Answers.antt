use Rattle.library_form.proofs.Handed.{handed}
use Rattle.library_lists.proofs.Counting.{going}
use Rattle.library_lists.proofs.Rests.{no_revisions, revisions_further, revisions_stopped, revisions_read_lem}
use Rattle.library_lists.proofs.read_revisions.Goals as goal

pub returns-in_err-count : goal.returns-in_err-count
returns-in_err-count c = rw (handed _ c.from_residual.ensures.1) (search (no_revisions, c.in_err-count.ensures))

pub loop-init : goal.loop-init
loop-init c = going _ _ _

pub returns-in_err-here : goal.returns-in_err-here
returns-in_err-here c = rw (handed _ c.from_residual-in_err-here.ensures.1) (search (revisions_stopped, c.in_ok-count.ensures, c.in_err-here.ensures))

pub loop-preserved : goal.loop-preserved
loop-preserved c = search (revisions_further, c.in_ok-here.ensures)

pub returns : goal.returns
returns c = search (revisions_read_lem, c.in_ok-count.ensures)
