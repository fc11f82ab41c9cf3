use Rattle.library_form.proofs.Handed.{handed}
use Rattle.library_read.proofs.Sets.{no_sets, sets_begun, sets_further, sets_stopped, sets_read}
use Rattle.library_read.proofs.read_sets.Goals as goal

pub returns-in_err-count : goal.returns-in_err-count
returns-in_err-count c = rw (handed _ c.from_residual.ensures.1) (search (no_sets, c.in_err-count.ensures))

pub loop-init : goal.loop-init
loop-init c = search sets_begun

pub returns-in_err-here : goal.returns-in_err-here
returns-in_err-here c = rw (handed _ c.from_residual-in_err-here.ensures.1) (search (sets_stopped, c.in_ok-count.ensures, c.in_err-here.ensures))

pub loop-preserved : goal.loop-preserved
loop-preserved c = search (sets_further, c.in_ok-here.ensures)

pub returns : goal.returns
returns c = search (sets_read, c.in_ok-count.ensures)
