use Rattle.library_bundle.proofs.Measuring.{measured_none, row_held, measured_more, measured_all}
use Rattle.library_bundle.proofs.longest.Goals as goal

pub loop-i-init : goal.loop-i-init
loop-i-init c = search measured_none

pub size_of-requires : goal.size_of-requires
size_of-requires c = search row_held

pub loop-i-preserved : goal.loop-i-preserved
loop-i-preserved c = search measured_more

pub returns : goal.returns
returns c = search measured_all
