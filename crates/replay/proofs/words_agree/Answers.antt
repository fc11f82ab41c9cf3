use Rattle.replay.proofs.RecordLaws.{told_differs, told_last, told_on, told_done}
use Rattle.std.proofs.Common.{refl}
use Rattle.replay.proofs.words_agree.Goals as goal

pub loop-i-init : goal.loop-i-init
loop-i-init c = refl

pub returns-then-word-table : goal.returns-then-word-table
returns-then-word-table c = search told_differs

pub returns-then-table-i : goal.returns-then-table-i
returns-then-table-i c = search told_last

pub loop-i-preserved : goal.loop-i-preserved
loop-i-preserved c = search told_on

pub returns : goal.returns
returns c = search told_done
