-- `replay::after_fields`. Each way out is one law.
-- Assumes nothing.
use Rattle.replay.proofs.RecordLaws.{fields_more, fields_done}
use Rattle.replay.proofs.after_fields.Goals as goal

pub loop-preserved : goal.loop-preserved
loop-preserved c = search fields_more

pub returns : goal.returns
returns c = search fields_done
