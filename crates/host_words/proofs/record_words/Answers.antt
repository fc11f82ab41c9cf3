use Rattle.host_words.proofs.RecordLaws.{start_fits, size_fits, begun, more, all_written}
use Rattle.host_words.proofs.record_words.Goals as goal

pub loop-i-init : goal.loop-i-init
loop-i-init c = search begun

pub overflow_cast-words : goal.overflow_cast-words
overflow_cast-words c = search start_fits

pub overflow_cast-words-in-loop-i : goal.overflow_cast-words-in-loop-i
overflow_cast-words-in-loop-i c = search size_fits

pub loop-i-preserved : goal.loop-i-preserved
loop-i-preserved c = search more

pub returns : goal.returns
returns c = search all_written
