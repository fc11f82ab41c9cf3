-- `host_words::record_words`. Each turn writes the three words of a value.
-- Assumes nothing.
use Rattle.host_words.proofs.RecordLaws.{Writing}
use Rattle.host_words.proofs.record_words.Given as goal

abbrev pub invariant-loop-i : goal.invariant-loop-i
invariant-loop-i l = Writing l.fn.values l.words l.i
