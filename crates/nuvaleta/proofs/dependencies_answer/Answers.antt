-- `nuvaleta::dependencies_answer`. What the scan answered, in words, and the first of them.
-- Assumes nothing.
use Rattle.nuvaleta.proofs.HostLaws.{words_fit, answered}
use Rattle.nuvaleta.proofs.dependencies_answer.Goals as goal

pub scan_words-requires : goal.scan_words-requires
scan_words-requires c = search words_fit

pub returns : goal.returns
returns c = search answered
