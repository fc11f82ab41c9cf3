-- `host_words::page_words`. The six words, and one more.
-- Assumes nothing.
use Rattle.host_words.proofs.WordsLaws.{seven}
use Rattle.host_words.proofs.page_words.Goals as goal

pub returns : goal.returns
returns c = search seven
