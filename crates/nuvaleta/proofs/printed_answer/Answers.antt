-- `nuvaleta::printed_answer`. What the scan answered, in words, and the page.
-- Assumes nothing.
use Rattle.nuvaleta.proofs.HostLaws.{page_words_fit, page_size_fits, page_answered}
use Rattle.nuvaleta.proofs.printed_answer.Goals as goal

pub scan_words-words-requires : goal.scan_words-words-requires
scan_words-words-requires c = search page_words_fit

pub page_words-requires : goal.page_words-requires
page_words-requires c = search page_size_fits

pub returns : goal.returns
returns c = search page_answered
