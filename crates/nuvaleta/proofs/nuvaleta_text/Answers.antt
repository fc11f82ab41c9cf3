-- `nuvaleta_text`. What was told, in words, and the first of them.
-- Assumes nothing.
use Rattle.nuvaleta.proofs.ToldLaws.{text_fits, told_as}
use Rattle.nuvaleta.proofs.nuvaleta_text.Goals as goal

pub text_words-requires : goal.text_words-requires
text_words-requires c = search text_fits

pub returns : goal.returns
returns c = search told_as
