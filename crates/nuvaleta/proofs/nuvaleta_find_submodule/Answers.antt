-- `nuvaleta_find_submodule`. What was told, in words, and the first of them.
-- Assumes nothing.
use Rattle.nuvaleta.proofs.ToldLaws.{submodule_fits, told_as}
use Rattle.nuvaleta.proofs.nuvaleta_find_submodule.Goals as goal

pub find_words-requires : goal.find_words-requires
find_words-requires c = search submodule_fits

pub returns : goal.returns
returns c = search told_as
