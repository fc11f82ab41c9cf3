-- `nuvaleta_find_import_module`. What was told, in words, and the first of them.
-- Assumes nothing.
use Rattle.nuvaleta.proofs.ToldLaws.{import_fits, told_as}
use Rattle.nuvaleta.proofs.nuvaleta_find_import_module.Goals as goal

pub find_words-requires : goal.find_words-requires
find_words-requires c = search import_fits

pub returns : goal.returns
returns c = search told_as
