-- `library_search::try_sets`. Each part is a set.
-- Assumes nothing.
use Rattle.library_search.specs.Search.{set_tried}
use Rattle.library_search.proofs.try_sets.Given as goal

abbrev pub ghost-try_list : goal.ghost-try_list
ghost-try_list a = set_tried a.part.0.now a.part.3.now a.part.1.now a.part.2.now
