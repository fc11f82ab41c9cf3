-- `library_search::try_entries`. Each part is an entry.
-- Assumes nothing.
use Rattle.library_search.specs.Search.{entry_tried}
use Rattle.library_search.proofs.try_entries.Given as goal

abbrev pub ghost-try_list : goal.ghost-try_list
ghost-try_list a = entry_tried a.part.0.now a.part.3.now a.part.1.now a.part.2.now
