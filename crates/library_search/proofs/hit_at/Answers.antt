-- `library_search::hit_at`. Each way out is one law of Ways.
-- Assumes nothing.
use Rattle.library_search.proofs.Ways.{module_hit, no_revisions, import_only_hit}
use Rattle.library_search.proofs.hit_at.Goals as goal

pub returns-then-not-import_only : goal.returns-then-not-import_only
returns-then-not-import_only c = search module_hit

pub returns-in_default : goal.returns-in_default
returns-in_default c = search (no_revisions, c.in_default.ensures)

pub returns : goal.returns
returns c = search (import_only_hit, c.in-Ok.ensures)
