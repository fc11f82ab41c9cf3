-- `library_index::add`. Each way out is one law of Insert.
-- Assumes nothing.
use Rattle.library_index.proofs.Insert.{already, added}
use Rattle.library_index.proofs.add.Goals as goal

pub returns-then-is_none : goal.returns-then-is_none
returns-then-is_none c = search added

pub returns-else-is_none : goal.returns-else-is_none
returns-else-is_none c = search already
