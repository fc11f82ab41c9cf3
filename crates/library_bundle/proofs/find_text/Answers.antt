-- `library_bundle::find_text`. Each way out is one law of Looking.
-- Assumes nothing.
use Rattle.library_bundle.proofs.Looking.{is_broken, held_table, as_looked}
use Rattle.library_bundle.proofs.find_text.Goals as goal

pub returns-in-Err : goal.returns-in-Err
returns-in-Err c = search (is_broken, c.in-Err.ensures)

pub find-requires : goal.find-requires
find-requires c = search (held_table, c.in-Ok.ensures)

pub returns-in-Ok : goal.returns-in-Ok
returns-in-Ok c = search as_looked
