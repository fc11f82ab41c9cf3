-- `library_bundle::text_under`. Each way out is one law of Looking.
-- Assumes nothing.
use Rattle.library_bundle.proofs.Looking.{nothing_held, held_table}
use Rattle.library_bundle.proofs.text_under.Goals as goal

pub text-requires : goal.text-requires
text-requires c = search (held_table, c.in-Ok.ensures)

pub returns-in-Err : goal.returns-in-Err
returns-in-Err c = search (nothing_held, c.in-Err.ensures)
