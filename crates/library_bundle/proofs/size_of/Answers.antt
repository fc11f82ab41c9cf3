-- `library_bundle::size_of`: the number that stands behind the name is the text's length.
-- Assumes nothing.
use Rattle.library_bundle.proofs.Measuring.{no_size, the_size}
use Rattle.library_bundle.proofs.size_of.Goals as goal

pub returns-in-Ok : goal.returns-in-Ok
returns-in-Ok c = search (the_size, c.in-Ok.ensures)

pub returns-in-Err : goal.returns-in-Err
returns-in-Err c = search (no_size, c.in-Err.ensures)
