-- `library_read::read_number`. Each arm of the `match` is its clause of the definition.
-- Assumes nothing.
use Rattle.library_read.specs.Reading.{read_number}
use mathlib.Core.Path.{sym, ap}
use Rattle.library_read.proofs.read_number.Goals as goal

pub returns-in-Ok : goal.returns-in-Ok
unfolding read_number
returns-in-Ok c = sym (ap read_number c.in-Ok.is)

pub returns-in-Err : goal.returns-in-Err
unfolding read_number
returns-in-Err c = sym (ap read_number c.in-Err.is)
