-- `library_index::take_name`. Each way out is one law of Taking.
-- Assumes nothing.
use Rattle.std.proofs.lemmas.Result.{err_from_is_err_and}
use Rattle.library_index.proofs.Taking.{no_name, room, repeated, fresh}
use Rattle.library_index.proofs.take_name.Goals as goal

pub returns-in_err-first : goal.returns-in_err-first
returns-in_err-first c =
    let p = err_from_is_err_and c.from_residual.result c.from_residual.ensures.1 in
    rw (p.1, p.2) (search (no_name, c.in_err-first.ensures))

pub add-requires : goal.add-requires
add-requires c = search (room, c.in_ok-first.was)

pub returns-in-Some : goal.returns-in-Some
returns-in-Some c = search (repeated, c.in_ok-first.was)

pub returns-in-None : goal.returns-in-None
returns-in-None c = search (fresh, c.in_ok-first.was)
