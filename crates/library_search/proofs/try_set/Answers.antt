-- `library_search::try_set`. Each way out is one law of Loops.
-- Assumes nothing.
use Rattle.library_search.proofs.Loops.{modules_end, imports_behind}
use Rattle.library_search.proofs.try_set.Goals as goal

pub returns-in_err-behind : goal.returns-in_err-behind
returns-in_err-behind c = rw c.from_residual.ensures (search (modules_end, c.in_err-behind.ensures))

pub returns : goal.returns
returns c = search (imports_behind, c.in_ok-behind.ensures)
