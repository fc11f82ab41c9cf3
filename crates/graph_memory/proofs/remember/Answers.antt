-- `graph_memory::remember`.
-- Assumes nothing.
use Rattle.graph_memory.proofs.Words.{second_in, remembers}
use Rattle.graph_memory.proofs.remember.Goals as goal

pub bounds-levels-at-2 : goal.bounds-levels-at-2
bounds-levels-at-2 c = search second_in

pub returns : goal.returns
returns c = search remembers
