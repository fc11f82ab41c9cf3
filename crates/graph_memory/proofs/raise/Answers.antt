-- `graph_memory::raise`. The way out is a law of Words.
-- Assumes nothing.
use Rattle.graph_memory.proofs.Words.{raise_fits, by_either}
use Rattle.graph_memory.proofs.raise.Goals as goal

pub overflow_add-of_word : goal.overflow_add-of_word
overflow_add-of_word c = search raise_fits

pub returns : goal.returns
returns c = search by_either
