-- `nuvaleta_graph_complete` answers what `graph_answer` does with `true`. The place is named: a search for it takes long where it is not there.
-- Assumes nothing.
use Rattle.nuvaleta.proofs.nuvaleta_graph_complete.Goals as goal

pub returns : goal.returns
returns c =
    c.graph_answer.ensures
