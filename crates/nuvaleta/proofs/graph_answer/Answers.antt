-- `nuvaleta::graph_answer`. What came of the graph, in words, and the first of them.
-- Assumes nothing.
use Rattle.nuvaleta.proofs.GraphLaws.{graph_fits, graph_told}
use Rattle.nuvaleta.proofs.graph_answer.Goals as goal

pub graph_words-requires : goal.graph_words-requires
graph_words-requires c =
    let a = c.args in
    graph_fits _ a.image.now a.bundle.now a.nodes.now a.edges.now a.store.now a.imports.now a.includes.now a.levels.now
    c.to_graph-graphed.ensures c.type_inv.image

pub returns : goal.returns
returns c =
    let a = c.args in
    graph_told _ a.image.now a.bundle.now a.nodes.now a.edges.now a.store.now a.imports.now a.includes.now a.levels.now
    c.to_graph-graphed.ensures c.graph_words.ensures
