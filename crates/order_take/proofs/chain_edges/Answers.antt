use Rattle.order_take.proofs.Chaining.{row_there, chained_all}
use borrow.Author.Rules.{rules}
use Rattle.order_take.proofs.chain_edges.Goals as goal

pub chain_edge-requires : goal.chain_edge-requires
chain_edge-requires c = (search row_there, search rules)

pub returns : goal.returns
returns c = search chained_all
