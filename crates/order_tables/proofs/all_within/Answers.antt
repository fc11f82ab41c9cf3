-- `order_tables::all_within`. Each way out is one law of Within.
-- Assumes nothing.
use Rattle.std.proofs.Common.{◌∙◌, eq-eqb, rules}
use Rattle.order_tables.proofs.Within.{no_edges, most_within}
use Rattle.order_tables.proofs.all_within.Goals as goal

pub returns-then-m-eq0 : goal.returns-then-m-eq0
returns-then-m-eq0 c = eq-eqb c.args.m 0 c.if-m-eq0.true ∙ no_edges c.args.n c.args.m c.args.edges.now c.if-m-eq0.true

pub returns-else-m-eq0 : goal.returns-else-m-eq0
returns-else-m-eq0 c = search (rules, most_within)
