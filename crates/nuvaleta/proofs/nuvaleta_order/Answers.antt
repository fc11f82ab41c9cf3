-- `nuvaleta_order`. The number and the length that the order answered.
-- Assumes nothing.
use mathlib.Core.Path.{ap, ◌∙◌}
use mathlib.Core.List.{[], ◌∷◌}
use Rattle.order.specs.declared.Ordered.{Ordered}
use Rattle.nuvaleta.proofs.OrderLaws.{order_told}
use Rattle.nuvaleta.proofs.nuvaleta_order.Goals as goal

pub returns : goal.returns
returns c =
    let a = c.args in
    order_told a.nodes.now a.n a.edges.now a.m a.table.now c.order-ordered.ensures c.number-number.ensures
    (c.order_words.ensures ∙ ap (λ (r : Ordered). c.number-number.result ∷ r.length ∷ []) c.ordered.view_is)
