-- `nuvaleta_order_check`. The number and the place that the check answered.
-- Assumes nothing.
use mathlib.Core.Path.{ap, ◌∙◌}
use mathlib.Core.List.{[], ◌∷◌}
use Rattle.order.specs.declared.Checked.{Checked}
use Rattle.nuvaleta.proofs.OrderLaws.{check_told}
use Rattle.nuvaleta.proofs.nuvaleta_order_check.Goals as goal

pub returns : goal.returns
returns c =
    let a = c.args in
    check_told a.nodes.now a.n a.edges.now a.m a.list.now c.order_check-checked.ensures c.number-number.ensures
    (c.order_words.ensures ∙ ap (λ (r : Checked). c.number-number.result ∷ r.place ∷ []) c.checked.view_is)
