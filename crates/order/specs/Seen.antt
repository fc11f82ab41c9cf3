-- The outcomes and their numbers; an order and a check as they lie in memory, and as contracts see them.
-- Assumes nothing.
use Rattle.std.specs.Prelude.{ℕ, cond, eqb}
use Rattle.order.specs.Told.{ToldOrder, ToldCheck}
use Rattle.order.specs.declared.Outcome.{Outcome}
use Rattle.order.specs.declared.Outcome.TheVariants.{Good, CycleMet, OrderTooShort, ListWrong, TablesUnfit}
use Rattle.order.specs.declared.Ordered.TheInside.{Inside as OrderInside}
use Rattle.order.specs.declared.Checked.TheInside.{Inside as CheckInside}

abbrev pub outcome_number : Outcome → ℕ
outcome_number Good = 0
outcome_number CycleMet = 40
outcome_number OrderTooShort = 41
outcome_number ListWrong = 42
outcome_number TablesUnfit = 43

-- the outcome of a number
abbrev pub outcome_of : ℕ → Outcome
outcome_of n = cond (eqb n 0) Good (cond (eqb n 40) CycleMet (cond (eqb n 41) OrderTooShort (cond (eqb n 42) ListWrong TablesUnfit)))

abbrev pub order_seen : OrderInside → ToldOrder
order_seen x = record { number = outcome_number x.outcome; length = x.length }

abbrev pub order_unseen : ToldOrder → OrderInside
order_unseen x = record { outcome = outcome_of x.number; length = x.length }

abbrev pub check_seen : CheckInside → ToldCheck
check_seen x = record { number = outcome_number x.outcome; place = x.place }

abbrev pub check_unseen : ToldCheck → CheckInside
check_unseen x = record { outcome = outcome_of x.number; place = x.place }
