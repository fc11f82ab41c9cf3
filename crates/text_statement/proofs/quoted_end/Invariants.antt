-- `text_statement::quoted_end`. The loop keeps where the string ends, with the byte before at hand: a byte that does not close leaves that as it was.
-- Assumes nothing.
use Rattle.text_statement.proofs.StatementLaws.{quoted_from}
use Rattle.text_statement.specs.Statement.{quoted_end}
use mathlib.Core.Path.{◌≡◌}
use Rattle.text_statement.proofs.quoted_end.Given as goal

abbrev pub invariant-loop-i : goal.invariant-loop-i
invariant-loop-i l = quoted_from l.q l.s l.before l.i ≡ quoted_end l.s l.at l.q
