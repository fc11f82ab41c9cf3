-- `text_statement::skip_statement`. The loop keeps how the statement ends from here: a part that was passed leaves that as it was, at its own
-- depth, and so does the gap after it. Where a turn begins no gap stands.
-- Assumes nothing.
use Prim.Native.Nat.{◌-◌, ◌≤◌}
use Rattle.text.specs.Scan.{gap_end}
use Rattle.text_statement.specs.Statement.{statement_from, statement_at}
use lib.ListN.{length}
use mathlib.Core.Path.{◌≡◌}
use Rattle.text_statement.proofs.skip_statement.Given as goal

abbrev pub invariant-loop-next : goal.invariant-loop-next
invariant-loop-next l = (l.depth ≤ l.at.at) × (gap_end l.s l.at.at ≡ l.at.at) × (statement_from l.s l.at.at l.depth ≡ statement_at l.s l.initial.at.at)

abbrev pub decreases-loop-next : goal.decreases-loop-next
decreases-loop-next l = length l.s - l.at.at
