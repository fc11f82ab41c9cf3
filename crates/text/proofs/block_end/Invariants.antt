-- `text::block_end`. The loop keeps where the comment ends: a `*/` ends it here, any other byte leaves its end as it was.
-- Assumes nothing.
use Rattle.text.specs.Scan.{block_end}
use mathlib.Core.Path.{◌≡◌}
use Rattle.text.proofs.block_end.Given as goal

abbrev pub invariant-loop-i : goal.invariant-loop-i
invariant-loop-i l = block_end l.s l.i ≡ block_end l.s l.at
