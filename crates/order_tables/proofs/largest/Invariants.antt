-- `order_tables::largest`. The larger of two numbers is kept, so the largest of that so far and the rest is the largest of all.
-- Assumes nothing.
use Rattle.text_utf8.specs.Largest.{largest}
use lib.ListN.{drop}
use mathlib.Core.Path.{◌≡◌}
use Rattle.order_tables.proofs.largest.Given as goal

abbrev pub invariant-loop-x : goal.invariant-loop-x
invariant-loop-x l = largest l.most (drop l.x-index l.w) ≡ largest 0 l.w
