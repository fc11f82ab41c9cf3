-- `order_tables::largest`. Each turn is one law of the largest.
-- Assumes nothing.
use Rattle.text_utf8.proofs.LargestLaws.{largest_more, largest_past}
use mathlib.Core.Path.{◌≡◌, sym, ◌∙◌}
use Rattle.std.proofs.Common.{max, get_or, arith}
use Rattle.order_tables.proofs.Within.{larger_max}
use Rattle.order_tables.proofs.largest.Goals as goal

pub loop-x-preserved : goal.loop-x-preserved
loop-x-preserved c =
    let e : c.max-most.result ≡ max c.loop-x.most (get_or c.args.w.now c.loop-x.x-index 0) = grind arith in
    largest_more c.args.w.now c.loop-x.x-index c.loop-x.most c.loop-x-test.true (e ∙ larger_max _ _) ∙ c.loop-x.invariant

pub returns : goal.returns
returns c = sym (largest_past c.args.w.now c.loop-x.x-index c.loop-x.most c.loop-x-test.false) ∙ c.loop-x.invariant
