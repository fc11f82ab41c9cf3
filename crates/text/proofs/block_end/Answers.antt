use Rattle.text.proofs.Laws.{block_stop, block_more, block_past, max_end}
use Rattle.text.specs.Scan.{block_end}
use mathlib.Core.Path.{sym, ◌∙◌}
use Rattle.text.proofs.block_end.Goals as goal

pub returns-then-pair_at : goal.returns-then-pair_at
returns-then-pair_at c = sym (block_stop c.args.s.now c.loop-i.i (sym c.pair_at.ensures ∙ c.if-pair_at.true)) ∙ c.loop-i.invariant

pub loop-i-preserved : goal.loop-i-preserved
loop-i-preserved c =
    sym (block_more c.args.s.now c.loop-i.i c.loop-i-test.true (sym c.pair_at.ensures ∙ c.if-pair_at.false)) ∙ c.loop-i.invariant

pub returns : goal.returns
returns c =
    let s = c.args.s.now in
    let l = c.loop-i in
    c.max.ensures ∙ max_end s (block_end s) c.args.at l.i (block_past s) c.loop-i-test.false l.auto.i-end l.invariant
