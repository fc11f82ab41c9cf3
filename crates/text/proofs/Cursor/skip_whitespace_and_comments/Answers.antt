use Rattle.text.proofs.Laws.{gap_stop, gap_more, gap_on}
use mathlib.Core.Path.{refl, sym, ◌∙◌}
use Rattle.text.proofs.Cursor.skip_whitespace_and_comments.Goals as goal

pub loop-at-init : goal.loop-at-init
loop-at-init c = refl

pub returns-then-next-white : goal.returns-then-next-white
returns-then-next-white c =
    sym (gap_stop c.args.s.now c.loop-at.at c.run_end-white.ensures c.comment_end-next.ensures
    c.if-next-white.true) ∙ c.loop-at.invariant

pub loop-at-smaller : goal.loop-at-smaller
loop-at-smaller c =
    gap_on c.args.s.now c.loop-at.at c.run_end-white.ensures c.comment_end-next.ensures c.if-next-white.false

pub loop-at-preserved : goal.loop-at-preserved
loop-at-preserved c =
    sym (gap_more c.args.s.now c.loop-at.at c.run_end-white.ensures c.comment_end-next.ensures
    c.if-next-white.false) ∙ c.loop-at.invariant
