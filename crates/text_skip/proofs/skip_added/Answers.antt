use Rattle.std.specs.Prelude.{Ok}
use Rattle.text_skip.proofs.PassLaws.{added_more, added_on, added_last, added_refused}
use mathlib.Core.Path.{refl, sym, ap, ◌∙◌}
use Rattle.text_skip.proofs.skip_added.Goals as goal

pub loop-next-init : goal.loop-next-init
loop-next-init c = refl

pub returns-in_err-next : goal.returns-in_err-next
returns-in_err-next c = absurd (added_refused c.args.s.now c.loop-next.at.at c.skip_string.ensures _ c.in_err-next.was)

pub loop-next-smaller : goal.loop-next-smaller
loop-next-smaller c = added_on c.args.s.now c.loop-next.at.at c.skip_string.ensures c.in-Continue.next (c.in_ok-next.was ∙ ap Ok c.in-Continue.is)

pub loop-next-preserved : goal.loop-next-preserved
loop-next-preserved c =
    sym (added_more c.args.s.now c.loop-next.at.at c.skip_string.ensures c.in-Continue.next (c.in_ok-next.was ∙ ap Ok c.in-Continue.is))
    ∙ c.loop-next.invariant

pub returns-in-Break : goal.returns-in-Break
returns-in-Break c =
    sym (added_last c.args.s.now c.loop-next.at.at c.skip_string.ensures c.in-Break.end (c.in_ok-next.was ∙ ap Ok c.in-Break.is))
    ∙ c.loop-next.invariant
