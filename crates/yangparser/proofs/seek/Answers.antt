use Rattle.std.specs.Prelude.{Ok}
use Rattle.yangparser.proofs.SeekLaws.{sought_on, sought_nearer, sought_met, sought_refused}
use borrow.Author.Rules.{rules}
use mathlib.Core.Path.{ap, ◌∙◌}
use Rattle.yangparser.proofs.seek.Goals as goal

pub loop-next-smaller : goal.loop-next-smaller
loop-next-smaller c =
    let a = c.args in
    sought_nearer a.whole a.s.now c.loop-next.here.at c.look_at.ensures c.in-Past.next (c.in_ok-next.was ∙ ap Ok c.in-Past.is)

pub loop-next-preserved : goal.loop-next-preserved
loop-next-preserved c =
    let a = c.args in
    sought_on a.whole a.s.now c.loop-next.here.at c.look_at.ensures c.in-Past.next (c.in_ok-next.was ∙ ap Ok c.in-Past.is) c.loop-next.invariant

pub returns-in-Met : goal.returns-in-Met
returns-in-Met c =
    let a = c.args in
    sought_met a.whole a.s.now c.loop-next.here.at c.look_at.ensures c.in-Met.x (c.in_ok-next.was ∙ ap Ok c.in-Met.is) c.loop-next.invariant

pub returns-in_err-next : goal.returns-in_err-next
returns-in_err-next c = search (rules, sought_refused, c.in_err-next.was)
