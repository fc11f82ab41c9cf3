use Rattle.text_statement.proofs.StatementLaws.{quoted_is, quoted_max, quoted_close, quoted_more}
use mathlib.Core.Path.{sym, ◌∙◌}
use Rattle.text_statement.proofs.quoted_end.Goals as goal

pub loop-i-init : goal.loop-i-init
loop-i-init c = let a = c.args in sym (quoted_is a.s.now a.at a.q)

pub returns-then-closes : goal.returns-then-closes
returns-then-closes c =
    let a = c.args in
    sym (quoted_close a.q a.s.now c.loop-i.before c.loop-i.i c.loop-i-test.true c.closes.ensures c.if-closes.true)
    ∙ c.loop-i.invariant

pub loop-i-preserved : goal.loop-i-preserved
loop-i-preserved c =
    let a = c.args in
    sym (quoted_more a.q a.s.now c.loop-i.before c.loop-i.i c.loop-i-test.true c.closes.ensures c.if-closes.false)
    ∙ c.loop-i.invariant

pub returns : goal.returns
returns c =
    let a = c.args in
    let l = c.loop-i in
    c.max.ensures ∙ quoted_max a.q a.s.now l.before a.at l.i c.loop-i-test.false l.auto.i-end l.invariant
