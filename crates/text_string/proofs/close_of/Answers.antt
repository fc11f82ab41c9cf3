use Rattle.text_string.proofs.StrLaws.{end_past, end_escape, end_quote, end_more}
use mathlib.Core.Bool.{false}
use mathlib.Core.Path.{refl, sym, ◌∙◌}
use Rattle.text_string.proofs.close_of.Goals as goal

pub returns-then-b-q : goal.returns-then-b-q
returns-then-b-q c =
    let a = c.args in
    sym (end_quote a.q a.s.now c.loop-i.i c.loop-i-test.true refl c.if-b-q.true) ∙ c.loop-i.invariant

pub loop-i-preserved-then-escapes : goal.loop-i-preserved-then-escapes
loop-i-preserved-then-escapes c =
    let a = c.args in
    c.plain_end-i-then-escapes.ensures.1
    ∙ sym (end_escape a.q a.s.now c.loop-i.i c.loop-i-test.true
    c.if-b-q.false c.escapes.ensures c.if-escapes.true)
    ∙ c.loop-i.invariant

pub loop-i-preserved : goal.loop-i-preserved
loop-i-preserved c =
    let a = c.args in
    sym (end_more a.q a.s.now c.loop-i.i c.loop-i-test.true refl c.if-b-q.false
    (sym c.if-escapes.false ∙ c.escapes.ensures))
    ∙ c.loop-i.invariant

pub returns : goal.returns
returns c =
    let a = c.args in
    sym (end_past a.q a.s.now c.loop-i.i false c.loop-i-test.false) ∙ c.loop-i.invariant
