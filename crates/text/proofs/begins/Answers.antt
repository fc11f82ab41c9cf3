use Rattle.text.proofs.KeywordLaws.{rest_is, begins_short, begins_more, begins_other, begins_done}
use Rattle.text.specs.Keyword.{begins}
use mathlib.Core.Path.{sym, ap, ◌∙◌}
use native.Mathlib.Omega.{arith}
use Rattle.text.proofs.begins.Goals as goal

pub returns-then-rest-word : goal.returns-then-rest-word
returns-then-rest-word c =
    let a = c.args in
    sym (begins_short a.word.now _ c.if-rest-word.true) ∙ ap (begins a.word.now) (rest_is a.s.now a.at c.min.ensures)

pub returns-then-rest-i : goal.returns-then-rest-i
returns-then-rest-i c =
    let a = c.args in
    sym (begins_other a.word.now _ c.loop-i.i c.loop-i-test.true (omega arith) c.if-rest-i.true) ∙ c.loop-i.invariant
    ∙ ap (begins a.word.now) (rest_is a.s.now a.at c.min.ensures)

pub loop-i-preserved : goal.loop-i-preserved
loop-i-preserved c =
    begins_more c.args.word.now _ c.loop-i.i c.loop-i-test.true (omega arith) c.if-rest-i.false ∙ c.loop-i.invariant

pub returns : goal.returns
returns c =
    let a = c.args in
    sym (begins_done a.word.now _ c.loop-i.i c.loop-i-test.false) ∙ c.loop-i.invariant ∙ ap (begins a.word.now) (rest_is a.s.now a.at c.min.ensures)
