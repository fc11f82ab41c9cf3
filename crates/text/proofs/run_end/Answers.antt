use Rattle.text.proofs.Laws.{run_more, run_stop, run_past}
use Rattle.text.proofs.Here.{inside}
use mathlib.Core.Path.{sym, ◌∙◌}
use Rattle.text.proofs.run_end.Goals as goal

pub returns-then-not-in_run : goal.returns-then-not-in_run
returns-then-not-in_run c =
    let a = c.args in
    sym (run_stop a.k a.s.now c.loop-i.i c.loop-i-test.true (inside a.s.now c.loop-i.i 0 256 c.loop-i-test.true) c.in_run.ensures c.if-not-in_run.true)
    ∙ c.loop-i.invariant

pub loop-i-preserved : goal.loop-i-preserved
loop-i-preserved c =
    let a = c.args in
    sym (run_more a.k a.s.now c.loop-i.i c.loop-i-test.true (inside a.s.now c.loop-i.i 0 256 c.loop-i-test.true) c.in_run.ensures c.if-not-in_run.false)
    ∙ c.loop-i.invariant

pub returns : goal.returns
returns c =
    let a = c.args in
    sym (run_past a.k a.s.now c.loop-i.i c.loop-i-test.false) ∙ c.loop-i.invariant
