use Rattle.text_string.proofs.StrLaws.{end_plain}
use mathlib.Core.Path.{sym, ◌∙◌}
use native.Mathlib.Omega.{arith}
use Rattle.text_string.proofs.plain_end.Goals as goal

pub loop-i-preserved : goal.loop-i-preserved
loop-i-preserved c =
    let a = c.args in
    let i = c.loop-i.i in (
      omega arith,
      sym (end_plain a.q a.s.now 8 i (omega arith) (sym c.among.ensures ∙ c.if-among.false)
          (sym c.among-else-among.ensures ∙ c.if-among-2.false))
          ∙ c.loop-i.invariant.1,
    )
