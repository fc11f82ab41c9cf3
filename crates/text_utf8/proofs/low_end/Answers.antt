use Rattle.text_utf8.proofs.Utf8Laws.{low_byte}
use mathlib.Core.Path.{◌∙◌}
use native.Mathlib.Omega.{arith}
use Rattle.text_utf8.proofs.low_end.Goals as goal

pub loop-i-preserved : goal.loop-i-preserved
loop-i-preserved c =
    let s = c.args.s.now in
    (omega arith, low_byte s c.loop-i.i (omega arith) (omega arith) ∙ c.loop-i.invariant.1)
