use Rattle.text_utf8.proofs.Utf8Laws.{low_block}
use mathlib.Core.Path.{refl, ◌∙◌}
use native.Mathlib.Omega.{arith}
use Rattle.text_utf8.proofs.low_blocks.Goals as goal

pub loop-i-init : goal.loop-i-init
loop-i-init c = (omega arith, refl)

pub loop-i-smaller : goal.loop-i-smaller
loop-i-smaller c = omega arith

pub loop-i-preserved : goal.loop-i-preserved
loop-i-preserved c =
    let a = c.args in
    (omega arith, low_block a.s.now c.loop-i.i a.size (omega arith) c.largest.ensures (omega arith) ∙ c.loop-i.invariant.1)
