-- `scan_header::read_field`. A value that was read stands behind what was stored before it.
-- Assumes nothing.
use Rattle.text_value.proofs.ArgumentLaws.{argument_far}
use mathlib.Core.Path.{sym, ◌∙◌}
use native.Mathlib.Omega.{arith}
use Rattle.scan_header.proofs.read_field.Goals as goal

pub overflow_sub-n : goal.overflow_sub-n
overflow_sub-n c =
    let a = c.args in
    let f = argument_far a.whole a.s.now a.here.at a.used a.keyword c.in_ok-next.next c.in_ok-next.n (sym c.read_value.ensures.0 ∙ c.in_ok-next.was) in
    omega (arith, f)
