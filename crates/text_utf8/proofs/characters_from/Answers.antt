use Rattle.text_utf8.proofs.Utf8Laws.{low_byte, len_none, len_some, wrong_stop, wrong_next, wrong_room, wrong_past}
use Rattle.text_utf8.specs.Utf8.{seq_len}
use mathlib.Core.Path.{refl, sym, ◌∙◌}
use native.Mathlib.Omega.{arith}
use Rattle.text_utf8.proofs.characters_from.Goals as goal

pub loop-i-init : goal.loop-i-init
loop-i-init c = refl

pub loop-i-smaller-then-s-i-lt128 : goal.loop-i-smaller-then-s-i-lt128
loop-i-smaller-then-s-i-lt128 c = omega (arith, c.low_end-i.ensures.0)

pub loop-i-preserved-then-s-i-lt128 : goal.loop-i-preserved-then-s-i-lt128
loop-i-preserved-then-s-i-lt128 c =
    let s = c.args.s.now in
    c.low_end-i.ensures.1 ∙ low_byte s c.loop-i.i (omega arith) (omega arith) ∙ c.loop-i.invariant

pub returns-in_default : goal.returns-in_default
returns-in_default c =
    let s = c.args.s.now in
    sym (wrong_stop s c.loop-i.i (len_none (seq_len s c.loop-i.i) (sym c.seq_len.ensures ∙ c.in_default.is))) ∙ c.loop-i.invariant

pub overflow_add-i-else-s-i-lt128 : goal.overflow_add-i-else-s-i-lt128
overflow_add-i-else-s-i-lt128 c =
    let s = c.args.s.now in
    let l = len_some (seq_len s c.loop-i.i) c.in-Some.n (sym c.seq_len.ensures ∙ c.in-Some.is) in
    omega (arith, wrong_room s c.loop-i.i l.0 l.1)

pub loop-i-smaller : goal.loop-i-smaller
loop-i-smaller c =
    let l = len_some (seq_len c.args.s.now c.loop-i.i) c.in-Some.n (sym c.seq_len.ensures ∙ c.in-Some.is) in
    omega (arith, l)

pub loop-i-preserved : goal.loop-i-preserved
loop-i-preserved c =
    let s = c.args.s.now in
    let l = len_some (seq_len s c.loop-i.i) c.in-Some.n (sym c.seq_len.ensures ∙ c.in-Some.is) in
    sym (wrong_next s c.loop-i.i l.0 l.1) ∙ c.loop-i.invariant

pub returns : goal.returns
returns c =
    sym (wrong_past c.args.s.now c.loop-i.i c.loop-i-test.false) ∙ c.loop-i.invariant
