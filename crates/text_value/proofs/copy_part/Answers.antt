use Rattle.text.proofs.Writing.{begun, put, written, counted}
use Rattle.text_value.proofs.PartLaws.{part_none, part_cons}
use lib.ListN.{length-set}
use native.Mathlib.Omega.{arith}
use Rattle.text_value.proofs.copy_part.Goals as goal

pub loop-i-init : goal.loop-i-init
loop-i-init c = (omega arith, begun _ _ _)

pub bounds-s-i : goal.bounds-s-i
bounds-s-i c = omega arith

pub bounds-store-n : goal.bounds-store-n
bounds-store-n c = omega arith

pub overflow_add-n : goal.overflow_add-n
overflow_add-n c = omega arith

pub overflow_add-i : goal.overflow_add-i
overflow_add-i c = omega arith

pub loop-i-smaller : goal.loop-i-smaller
loop-i-smaller c = omega arith

pub loop-i-preserved : goal.loop-i-preserved
loop-i-preserved c =
    let a = c.args in
    (simp length-set (omega arith), put (part_cons a.s.now c.loop-i.i a.end c.loop-i-test.true (omega arith)) c.loop-i.invariant.1)

pub shape_of-store : goal.shape_of-store
shape_of-store c = c.loop-i.invariant.1.long

pub returns : goal.returns
returns c =
    let a = c.args in
    let none = part_none a.s.now c.loop-i.i a.end c.loop-i-test.false in
    (counted none c.loop-i.invariant.1, written none c.loop-i.invariant.1)
