use Rattle.text.proofs.Here.{rest_or}
use Rattle.text.proofs.Writing.{begun, put, written, counted}
use mathlib.Core.Path.{◌≡◌}
use mathlib.Core.List.{List, []}
use Prim.Native.Nat.{ℕ, ◌≤◌}
use lib.ListN.{length, drop, length-set, drop_of_length-le}
use native.Mathlib.Omega.{arith}
use Rattle.scan_line.proofs.put.Goals as goal

bytes_past : (s : List ℕ) (i : ℕ) → length s ≤ i → drop i s ≡ []
bytes_past s i h = drop_of_length-le s h

pub loop-i-init : goal.loop-i-init
loop-i-init c = (omega arith, begun _ _ _)

pub bounds-bytes-i : goal.bounds-bytes-i
bounds-bytes-i c = omega arith

pub bounds-page-n : goal.bounds-page-n
bounds-page-n c = omega arith

pub overflow_add-n : goal.overflow_add-n
overflow_add-n c = omega arith

pub overflow_add-i : goal.overflow_add-i
overflow_add-i c = omega arith

pub loop-i-smaller : goal.loop-i-smaller
loop-i-smaller c = omega arith

pub loop-i-preserved : goal.loop-i-preserved
loop-i-preserved c =
    let a = c.args in
    (simp length-set (omega arith), put (rest_or a.bytes.now c.loop-i.i 0 c.loop-i-test.true) c.loop-i.invariant.1)

pub shape_of-page : goal.shape_of-page
shape_of-page c = c.loop-i.invariant.1.long

pub returns : goal.returns
returns c =
    let none = bytes_past c.args.bytes.now c.loop-i.i c.loop-i-test.false in
    record { left = written none c.loop-i.invariant.1; next = counted none c.loop-i.invariant.1 }
