use Rattle.text.proofs.Writing.{said, put, written, counted}
use Rattle.text_string.proofs.StrLaws.{bytes_past, bytes_skip, bytes_quote, bytes_escape, bytes_more}
use lib.ListN.{length-set}
use native.Mathlib.Omega.{arith}
use Rattle.text_string.proofs.copy_string.Goals as goal
use Rattle.text_string.proofs.copy_string.Goals.{then-esc, else-esc+else-b-q+then-escapes, else-esc+else-b-q+else-escapes}

pub returns-then-b-q : goal.returns-then-b-q
returns-then-b-q c =
    let a = c.args in
    let none = bytes_quote a.q a.s.now c.loop-i.i c.loop-i-test.true c.if-esc.false c.if-b-q.true in
    (counted none c.loop-i.invariant.1, written none c.loop-i.invariant.1)

pub loop-i-preserved : goal.loop-i-preserved
loop-i-preserved c =
    let a = c.args in
    let i = c.loop-i.i in
    let kept = c.loop-i.invariant.1 in
    elim c.if-esc.branch [
      | then-esc w ↦ rw (w.store-is, w.n-is, w.esc-is) (
        simp length-set (omega arith),
        put (bytes_skip a.q a.s.now i c.loop-i-test.true w.if-esc.true w.escaped.ensures) kept,
      )
      | else-esc+else-b-q+then-escapes w ↦ rw (w.store-is, w.n-is, w.esc-is) (
        omega arith,
        said (bytes_escape a.q a.s.now i c.loop-i-test.true w.if-esc.false w.if-b-q.false w.escapes.ensures w.if-escapes.true) kept,
      )
      | else-esc+else-b-q+else-escapes w ↦ rw (w.store-is, w.n-is, w.esc-is) (
        simp length-set (omega arith),
        put (bytes_more a.q a.s.now i c.loop-i-test.true w.if-esc.false w.if-b-q.false w.escapes.ensures w.if-escapes.false) kept,
      )
    ]

pub returns : goal.returns
returns c =
    let a = c.args in
    let none = bytes_past a.q a.s.now c.loop-i.i c.loop-i.esc c.loop-i-test.false in
    (counted none c.loop-i.invariant.1, written none c.loop-i.invariant.1)
