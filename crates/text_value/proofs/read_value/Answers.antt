-- `text_value::read_value`. What the value's answer says of the value, and whether it closes, is all that the answer here needs; the store is
-- as the value left it.
-- Assumes nothing.
use Rattle.text_value.proofs.ArgumentLaws.{argument_cut, argument_missing, argument_read, off_old, off_closed}
use Rattle.text_value.specs.Argument.{breaks_off}
use mathlib.Core.Bool.{false}
use mathlib.Core.Path.{◌≡◌, sym}
use Rattle.text_value.proofs.read_value.Goals as goal
use Rattle.text_value.proofs.read_value.Goals.{else-whole-via-then-whole+else-not-got, else-whole-via-else-whole}

pub returns-then-not-got : goal.returns-then-not-got
returns-then-not-got c =
    let a = c.args in
    let got = c.read_string_or_identifier-got in
    (sym (argument_cut a.whole a.s.now a.here.at a.used a.keyword got.ensures.0 c.if-whole.true c.if-not-got.true c.cut_short.ensures), got.ensures.1)

pub returns-in_default : goal.returns-in_default
returns-in_default c =
    let a = c.args in
    let got = c.read_string_or_identifier-got in
    let on : breaks_off a.whole got.result.closed ≡ false = elim c.else-whole.branch [
      | else-whole-via-then-whole+else-not-got w ↦ off_closed a.whole got.result.closed w.if-not-got.false
      | else-whole-via-else-whole w ↦ off_old got.result.closed w.if-whole.false
    ] in (
      sym (argument_missing a.whole a.s.now a.here.at a.used a.keyword got.ensures.0 on c.in_default.is c.peek_char.ensures c.refused_at.ensures),
      got.ensures.1,
    )

pub returns : goal.returns
returns c =
    let a = c.args in
    let got = c.read_string_or_identifier-got in
    let on : breaks_off a.whole got.result.closed ≡ false = elim c.else-whole.branch [
      | else-whole-via-then-whole+else-not-got w ↦ off_closed a.whole got.result.closed w.if-not-got.false
      | else-whole-via-else-whole w ↦ off_old got.result.closed w.if-whole.false
    ] in
    (sym (argument_read a.whole a.s.now a.here.at a.used a.keyword got.ensures.0 on c.in-Some.n c.in-Some.is), got.ensures.1)
