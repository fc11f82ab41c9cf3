-- `text_value::read_part`. After the gap stands a `+` or not, after the next gap a quote or not, and the string closes or not: one law for each.
-- A string that never closes has left the store alone.
-- Assumes nothing.
use Prim.Native.Nat.{◌+◌}
use Rattle.text.proofs.Laws.{gap_from}
use Rattle.text_value.proofs.ValueLaws.{more_plain, more_bare, more_added, more_cut, more_stored}
use Rattle.text_value.specs.Value.{more_answer, more_bytes}
use lib.Seq.{sets}
use mathlib.Core.Path.{sym, ap, ◌∙◌}
use native.Mathlib.Omega.{arith}
use Rattle.text_value.proofs.read_part.Goals as goal

pub returns-then-peek_char-ne-PLUS : goal.returns-then-peek_char-ne-PLUS
unfolding more_answer more_bytes
returns-then-peek_char-ne-PLUS c =
    let a = c.args in
    let e = more_plain a.s.now a.here.at c.skip_whitespace_and_comments-plus.ensures c.peek_char.ensures c.if-peek_char-ne-PLUS.true in
    (sym (ap (more_answer a.used) e), sym (ap (λ t. sets a.store.now a.used (more_bytes t)) e))

pub returns-then-not-is_quote : goal.returns-then-not-is_quote
unfolding more_answer more_bytes
returns-then-not-is_quote c =
    let a = c.args in
    let e = more_bare a.s.now a.here.at c.skip_whitespace_and_comments-plus.ensures c.peek_char.ensures c.if-peek_char-ne-PLUS.false
    c.skip_whitespace_and_comments-quote.ensures c.peek_char-2.ensures c.is_quote.ensures c.if-not-is_quote.true in
    (sym (ap (more_answer a.used) e), sym (ap (λ t. sets a.store.now a.used (more_bytes t)) e))

pub read_quoted_string-requires : goal.read_quoted_string-requires
read_quoted_string-requires c =
    let a = c.args in
    omega (arith, gap_from a.s.now a.here.at, gap_from a.s.now (c.skip_whitespace_and_comments-plus.result.at + 1))

pub returns-in-Some : goal.returns-in-Some
returns-in-Some c =
    let a = c.args in
    let read = c.read_quoted_string.ensures in (
      sym (more_added a.s.now a.here.at c.skip_whitespace_and_comments-plus.ensures c.peek_char.ensures c.if-peek_char-ne-PLUS.false
          c.skip_whitespace_and_comments-quote.ensures c.peek_char-2.ensures c.is_quote.ensures c.if-not-is_quote.false a.used read.0
          c.in-Some.next c.in-Some.n c.in-Some.is),
      read.1 ∙ sym (ap (sets a.store.now a.used) (more_stored a.s.now a.here.at c.skip_whitespace_and_comments-plus.ensures
          c.peek_char.ensures c.if-peek_char-ne-PLUS.false c.skip_whitespace_and_comments-quote.ensures c.peek_char-2.ensures
          c.is_quote.ensures c.if-not-is_quote.false a.used read.0)),
    )

pub returns-in-None : goal.returns-in-None
returns-in-None c =
    let a = c.args in
    let read = c.read_quoted_string.ensures in (
      sym (more_cut a.s.now a.here.at c.skip_whitespace_and_comments-plus.ensures c.peek_char.ensures c.if-peek_char-ne-PLUS.false
          c.skip_whitespace_and_comments-quote.ensures c.peek_char-2.ensures c.is_quote.ensures c.if-not-is_quote.false a.used read.0
          c.in-None.is),
      read.1 ∙ sym (ap (sets a.store.now a.used) (more_stored a.s.now a.here.at c.skip_whitespace_and_comments-plus.ensures
          c.peek_char.ensures c.if-peek_char-ne-PLUS.false c.skip_whitespace_and_comments-quote.ensures c.peek_char-2.ensures
          c.is_quote.ensures c.if-not-is_quote.false a.used read.0)),
    )
