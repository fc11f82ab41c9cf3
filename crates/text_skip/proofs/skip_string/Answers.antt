-- `text_skip::skip_string`. After the gap stands a `+` or not, after the next gap a quote or not, and the string closes or not: one law for each.
-- Assumes nothing.
use Rattle.text_skip.proofs.PassLaws.{tail_plain, tail_bare, tail_refused, tail_past, tail_cut}
use borrow.Author.Rules.{rules}
use mathlib.Core.Path.{sym}
use Rattle.text_skip.proofs.skip_string.Goals as goal

pub returns-then-peek_char-ne-PLUS : goal.returns-then-peek_char-ne-PLUS
returns-then-peek_char-ne-PLUS c =
    let a = c.args in
    sym (tail_plain a.s.now a.here.at c.skip_whitespace_and_comments-plus.ensures c.peek_char.ensures c.if-peek_char-ne-PLUS.true)

pub returns-then-not-is_quote : goal.returns-then-not-is_quote
returns-then-not-is_quote c =
    let a = c.args in
    sym (tail_bare a.s.now a.here.at c.skip_whitespace_and_comments-plus.ensures c.peek_char.ensures c.if-peek_char-ne-PLUS.false
    c.skip_whitespace_and_comments-quote.ensures c.peek_char-2.ensures c.is_quote.ensures c.if-not-is_quote.true)

pub returns-in_err-next : goal.returns-in_err-next
returns-in_err-next c = search (rules, tail_refused, c.in_err-next.was)

pub returns-then-broke_off : goal.returns-then-broke_off
returns-then-broke_off c = sym (search (tail_cut, c.in_ok-next.was))

pub returns : goal.returns
returns c = sym (search (tail_past, c.in_ok-next.was))
