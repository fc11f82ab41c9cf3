-- `text_skip::skip_value`. A string that closes or not, a name, or none stands after the gap: one law for each, over what reading the value
-- says.
-- Assumes nothing.
use Rattle.text_skip.proofs.PassLaws.{passed_refused, passed_string, passed_cut, passed_name, passed_none}
use borrow.Author.Rules.{rules}
use mathlib.Core.Path.{sym}
use Rattle.text_skip.proofs.skip_value.Goals as goal

pub returns-in_err-next : goal.returns-in_err-next
returns-in_err-next c = search (rules, passed_refused, c.in_err-next.was)

pub returns-then-broke_off : goal.returns-then-broke_off
returns-then-broke_off c = sym (search (passed_cut, c.in_ok-next.was))

pub returns-then-is_quote : goal.returns-then-is_quote
returns-then-is_quote c = sym (search (passed_string, c.in_ok-next.was))

pub returns-then-starts_name : goal.returns-then-starts_name
returns-then-starts_name c = sym (search passed_name)

pub returns : goal.returns
returns c =
    let a = c.args in
    sym (passed_none a.s.now a.here.at c.skip_whitespace_and_comments-first.ensures c.peek_char-b.ensures c.is_quote.ensures
    c.if-is_quote.false c.starts_name.ensures c.if-starts_name.false)
