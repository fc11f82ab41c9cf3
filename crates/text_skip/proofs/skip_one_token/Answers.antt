-- `text_skip::skip_one_token`. An identifier's first byte, a quote or any other stands here: one law for each, two for a string and two for
-- any other byte.
-- Assumes nothing.
use Rattle.text_skip.proofs.SkipLaws.{token_past, token_closed, token_cut, token_name, token_high, token_byte}
use mathlib.Core.Path.{sym}
use Rattle.text_skip.proofs.skip_one_token.Goals as goal

pub returns-then-s-at : goal.returns-then-s-at
returns-then-s-at c = let a = c.args in sym (token_past a.s.now a.here.at c.if-s-at.true)

pub returns-then-starts_ident : goal.returns-then-starts_ident
returns-then-starts_ident c =
    let a = c.args in
    sym (token_name a.s.now a.here.at c.if-s-at.false c.peek_char-b.ensures c.starts_ident.ensures c.if-starts_ident.true
    c.run_end-end.ensures)

pub returns-then-is_high : goal.returns-then-is_high
returns-then-is_high c =
    let a = c.args in
    sym (token_high a.s.now a.here.at c.if-s-at.false c.peek_char-b.ensures c.starts_ident.ensures c.if-starts_ident.false
    c.is_high.ensures c.if-is_high.true c.high_byte.ensures)

pub returns-in-None : goal.returns-in-None
returns-in-None c =
    let a = c.args in
    sym (token_cut a.s.now a.here.at c.if-s-at.false c.peek_char-b.ensures c.is_quote.ensures c.if-not-is_quote.false
    c.close_of.ensures c.in-None.is)

pub returns-in-Some : goal.returns-in-Some
returns-in-Some c =
    let a = c.args in
    sym (token_closed a.s.now a.here.at c.if-s-at.false c.peek_char-b.ensures c.is_quote.ensures c.if-not-is_quote.false
    c.close_of.ensures c.in-Some.end c.in-Some.is)

pub returns-then-not-is_quote : goal.returns-then-not-is_quote
returns-then-not-is_quote c =
    let a = c.args in
    sym (token_byte a.s.now a.here.at c.if-s-at.false c.peek_char-b.ensures c.starts_ident.ensures c.if-starts_ident.false
    c.is_high.ensures c.if-is_high.false c.is_quote.ensures c.if-not-is_quote.true)
