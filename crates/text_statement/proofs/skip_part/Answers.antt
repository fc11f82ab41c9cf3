-- `text_statement::skip_part`. Each arm of the `match` is a law; the depth has room to grow since each brace that opened took a byte.
-- Assumes nothing.
use Rattle.text_statement.proofs.StatementLaws.{part_past, part_quote, part_semicolon, part_open, part_close, part_other}
use mathlib.Core.Path.{sym, ◌∙◌}
use Rattle.text_statement.proofs.skip_part.Goals as goal

pub returns-then-s-at : goal.returns-then-s-at
returns-then-s-at c = let a = c.args in sym (part_past a.s.now a.here.at a.depth c.if-s-at.true)

pub returns-in-34 : goal.returns-in-34
returns-in-34 c =
    let a = c.args in
    sym (part_quote a.s.now a.here.at a.depth c.if-s-at.false c.in-34.is c.quoted_end-end.ensures)

pub returns-in-59 : goal.returns-in-59
returns-in-59 c =
    let a = c.args in
    c.at_semicolon.ensures ∙ sym (part_semicolon a.s.now a.here.at a.depth c.if-s-at.false c.in-59.is)

pub returns-in-123 : goal.returns-in-123
returns-in-123 c =
    let a = c.args in
    sym (part_open a.s.now a.here.at a.depth c.if-s-at.false c.in-123.is)

pub returns-in-125 : goal.returns-in-125
returns-in-125 c =
    let a = c.args in
    c.at_close.ensures ∙ sym (part_close a.s.now a.here.at a.depth c.if-s-at.false c.in-125.is)

pub returns-in_default : goal.returns-in_default
returns-in_default c =
    let a = c.args in
    c.at_other.ensures
    ∙ sym (part_other a.s.now a.here.at a.depth c.if-s-at.false c.in_default.in_default-own.rest.0.0.0.1 c.in_default.in_default-own.rest.0.0.1
    c.in_default.in_default-own.rest.0.1 c.in_default.in_default-own.rest.1 c.peek_char.ensures)
