-- `text::Cursor::match_keyword`. No byte that ends a keyword belongs to an identifier, so bytes that begin with the word are the identifier
-- here.
-- Assumes nothing.
use Rattle.text.proofs.KeywordLaws.{match_other, match_room, match_told}
use mathlib.Core.Path.{refl, sym, ◌∙◌}
use native.Mathlib.Omega.{arith}
use Rattle.text.proofs.Cursor.match_keyword.Goals as goal

pub returns-then-not-begins : goal.returns-then-not-begins
returns-then-not-begins c =
    let a = c.args in
    sym (match_other a.s.now a.self.at a.word.now c.requires c.begins.ensures c.if-not-begins.true)

pub overflow_add-end : goal.overflow_add-end
overflow_add-end c =
    let a = c.args in
    omega (arith, match_room a.s.now a.self.at a.word.now c.requires c.begins.ensures c.if-not-begins.false)

pub returns : goal.returns
returns c =
    let a = c.args in
    c.then_some.ensures
    ∙ match_told a.s.now a.self.at a.word.now c.requires c.begins.ensures c.if-not-begins.false c.peek_char.ensures c.ends_keyword.ensures _ refl
