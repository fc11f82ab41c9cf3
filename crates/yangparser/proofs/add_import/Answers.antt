-- `yangparser::add_import`. Full rows refuse before anything is read; else the row is that of the import read, or there is none.
-- Assumes nothing.
use Rattle.yangparser.proofs.AddLaws.{import_full, import_added, import_not, import_words_fit}
use borrow.Author.Rules.{rules}
use native.Mathlib.Omega.{arith}
use Rattle.yangparser.proofs.add_import.Goals as goal

pub returns-then-far-ge-MOST_ROWS : goal.returns-then-far-ge-MOST_ROWS
returns-then-far-ge-MOST_ROWS c = search import_full

pub returns-in_err-next : goal.returns-in_err-next
returns-in_err-next c =
    let a = c.args in
    let v = c.parse_import.ensures in
    import_not a.whole a.s.now a.far a.here.at a.store.now a.imports.now c.if-far-ge-MOST_ROWS.false v.0 v.1 c.in_err-next.field-0.0 c.in_err-next.was (search rules)

pub put_import-requires : goal.put_import-requires
put_import-requires c = (omega arith, search rules, search (import_words_fit, c.in_ok-next.was))

pub returns : goal.returns
returns c = search (rules, import_added, c.in_ok-next.was)
