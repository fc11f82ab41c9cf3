-- `yangparser::scan_over`. Each way out is one law of EntryLaws.
-- Assumes nothing.
use Rattle.yangparser.proofs.EntryLaws.{over_fits, over_scanned, over_refused}
use borrow.Author.Rules.{rules}
use Rattle.yangparser.proofs.scan_over.Goals as goal

pub returns-in_err-check_lent : goal.returns-in_err-check_lent
returns-in_err-check_lent c =
    let a = c.args in
    over_refused a.whole a.s.now a.short a.store.now a.imports.now a.includes.now
    c.too_short-unfit.ensures c.check_lent.ensures c.in_err-check_lent.field-0.0 c.in_err-check_lent.was (search rules)

pub parse-requires : goal.parse-requires
parse-requires c =
    let a = c.args in
    over_fits a.whole a.s.now a.short a.store.now a.imports.now a.includes.now
    c.too_short-unfit.ensures c.check_lent.ensures c.in_ok-check_lent.was

pub returns : goal.returns
returns c = search (rules, over_scanned, c.in_ok-check_lent.was)
