-- `yangparser::scan_lent`. A good scan wrote into zeros what it read; a refused one is cleared again.
-- Assumes nothing.
use Rattle.yangparser.proofs.EntryLaws.{entry_kept, entry_cleared}
use Rattle.yangparser.proofs.scan_lent.Goals as goal

pub returns-else-is_err : goal.returns-else-is_err
returns-else-is_err c =
    let a = c.args in
    entry_kept a.whole a.s.now a.short a.store.now a.imports.now a.includes.now
    (c.fill.ensures.after (λ y e. e)) (c.fill-2.ensures.after (λ y e. e)) (c.fill-3.ensures.after (λ y e. e))
    c.fill.ensures.len c.fill-2.ensures.len c.fill-3.ensures.len
    c.scan_over-parsed.ensures c.is_err.ensures.value c.if-is_err.false

pub returns-then-is_err : goal.returns-then-is_err
returns-then-is_err c =
    let a = c.args in
    let kept = c.scan_over-parsed.auto in
    entry_cleared a.whole a.s.now a.short a.store.now a.imports.now a.includes.now
    (c.fill.ensures.after (λ y e. e)) (c.fill-2.ensures.after (λ y e. e)) (c.fill-3.ensures.after (λ y e. e))
    c.fill.ensures.len c.fill-2.ensures.len c.fill-3.ensures.len
    c.scan_over-parsed.ensures c.is_err.ensures.value c.if-is_err.true kept.store kept.imports kept.includes
    (c.fill-then-is_err.ensures.after (λ y e. e)) (c.fill-then-is_err-2.ensures.after (λ y e. e)) (c.fill-then-is_err-3.ensures.after (λ y e. e))
