-- `scan_page::print_yang_dependencies`. What the scan left is read back for the page; on a refusal the page stays cleared.
-- Assumes nothing.
use Rattle.scan_page.proofs.PageLaws.{page_refused, print_room, page_printed}
use Rattle.scan_page.proofs.print_yang_dependencies.Goals as goal

pub print-length-requires : goal.print-length-requires
print-length-requires c =
    let a = c.args in
    let x = c.in-Ok.rows in
    print_room a.whole a.s.now a.store.now a.imports.now a.includes.now a.page.now
    (c.fill.ensures.after (λ y e. e)) c.fill.ensures.len c.page_short-short.ensures c.scan_lent-parsed.ensures
    x.imports x.includes x.used c.in-Ok.is
    c.scan_lent-parsed.auto.store c.scan_lent-parsed.auto.imports c.scan_lent-parsed.auto.includes

pub returns-in-Ok : goal.returns-in-Ok
returns-in-Ok c =
    let a = c.args in
    let x = c.in-Ok.rows in
    page_printed a.whole a.s.now a.store.now a.imports.now a.includes.now a.page.now
    (c.fill.ensures.after (λ y e. e)) c.fill.ensures.len c.page_short-short.ensures c.scan_lent-parsed.ensures
    x.imports x.includes x.used c.in-Ok.is
    c.print-length.ensures.0 c.print-length.ensures.1

pub returns-in-Err : goal.returns-in-Err
returns-in-Err c =
    let a = c.args in
    page_refused a.whole a.s.now a.store.now a.imports.now a.includes.now a.page.now
    (c.fill.ensures.after (λ y e. e)) c.fill.ensures.len c.page_short-short.ensures c.scan_lent-parsed.ensures c.in-Err.field-0 c.in-Err.is
