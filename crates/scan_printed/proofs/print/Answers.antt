-- `scan_printed::print` writes the five pieces of the printed form.
-- Assumes nothing.
use Rattle.scan_line.proofs.Going.{puts, fits, ended, from_start, from_first}
use Rattle.scan_printed.proofs.Laws.{printed_begin}
use Rattle.scan_printed.proofs.print.Goals as goal

pub put_heading-first-requires : goal.put_heading-first-requires
put_heading-first-requires c =
    let a = c.args in
    fits (from_start c.requires.4) (printed_begin a.page.now 0 a.store.now a.imports.now a.includes.now a.m a.n)

pub put_import_lines-blank-requires : goal.put_import_lines-blank-requires
put_import_lines-blank-requires c =
    let a = c.args in
    let begun = printed_begin a.page.now 0 a.store.now a.imports.now a.includes.now a.m a.n in
    let one = puts begun c.put_heading-first.ensures in
    (c.requires.0, c.requires.1, fits (from_start c.requires.4) one)

pub put-second-requires : goal.put-second-requires
put-second-requires c =
    let a = c.args in
    let begun = printed_begin a.page.now 0 a.store.now a.imports.now a.includes.now a.m a.n in
    let one = puts begun c.put_heading-first.ensures in
    let two = puts one c.put_import_lines-blank.ensures in
    fits (from_start c.requires.4) two

pub put_heading-rest-requires : goal.put_heading-rest-requires
put_heading-rest-requires c =
    let a = c.args in
    let begun = printed_begin a.page.now 0 a.store.now a.imports.now a.includes.now a.m a.n in
    let one = puts begun c.put_heading-first.ensures in
    let two = puts one c.put_import_lines-blank.ensures in
    let three = puts two c.put-second.ensures in
    fits (from_start c.requires.4) three

pub put_include_lines-requires : goal.put_include_lines-requires
put_include_lines-requires c =
    let a = c.args in
    let begun = printed_begin a.page.now 0 a.store.now a.imports.now a.includes.now a.m a.n in
    let one = puts begun c.put_heading-first.ensures in
    let two = puts one c.put_import_lines-blank.ensures in
    let three = puts two c.put-second.ensures in
    let four = puts three c.put_heading-rest.ensures in
    (c.requires.2, c.requires.3, fits (from_start c.requires.4) four)

pub returns : goal.returns
returns c =
    let a = c.args in
    let begun = printed_begin a.page.now 0 a.store.now a.imports.now a.includes.now a.m a.n in
    let one = puts begun c.put_heading-first.ensures in
    let two = puts one c.put_import_lines-blank.ensures in
    let three = puts two c.put-second.ensures in
    let four = puts three c.put_heading-rest.ensures in
    let five = puts four c.put_include_lines.ensures in
    from_first (ended five)
