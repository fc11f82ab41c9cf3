-- `scan_printed::put_import_line` writes the pieces of an import's line, two at a time where a label goes before a value.
-- Assumes nothing.
use Rattle.scan_line.proofs.Going.{puts, puts_two, fits, fits_two, ended}
use Rattle.scan_printed.proofs.Laws.{import_begin}
use Rattle.scan_printed.proofs.put_import_line.Goals as goal

pub put_value-name-requires : goal.put_value-name-requires
put_value-name-requires c =
    let a = c.args in
    fits_two c.requires (import_begin a.page.now a.at a.store.now a.i)

pub put_value-prefix-requires : goal.put_value-prefix-requires
put_value-prefix-requires c =
    let a = c.args in
    let begun = import_begin a.page.now a.at a.store.now a.i in
    let one = puts_two begun c.put_value-name.ensures in
    fits_two c.requires one

pub put-close-requires : goal.put-close-requires
put-close-requires c =
    let a = c.args in
    let begun = import_begin a.page.now a.at a.store.now a.i in
    let one = puts_two begun c.put_value-name.ensures in
    let two = puts_two one c.put_value-prefix.ensures in
    fits c.requires two

pub put_line_end-requires : goal.put_line_end-requires
put_line_end-requires c =
    let a = c.args in
    let begun = import_begin a.page.now a.at a.store.now a.i in
    let one = puts_two begun c.put_value-name.ensures in
    let two = puts_two one c.put_value-prefix.ensures in
    let three = puts two c.put-close.ensures in
    fits_two c.requires three

pub returns : goal.returns
returns c =
    let a = c.args in
    let begun = import_begin a.page.now a.at a.store.now a.i in
    let one = puts_two begun c.put_value-name.ensures in
    let two = puts_two one c.put_value-prefix.ensures in
    let three = puts two c.put-close.ensures in
    let four = puts_two three c.put_line_end.ensures in
    ended four
