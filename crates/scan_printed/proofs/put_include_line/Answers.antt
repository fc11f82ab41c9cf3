-- `scan_printed::put_include_line` writes the pieces of an include's line.
-- Assumes nothing.
use Rattle.scan_line.proofs.Going.{puts_two, fits_two, ended}
use Rattle.scan_printed.proofs.Laws.{include_begin}
use Rattle.scan_printed.proofs.put_include_line.Goals as goal

pub put_value-name-requires : goal.put_value-name-requires
put_value-name-requires c =
    let a = c.args in
    fits_two c.requires (include_begin a.page.now a.at a.store.now a.i)

pub put_line_end-requires : goal.put_line_end-requires
put_line_end-requires c =
    let a = c.args in
    fits_two c.requires (puts_two (include_begin a.page.now a.at a.store.now a.i) c.put_value-name.ensures)

pub returns : goal.returns
returns c =
    let a = c.args in
    ended (puts_two (puts_two (include_begin a.page.now a.at a.store.now a.i) c.put_value-name.ensures)
    c.put_line_end.ensures)
