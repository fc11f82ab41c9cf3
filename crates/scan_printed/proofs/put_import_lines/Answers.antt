use Rattle.scan_line.proofs.Going.{puts, fits}
use Rattle.scan_printed.proofs.Laws.{imports_begin}
use Rattle.scan_printed.proofs.Lines.{lines_more, lines_done}
use Rattle.scan_printed.specs.Printed.{import_line}
use Rattle.scan_rows.specs.Rows.{import_size, import_at}
use Rattle.scan_printed.proofs.put_import_lines.Goals as goal

pub loop-row-init : goal.loop-row-init
loop-row-init c = let a = c.args in imports_begin a.page.now a.at a.store.now a.table.now a.count

pub put_import_line-n-requires : goal.put_import_line-n-requires
put_import_line-n-requires c =
    let a = c.args in
    fits c.requires.2 (lines_more (import_at a.table.now) import_size (import_line a.store.now) a.count c.loop-row.row c.loop-row.invariant
    c.loop-row-test.true c.get_import.ensures)

pub loop-row-preserved : goal.loop-row-preserved
loop-row-preserved c =
    let a = c.args in
    puts (lines_more (import_at a.table.now) import_size (import_line a.store.now) a.count c.loop-row.row c.loop-row.invariant
    c.loop-row-test.true c.get_import.ensures)
    c.put_import_line-n.ensures

pub returns : goal.returns
returns c =
    let a = c.args in
    lines_done (import_at a.table.now) import_size (import_line a.store.now) a.count c.loop-row.row c.loop-row.invariant c.loop-row-test.false
