use Rattle.scan_line.proofs.Going.{puts, fits}
use Rattle.scan_printed.proofs.Laws.{includes_begin}
use Rattle.scan_printed.proofs.Lines.{lines_more, lines_done}
use Rattle.scan_printed.specs.Printed.{include_line}
use Rattle.scan_rows.specs.Rows.{include_size, include_at}
use Rattle.scan_printed.proofs.put_include_lines.Goals as goal

pub loop-row-init : goal.loop-row-init
loop-row-init c = let a = c.args in includes_begin a.page.now a.at a.store.now a.table.now a.count

pub put_include_line-n-requires : goal.put_include_line-n-requires
put_include_line-n-requires c =
    let a = c.args in
    fits c.requires.2 (lines_more (include_at a.table.now) include_size (include_line a.store.now) a.count c.loop-row.row c.loop-row.invariant
    c.loop-row-test.true c.get_include.ensures)

pub loop-row-preserved : goal.loop-row-preserved
loop-row-preserved c =
    let a = c.args in
    puts (lines_more (include_at a.table.now) include_size (include_line a.store.now) a.count c.loop-row.row c.loop-row.invariant
    c.loop-row-test.true c.get_include.ensures)
    c.put_include_line-n.ensures

pub returns : goal.returns
returns c =
    let a = c.args in
    lines_done (include_at a.table.now) include_size (include_line a.store.now) a.count c.loop-row.row c.loop-row.invariant c.loop-row-test.false
