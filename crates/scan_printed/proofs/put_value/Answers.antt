-- `scan_printed::put_value` writes the label, then the value.
-- Assumes nothing.
use Rattle.scan_line.proofs.Going.{begin_two, puts, fits, ended}
use Rattle.scan_printed.proofs.Laws.{value_begin}
use Rattle.scan_rows.specs.Span.{value_in}
use Rattle.scan_printed.proofs.put_value.Goals as goal

pub put-n-requires : goal.put-n-requires
put-n-requires c =
    let a = c.args in
    fits c.requires (begin_two a.page.now a.at a.label.now (value_in a.store.now a.x))

pub put-requires : goal.put-requires
put-requires c =
    let a = c.args in
    fits c.requires (puts (value_begin a.page.now a.at a.label.now c.value_in.ensures) c.put-n.ensures)

pub returns : goal.returns
returns c =
    let a = c.args in
    ended (puts (puts (value_begin a.page.now a.at a.label.now c.value_in.ensures) c.put-n.ensures) c.put.ensures)
