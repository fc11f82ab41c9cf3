-- `scan_printed::put_line_end` writes the revision where the mark says so, and the line break.
-- Assumes nothing.
use Rattle.scan_line.proofs.Going.{puts, fits, ended}
use Rattle.scan_printed.proofs.Laws.{end_there, end_none}
use Rattle.scan_printed.proofs.put_line_end.Goals as goal

pub put_value-n-requires : goal.put_value-n-requires
put_value-n-requires c =
    let a = c.args in
    fits c.requires (end_there a.store.now a.x a.page.now a.at c.if-x.true)

pub put-requires : goal.put-requires
put-requires c =
    let a = c.args in
    fits c.requires (puts (end_there a.store.now a.x a.page.now a.at c.if-x.true) c.put_value-n.ensures)

pub returns-then-x : goal.returns-then-x
returns-then-x c =
    let a = c.args in
    ended (puts (puts (end_there a.store.now a.x a.page.now a.at c.if-x.true) c.put_value-n.ensures)
    c.put.ensures)

pub put-requires-else-x : goal.put-requires-else-x
put-requires-else-x c =
    let a = c.args in
    fits c.requires (end_none a.store.now a.x a.page.now a.at c.if-x.false)

pub returns-else-x : goal.returns-else-x
returns-else-x c =
    let a = c.args in
    ended (puts (end_none a.store.now a.x a.page.now a.at c.if-x.false)
    c.put-else-x.ensures)
