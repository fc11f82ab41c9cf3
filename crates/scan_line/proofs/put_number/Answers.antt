-- `scan_line::put_number` writes the label, then the number.
-- Assumes nothing.
use Rattle.scan_line.proofs.Going.{begin_two, puts, fits, ended}
use Rattle.scan_line.specs.Line.{decimal}
use Rattle.scan_line.proofs.put_number.Goals as goal

pub put-digits-requires : goal.put-digits-requires
put-digits-requires c =
    let a = c.args in
    fits c.requires (begin_two a.page.now a.at a.label.now (decimal a.n))

pub put_decimal-requires : goal.put_decimal-requires
put_decimal-requires c =
    let a = c.args in
    fits c.requires (puts (begin_two a.page.now a.at a.label.now (decimal a.n)) c.put-digits.ensures)

pub returns : goal.returns
returns c =
    let a = c.args in
    ended (puts (puts (begin_two a.page.now a.at a.label.now (decimal a.n)) c.put-digits.ensures) c.put_decimal.ensures)
