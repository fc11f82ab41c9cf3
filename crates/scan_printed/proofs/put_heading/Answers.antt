-- `scan_printed::put_heading` writes the word with the count, and the end, the pieces of a heading.
-- Assumes nothing.
use Rattle.scan_line.proofs.Going.{puts, puts_two, fits, fits_two, ended}
use Rattle.scan_printed.proofs.Laws.{heading_begin}
use Rattle.scan_printed.proofs.put_heading.Goals as goal

pub put_number-close-requires : goal.put_number-close-requires
put_number-close-requires c =
    let a = c.args in
    fits_two c.requires (heading_begin a.page.now a.at a.word.now a.n)

pub put-requires : goal.put-requires
put-requires c =
    let a = c.args in
    fits c.requires (puts_two (heading_begin a.page.now a.at a.word.now a.n) c.put_number-close.ensures)

pub returns : goal.returns
returns c =
    let a = c.args in
    ended (puts (puts_two (heading_begin a.page.now a.at a.word.now a.n) c.put_number-close.ensures) c.put.ensures)
