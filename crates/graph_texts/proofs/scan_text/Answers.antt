-- `graph_texts::scan_text`. Each way out is one law of Scans.
-- Assumes nothing.
use Rattle.std.proofs.lemmas.Result.{err_from_is_err_and}
use Rattle.graph_texts.proofs.Scans.{scan_read, scan_refused_lem}
use Rattle.graph_texts.proofs.scan_text.Goals as goal

pub returns-in_err-rows : goal.returns-in_err-rows
returns-in_err-rows c =
    let p = err_from_is_err_and c.from_residual.result c.from_residual.ensures.1 in
    rw (p.1, p.2) (search (scan_refused_lem, c.in_err-rows.was))

pub returns : goal.returns
returns c = search (scan_read, c.in_ok-rows.was)
