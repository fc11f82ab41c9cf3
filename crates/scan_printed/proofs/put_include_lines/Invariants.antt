-- `scan_printed::put_include_lines`. The loop keeps the lines that are left: each turn writes the first of them.
-- Assumes nothing.
use Rattle.scan_line.proofs.Going.{Going}
use Rattle.scan_printed.proofs.Lines.{lines_from}
use Rattle.scan_printed.specs.Printed.{include_line, include_lines}
use Rattle.scan_rows.specs.Rows.{include_size, include_at, includes_in}
use Rattle.scan_printed.proofs.put_include_lines.Given as goal

abbrev pub invariant-loop-row : goal.invariant-loop-row
invariant-loop-row l =
    Going l.initial.page l.at (include_lines l.store (includes_in l.table l.count)) l.page l.n (lines_from (include_at l.table) include_size (include_line l.store) l.count l.row)
