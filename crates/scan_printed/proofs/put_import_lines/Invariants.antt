-- `scan_printed::put_import_lines`. The loop keeps the lines that are left: each turn writes the first of them.
-- Assumes nothing.
use Rattle.scan_line.proofs.Going.{Going}
use Rattle.scan_printed.proofs.Lines.{lines_from}
use Rattle.scan_printed.specs.Printed.{import_line, import_lines}
use Rattle.scan_rows.specs.Rows.{import_size, import_at, imports_in}
use Rattle.scan_printed.proofs.put_import_lines.Given as goal

abbrev pub invariant-loop-row : goal.invariant-loop-row
invariant-loop-row l =
    Going l.initial.page l.at (import_lines l.store (imports_in l.table l.count)) l.page l.n (lines_from (import_at l.table) import_size (import_line l.store) l.count l.row)
