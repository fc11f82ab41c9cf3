-- `scan_rows::put_import` copies seven words at once.
-- Assumes nothing.
use Prim.Native.Nat.{◌*◌}
use Rattle.scan_rows.proofs.Laws.{row_put}
use Rattle.scan_rows.specs.Rows.{import_size, import_words}
use borrow.Author.Rules.{rules}
use native.Mathlib.Omega.{arith}
use Rattle.scan_rows.proofs.put_import.Goals as goal

pub returns : goal.returns
unfolding import_words
returns c = row_put c.args.table.now (import_words c.args.import) (c.args.row * import_size) (search rules) (omega arith) (omega arith)
