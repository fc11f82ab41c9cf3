-- `scan_rows::put_include` copies five words at once.
-- Assumes nothing.
use Prim.Native.Nat.{◌*◌}
use Rattle.scan_rows.proofs.Laws.{row_put}
use Rattle.scan_rows.specs.Rows.{include_size, include_words}
use borrow.Author.Rules.{rules}
use native.Mathlib.Omega.{arith}
use Rattle.scan_rows.proofs.put_include.Goals as goal

pub returns : goal.returns
unfolding include_words
returns c = row_put c.args.table.now (include_words c.args.include) (c.args.row * include_size) (search rules) (omega arith) (omega arith)
