-- `library_index::put`. What the four stores leave.
-- Assumes nothing.
use Rattle.library_index.proofs.Stores.{stored}
use lib.ListN.{length-set}
use native.Mathlib.Omega.{arith}
use Rattle.library_index.proofs.put.Goals as goal

pub bounds-tab-row-2 : goal.bounds-tab-row-2
bounds-tab-row-2 c = simp length-set (omega arith)

pub bounds-tab-row-3 : goal.bounds-tab-row-3
bounds-tab-row-3 c = simp length-set (omega arith)

pub bounds-tab-h-2 : goal.bounds-tab-h-2
bounds-tab-h-2 c = simp length-set (omega arith)

pub returns : goal.returns
returns c = search stored
