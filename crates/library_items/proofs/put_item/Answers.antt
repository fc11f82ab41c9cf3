-- `library_items::put_item`. What the two stores leave.
-- Assumes nothing.
use Rattle.library_items.proofs.Storing.{laid}
use lib.ListN.{length-set}
use native.Mathlib.Omega.{arith}
use Rattle.library_items.proofs.put_item.Goals as goal

pub bounds-tab-n-2 : goal.bounds-tab-n-2
bounds-tab-n-2 c = simp length-set (omega arith)

pub returns : goal.returns
returns c = rw c.number.ensures (search laid)
