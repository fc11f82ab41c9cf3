-- `scan_newest::comes_newer`. There is none yet, or the order of the two values tells.
-- Assumes nothing.
use Rattle.scan_newest.proofs.ComesLaws.{comes_none, comes_less}
use Rattle.scan_newest.proofs.comes_newer.Goals as goal

pub returns-then-not-old : goal.returns-then-not-old
returns-then-not-old c = comes_none c.args.store.now c.args.old c.args.x c.if-not-old.true

pub returns-else-not-old : goal.returns-else-not-old
returns-else-not-old c =
    comes_less c.args.store.now c.args.old c.args.x c.if-not-old.false c.value_in.ensures c.value_in-else-not-old.ensures c.lt.ensures
