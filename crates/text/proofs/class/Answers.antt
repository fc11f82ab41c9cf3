-- `text::class`. The table's rule gives the class below 128, and nothing above has one.
-- Assumes nothing.
use Rattle.text.proofs.ClassLaws.{class_low, class_high}
use mathlib.Core.Path.{sym}
use Rattle.text.proofs.class.Goals as goal

pub returns-then-b-lt-LOW : goal.returns-then-b-lt-LOW
returns-then-b-lt-LOW c = class_low c.classes.invariant c.args.b c.if-b-lt-LOW.true

pub returns-else-b-lt-LOW : goal.returns-else-b-lt-LOW
returns-else-b-lt-LOW c = sym (class_high c.args.b c.if-b-lt-LOW.false)
