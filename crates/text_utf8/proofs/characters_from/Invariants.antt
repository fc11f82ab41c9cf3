-- `text_utf8::characters_from`. The loop keeps where the first wrong sequence starts: bytes below 128 and a character leave that as it was; where
-- there is no character it starts here.
-- Assumes nothing.
use Prim.Native.Nat.{◌-◌}
use Rattle.text_utf8.specs.Utf8.{wrong_from}
use lib.ListN.{length}
use mathlib.Core.Path.{◌≡◌}
use Rattle.text_utf8.proofs.characters_from.Given as goal

abbrev pub invariant-loop-i : goal.invariant-loop-i
invariant-loop-i l = wrong_from l.s l.i ≡ wrong_from l.s l.from

abbrev pub decreases-loop-i : goal.decreases-loop-i
decreases-loop-i l = length l.s - l.i
