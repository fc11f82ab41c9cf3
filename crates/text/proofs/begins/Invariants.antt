-- `text::begins`. The loop keeps whether the rest of the text begins with the rest of the word: a byte that agrees keeps that, one that
-- differs decides it.
-- Assumes nothing.
use Rattle.text.specs.Keyword.{begins}
use lib.ListN.{drop}
use mathlib.Core.Path.{◌≡◌}
use Rattle.text.proofs.begins.Given as goal

abbrev pub invariant-loop-i : goal.invariant-loop-i
invariant-loop-i l = begins (drop l.i l.word) (drop l.i l.rest) ≡ begins l.word l.rest
