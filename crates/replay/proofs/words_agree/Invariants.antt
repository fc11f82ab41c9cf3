-- `replay::words_agree`. From the place where the loop stands the words agree as they do from the start; each way out is one law.
-- Assumes nothing.
use Rattle.replay.specs.Records.{words_from, words_told_as}
use Rattle.std.proofs.Common.{◌≡◌, ◌-◌, length}
use Rattle.replay.proofs.words_agree.Given as goal

abbrev pub invariant-loop-i : goal.invariant-loop-i
invariant-loop-i l = words_from l.f l.table l.step (record { at = l.at; row = l.i }) ≡ words_told_as l.f l.first l.table l.step

abbrev pub decreases-loop-i : goal.decreases-loop-i
decreases-loop-i l = length l.table - l.i
