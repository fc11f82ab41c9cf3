-- `replay::after_fields`. The place behind the fields that are left is the one behind all.
-- Assumes nothing.
use Rattle.replay.specs.Records.{behind_all}
use Rattle.std.proofs.Common.{◌≡◌, ◌-◌}
use Rattle.replay.proofs.after_fields.Given as goal

abbrev pub invariant-loop : goal.invariant-loop
invariant-loop l = behind_all (l.count - l.counter) l.d l.next ≡ behind_all l.count l.d l.at
