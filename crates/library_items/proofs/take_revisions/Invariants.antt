-- `library_items::take_revisions`. Its loop is one of Ahead.
-- Assumes nothing.
use Rattle.library_items.proofs.Ahead.{Ahead}
use Rattle.library_items.specs.Items.{later_sub_kind}
use Rattle.library_items.specs.Table.{each, list_read}
use Prim.Native.Nat.{◌-◌}
use Rattle.library_items.proofs.take_revisions.Given as goal

abbrev pub invariant-loop : goal.invariant-loop
invariant-loop l = Ahead (list_read later_sub_kind l.s) l.s l.initial.tab l.initial.reach.items
    (each (list_read later_sub_kind l.s) (l.count - 1) l.initial.reach.at) l.tab l.reach l.count l.counter
