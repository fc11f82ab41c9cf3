-- `library_items::take_list`. Its loop is one of Ahead.
-- Assumes nothing.
use Rattle.library_items.proofs.Ahead.{Ahead}
use Rattle.library_items.specs.Table.{name_read, list_read}
use Rattle.library_items.proofs.take_list.Given as goal

abbrev pub invariant-loop : goal.invariant-loop
invariant-loop l = Ahead (name_read l.kind l.s) l.s l.initial.tab l.fn.from.items (list_read l.kind l.s l.fn.from.at) l.tab l.reach l.names l.counter
