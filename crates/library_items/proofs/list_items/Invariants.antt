-- `library_items::list_items`. Each way out is one law of Listing; its loop is one of Ahead.
-- Assumes nothing.
use Rattle.library_items.proofs.Ahead.{Ahead}
use Rattle.library_items.specs.Table.{set_read, sets_read}
use Rattle.library_items.proofs.list_items.Given as goal

abbrev pub invariant-loop : goal.invariant-loop
invariant-loop l = Ahead (set_read l.s) l.s l.initial.tab 0 (sets_read l.s 0) l.tab l.reach l.count l.counter
