-- `library_items::take_entries`. Its loop is one of Ahead.
-- Assumes nothing.
use Rattle.library_items.proofs.Ahead.{Ahead}
use Rattle.library_items.specs.Table.{entry_read, entries_read}
use Rattle.library_items.proofs.take_entries.Given as goal

abbrev pub invariant-loop : goal.invariant-loop
invariant-loop l = Ahead (entry_read l.import_only l.s) l.s l.initial.tab l.fn.from.items (entries_read l.import_only l.s l.fn.from.at)
    l.tab l.reach l.count l.counter
