-- `library_items::take_set`. Modules, then import-only modules, by laws of Parts.
-- Assumes nothing.
use Rattle.library_items.proofs.Parts.{modules_read, imports_read, set_taken}
use borrow.Author.Rules.{rules}
use Rattle.library_items.proofs.take_set.Goals as goal

pub take_entries-modules-requires : goal.take_entries-modules-requires
take_entries-modules-requires c = (search rules, search modules_read)

pub take_entries-requires : goal.take_entries-requires
take_entries-requires c = (search rules, search imports_read)

pub returns : goal.returns
returns c = search set_taken
