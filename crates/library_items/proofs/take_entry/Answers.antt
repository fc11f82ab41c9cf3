-- `library_items::take_entry`. A name and what stands behind it, by laws of Parts.
-- Assumes nothing.
use Rattle.library_items.proofs.Parts.{import_name_read, revisions_read_lem, import_taken, module_name_read, lists_read_lem, module_taken}
use borrow.Author.Rules.{rules}
use Rattle.library_items.proofs.take_entry.Goals as goal

pub take_item-name-requires : goal.take_item-name-requires
take_item-name-requires c = (search rules, search import_name_read)

pub take_revisions-requires : goal.take_revisions-requires
take_revisions-requires c = (search rules, search revisions_read_lem)

pub returns-then-import_only : goal.returns-then-import_only
returns-then-import_only c = search import_taken

pub take_item-name-requires-else-import_only : goal.take_item-name-requires-else-import_only
take_item-name-requires-else-import_only c = (search rules, search module_name_read)

pub take_lists-requires : goal.take_lists-requires
take_lists-requires c = (search rules, search lists_read_lem)

pub returns-else-import_only : goal.returns-else-import_only
returns-else-import_only c = search module_taken
