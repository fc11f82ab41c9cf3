-- `library_items::take_lists`. Each list behind the other, by laws of Parts.
-- Assumes nothing.
use Rattle.library_items.proofs.Parts.{submodules_read, augmenting_read, deviations_read, lists_taken}
use borrow.Author.Rules.{rules}
use Rattle.library_items.proofs.take_lists.Goals as goal

pub take_list-submodules-requires : goal.take_list-submodules-requires
take_list-submodules-requires c = (search rules, search submodules_read)

pub take_list-augmenting-requires : goal.take_list-augmenting-requires
take_list-augmenting-requires c = (search rules, search augmenting_read)

pub take_list-requires : goal.take_list-requires
take_list-requires c =
    (search rules, deviations_read _ _ _ _ c.take_list-submodules.ensures c.take_list-augmenting.ensures c.requires.1)

pub returns : goal.returns
returns c = search lists_taken
