use Rattle.library_search.specs.Search.{sets_tried}
use borrow.Author.Rules.{rules}
use Rattle.library_search.proofs.try_sets.Goals as goal

pub try_list-requires : goal.try_list-requires
try_list-requires c = λ k o. (search rules depth 14, (search rules, λ x r p. search rules))

pub returns : goal.returns
unfolding sets_tried
returns c = c.try_list.ensures
