-- `order::order`. Each way out is one law of Sorting.
-- Assumes nothing.
use Rattle.order.proofs.Sorting.{unfit, too_short, fit_now, clear_now, sorted_so}
use borrow.Author.Rules.{rules}
use Rattle.order.proofs.order.Goals as goal

pub returns-then-not-fit : goal.returns-then-not-fit
returns-then-not-fit c = search (unfit, c.fill.ensures.after (λ y e. e))

pub returns-then-table-n : goal.returns-then-table-n
returns-then-table-n c = search (too_short, c.fill.ensures.after (λ y e. e))

pub sort-requires : goal.sort-requires
sort-requires c = (search (fit_now, c.fill.ensures.after (λ y e. e)), search rules, search (clear_now, c.fill.ensures.after (λ y e. e)))

pub returns : goal.returns
returns c = search (sorted_so, c.fill.ensures.after (λ y e. e))
