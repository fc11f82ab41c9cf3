-- `order_take::chain_edge`. What the three stores leave is one law of Chaining.
-- Assumes nothing.
use Rattle.order_take.proofs.Chaining.{from_low, from_in, to_low, to_in, few_waits, chained}
use borrow.Author.Rules.{rules}
use Rattle.order_take.proofs.chain_edge.Goals as goal

pub offset_bounds-heads-from : goal.offset_bounds-heads-from
offset_bounds-heads-from c = search (rules, from_low)

pub bounds-heads-from : goal.bounds-heads-from
bounds-heads-from c = search (rules, from_in)

pub offset_bounds-heads-from-2 : goal.offset_bounds-heads-from-2
offset_bounds-heads-from-2 c = search (rules, from_low)

pub bounds-heads-from-2 : goal.bounds-heads-from-2
bounds-heads-from-2 c = search (rules, from_in)

pub offset_bounds-waits-to : goal.offset_bounds-waits-to
offset_bounds-waits-to c = search (rules, to_low)

pub bounds-waits-to : goal.bounds-waits-to
bounds-waits-to c = search (rules, to_in)

pub overflow_add-waits : goal.overflow_add-waits
overflow_add-waits c = search (rules, few_waits)

pub bounds-waits-to-2 : goal.bounds-waits-to-2
bounds-waits-to-2 c = search (rules, to_in)

pub returns : goal.returns
returns c = search chained
