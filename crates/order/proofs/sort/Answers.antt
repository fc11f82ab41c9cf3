-- `order::sort`. Each way out is one law of Sorting.
-- Assumes nothing.
use Rattle.order.proofs.Sorting.{all_sorted, room_still, count_in, laid_still, stuck, ring_few, ring_sorted}
use borrow.Author.Rules.{rules}
use Rattle.order.proofs.sort.Goals as goal

pub returns-then-count-n : goal.returns-then-count-n
returns-then-count-n c = search all_sorted

pub write_ring-length-requires : goal.write_ring-length-requires
write_ring-length-requires c = (search rules, search room_still, search count_in, search stuck, search laid_still)

pub overflow_cast-result-2 : goal.overflow_cast-result-2
overflow_cast-result-2 c = search ring_few

pub returns : goal.returns
returns c = search ring_sorted
