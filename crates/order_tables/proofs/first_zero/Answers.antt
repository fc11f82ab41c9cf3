-- `order_tables::first_zero`. Each way out is one law of Lowest.
-- Assumes nothing.
use Rattle.order_tables.proofs.Lowest.{seek_on, seek_hit, seek_done}
use Rattle.order_tables.proofs.first_zero.Goals as goal

pub returns-then-words-v-eq0 : goal.returns-then-words-v-eq0
returns-then-words-v-eq0 c = search seek_hit

pub loop-v-preserved : goal.loop-v-preserved
loop-v-preserved c = search seek_on

pub returns : goal.returns
returns c = seek_done c.args.words.now c.args.first c.args.last c.loop-v.v c.loop-v.invariant c.loop-v-test.false c.loop-v.auto.v-end c.max.ensures
