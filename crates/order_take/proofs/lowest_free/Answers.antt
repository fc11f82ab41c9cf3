use Rattle.order_take.proofs.Zeros.{search_begun, may_look, same_size, search_hit, search_on, search_done}
use Rattle.order_take.proofs.lowest_free.Goals as goal

pub loop-g-init : goal.loop-g-init
loop-g-init c = search search_begun

pub look_group-v-requires : goal.look_group-v-requires
look_group-v-requires c = search may_look

pub shape_of-lows-then-v-n : goal.shape_of-lows-then-v-n
shape_of-lows-then-v-n c = search same_size

pub returns-then-v-n : goal.returns-then-v-n
returns-then-v-n c = search search_hit

pub loop-g-preserved : goal.loop-g-preserved
loop-g-preserved c = search search_on

pub returns : goal.returns
returns c = search search_done
