use Rattle.order_places.proofs.Noting.{none_noted, place_fits, no_node, repeated, noted_more, ended}
use Rattle.order_places.proofs.note_places.Goals as goal
use Rattle.order_places.proofs.note_places.Goals.{then-n-v-via-then-n-v, then-n-v-via-else-n-v+then-places-v}

pub loop-i-init : goal.loop-i-init
loop-i-init c = search none_noted

pub returns-then-n-v : goal.returns-then-n-v
returns-then-n-v c =
    elim c.then-n-v.branch [
      | then-n-v-via-then-n-v w ↦ search no_node
      | then-n-v-via-else-n-v+then-places-v w ↦ search repeated
    ]

pub overflow_cast-places : goal.overflow_cast-places
overflow_cast-places c = search place_fits

pub loop-i-preserved : goal.loop-i-preserved
loop-i-preserved c = search noted_more

pub returns : goal.returns
returns c = search ended
