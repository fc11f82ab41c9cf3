use Rattle.order_ring.proofs.Parts.{lower_begun, lower_new, lower_old, lower_done}
use Rattle.order_ring.proofs.lowest_place.Goals as goal
use Rattle.order_ring.proofs.lowest_place.Goals.{then-trail-i, else-trail-i}

pub loop-i-init : goal.loop-i-init
loop-i-init c = search lower_begun

pub loop-i-preserved : goal.loop-i-preserved
loop-i-preserved c =
    elim c.if-trail-i.branch [
      | then-trail-i w ↦ lower_new _ _ _ _ c.requires.1 _ c.loop-i.invariant c.loop-i-test.true w.if-trail-i.true w.p-is
      | else-trail-i w ↦ lower_old _ _ _ _ c.requires.1 _ c.loop-i.invariant c.loop-i-test.true w.if-trail-i.false w.p-is
    ]

pub returns : goal.returns
returns c = search lower_done
