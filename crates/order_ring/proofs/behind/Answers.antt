use Rattle.order_ring.proofs.Parts.{seek_begun, seek_found, seek_more, seek_ends}
use mathlib.Core.Path.{refl}
use Rattle.order_ring.proofs.behind.Goals as goal

pub loop-i-init : goal.loop-i-init
loop-i-init c = search seek_begun

pub returns-then-trail-i : goal.returns-then-trail-i
returns-then-trail-i c = seek_found _ _ _ _ c.loop-i.invariant c.loop-i-test.true refl c.if-trail-i.true

pub loop-i-preserved : goal.loop-i-preserved
loop-i-preserved c = seek_more _ _ _ _ c.loop-i.invariant c.loop-i-test.true refl c.if-trail-i.false

pub returns : goal.returns
returns c = search seek_ends
