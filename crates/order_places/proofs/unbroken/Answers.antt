use Rattle.order_places.proofs.Barring.{second_known, none_passed, more_passed, all_passed}
use Rattle.order_places.proofs.unbroken.Goals as goal

pub loop-i-init : goal.loop-i-init
loop-i-init c = search none_passed

pub place_at-least-requires : goal.place_at-least-requires
place_at-least-requires c = search second_known

pub loop-i-preserved : goal.loop-i-preserved
loop-i-preserved c = search more_passed

pub returns : goal.returns
returns c = search all_passed
