use Rattle.order_places.proofs.Barring.{none_sought, edge_known, one_sought, found, none_found}
use Rattle.order_places.proofs.next_break.Goals as goal

pub loop-i-init : goal.loop-i-init
loop-i-init c = search none_sought

pub breaks-requires : goal.breaks-requires
breaks-requires c = search edge_known

pub returns-then-breaks : goal.returns-then-breaks
returns-then-breaks c = search found

pub loop-i-preserved : goal.loop-i-preserved
loop-i-preserved c = search one_sought

pub returns : goal.returns
returns c = search none_found
