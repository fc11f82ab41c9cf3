-- `order_places::place_at`. Each way out is one law of Barring.
-- Assumes nothing.
use Rattle.order_places.proofs.Barring.{place_read}
use Rattle.order_places.proofs.place_at.Goals as goal

pub returns : goal.returns
returns c = search place_read
