-- `order_take::lower`. One law of Zeros.
-- Assumes nothing.
use Rattle.order_take.proofs.Zeros.{lowered}
use Rattle.order_take.proofs.lower.Goals as goal

pub returns : goal.returns
returns c = search lowered
