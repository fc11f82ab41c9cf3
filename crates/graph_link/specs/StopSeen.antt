-- The end of a walk as it lies in memory, and as contracts see it.
-- Assumes nothing.
use Rattle.graph_link.specs.Stop.{Stop}
use Rattle.graph_link.specs.declared.Stopped.TheInside.{Inside}

abbrev pub seen : Inside → Stop
seen x = record { number = x.reason.0; scan = x.scan }

abbrev pub unseen : Stop → Inside
unseen x = record { reason = record { 0 = x.number }; scan = x.scan }
