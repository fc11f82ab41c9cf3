-- A refused graph as it lies in memory, and as contracts see it.
-- Assumes nothing.
use Rattle.graph_build.specs.Told.{Told}
use Rattle.graph_build.specs.declared.GraphRefusal.TheInside.{Inside}

abbrev pub seen : Inside → Told
seen x = record { number = x.reason.0; entry = x.entry; scan = x.scan; place = x.place }

abbrev pub unseen : Told → Inside
unseen x = record { reason = record { 0 = x.number }; entry = x.entry; scan = x.scan; place = x.place }
