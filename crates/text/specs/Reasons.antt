-- A refusal as it lies in memory, and as contracts see it: by the number of its reason.
-- Assumes nothing.
use Rattle.text.specs.Refused.{Refused}
use Rattle.text.specs.declared.Refusal.TheInside.{Inside}

abbrev pub seen : Inside → Refused
seen r = record { number = r.reason.0; keyword = r.keyword; at = r.at }

abbrev pub unseen : Refused → Inside
unseen r = record { reason = record { 0 = r.number }; keyword = r.keyword; at = r.at }
