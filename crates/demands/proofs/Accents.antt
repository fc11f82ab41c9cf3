-- The request's theorems together; what the readings give is computed beside those of the whole-text mode.
-- Assumes nothing.
use Rattle.demands_scans.proofs.Accents.{met, low_as_before}
use Rattle.demands.specs.Accents.{Accents}
use Rattle.demands.proofs.Whole.{computed}

pub accents_right : Accents
accents_right = record { met = met; low_as_before = low_as_before; readings_right = computed.1 }
