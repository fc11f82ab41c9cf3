-- Our quoted values and the RFC's: where the conditions hold of our reading the RFC's pieces pass, so it gives a value, and that is ours.
-- Assumes nothing.
use mathlib.Core.Path.{◌≡◌}
use mathlib.Core.List.{List}
use Prim.Native.Nat.{ℕ}
use Rattle.text_value.specs.Value.{value, value_at}
use Rattle.demands_rfc.specs.Rfc.{reads, rfc_value}
use Rattle.demands_rfc.specs.RfcQuoted.{Quoted}
use Rattle.demands_rfc.specs.RfcEquality.{RfcEquality}
use Rattle.demands_rfc.proofs.RfcTrim.{trimmed_same}
use Rattle.demands_rfc.proofs.RfcEqual.{value_same, value_given}
use Rattle.demands_rfc.proofs.RfcCovers.{covered}

quoted_same : (s : List ℕ) (at : ℕ) → Quoted s at → (bs : List ℕ) × (end : ℕ) × (rfc_value s at ≡ reads bs end) × (value_at s at ≡ value bs end)
quoted_same s at q =
    let c = covered s at q in
    let g = value_given s at c.0 c.1 in
    (g.0, g.1, g.2, value_same s at g.0 g.1 g.2 c.0)

pub rfc_equality : RfcEquality
rfc_equality = record { same = quoted_same; equal = value_same; gives = value_given; untrimmed = trimmed_same }
