-- Our quoted values and the RFC's: what is proved of them.
-- Assumes nothing.
use Rattle.std.specs.Prelude.{◌≡◌, true, List, ℕ}
use Rattle.text.specs.Turns.{after}
use Rattle.text_value.specs.Value.{value, value_at}
use Rattle.demands_rfc.specs.Rfc.{reads, first, separator, past_gap, gap_at, plus_and_string, more_strings, trimmed, rfc_value}
use Rattle.demands_rfc.specs.RfcDomain.{one_line, plain_at, legal_at}
use Rattle.demands_rfc.specs.RfcQuoted.{Quoted}

pub record RfcEquality : Type 0 where
  -- a quoted value under the conditions: the RFC's value and ours are the same bytes, up to the same place
  pub same : (s : List ℕ) (at : ℕ) → Quoted s at → (bs : List ℕ) × (end : ℕ) × (rfc_value s at ≡ reads bs end) × (value_at s at ≡ value bs end)
  -- the same from the RFC's side: where the RFC gives a value, none of its double-quoted strings holds a line break and no other white byte
  -- follows on its gaps, it is our value
  pub equal : (s : List ℕ) (at : ℕ) (bs : List ℕ) (end : ℕ) → rfc_value s at ≡ reads bs end → plain_at s at ≡ true → value_at s at ≡ value bs end
  -- where the escapes are legal too, the RFC does give a value
  pub gives : (s : List ℕ) (at : ℕ) → plain_at s at ≡ true → legal_at s at ≡ true → (bs : List ℕ) × (end : ℕ) × (rfc_value s at ≡ reads bs end)
  -- where there is no line break trimming does nothing
  pub untrimmed : (column : ℕ) (raw : List ℕ) → one_line raw ≡ true → trimmed column raw ≡ raw

-- The counts in the RFC's definition do not matter: what a gap is and what is added is the same question again after each step.
pub record RfcUncounted : Type 0 where
  pub gaps : (s : List ℕ) (at : ℕ) → past_gap s at ≡ after (λ next. past_gap s next) (separator s at)
  pub strings : (s : List ℕ) (at : ℕ) → more_strings s at ≡ first (gap_at s at) (λ here. plus_and_string (λ end. more_strings s end) s here)
