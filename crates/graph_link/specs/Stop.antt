-- What a contract sees of the end of a walk: its number, and what the scan of the text answered.
-- Assumes nothing.
use Rattle.std.specs.Prelude.{ℕ}
use Rattle.text.specs.declared.Refusal.{Refusal}

pub record Stop : Type 0 where
  pub number : ℕ
  pub scan : Refusal
