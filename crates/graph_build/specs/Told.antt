-- What a contract sees of a refused graph: its number, its entry, what the scan of the text answered, and the place where image or bundle breaks its form.
-- Assumes nothing.
use Rattle.std.specs.Prelude.{ℕ}
use Rattle.text.specs.declared.Refusal.{Refusal}

pub record Told : Type 0 where
  pub number : ℕ
  pub entry : ℕ
  pub scan : Refusal
  pub place : ℕ
