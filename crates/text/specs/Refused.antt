-- What a contract sees of a refusal: its number, its keyword's number and its place.
-- Assumes nothing.
use Rattle.std.specs.Prelude.{ℕ}

pub record Refused : Type 0 where
  pub number : ℕ
  pub keyword : ℕ
  pub at : ℕ
