-- What a contract sees of an order, and of the check of a list: the number, and the nodes written or the first wrong place.
-- Assumes nothing.
use Rattle.std.specs.Prelude.{ℕ}

pub record ToldOrder : Type 0 where
  pub number : ℕ
  pub length : ℕ

pub record ToldCheck : Type 0 where
  pub number : ℕ
  pub place : ℕ
