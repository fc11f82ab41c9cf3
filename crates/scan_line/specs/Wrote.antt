-- What a writer leaves: the page e is d with the bytes from `at` on, and r is the place behind them.
-- Assumes nothing.
use Rattle.std.specs.Prelude.{ℕ, ◌+◌, ◌≡◌, List, length}
use Rattle.std.proofs.lemmas.List.Edits.{sets}

pub record Wrote (d : List ℕ) (at : ℕ) (bytes e : List ℕ) (r : ℕ) : Type 0 where
  pub left : e ≡ sets d at bytes
  pub next : r ≡ at + length bytes
