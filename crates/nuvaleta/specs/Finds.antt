-- What a host is answered for a name. answer[5] of a find: number, place of the fault, found, place of the hit, revisions; of a text: number, place of
-- the fault, found, start, length. Each call returns the number.
-- Assumes nothing.
use Rattle.std.specs.Prelude.{ℕ, ◌≡◌, List, get_or}

-- the answer is these words, and the first of them is returned
pub record Told (words : List ℕ) (r : ℕ) (answer : List ℕ) : Type 0 where
  pub number : r ≡ get_or words 0 0
  pub answered : answer ≡ words
