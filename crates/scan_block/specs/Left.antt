-- What a reader answers, and the bytes that it leaves in the store from its place on, on a refusal too.
-- Assumes nothing.
use Rattle.std.specs.Prelude.{ℕ, List, []}

pub record Left (A : Type 0) : Type 0 where
  pub answer : A
  pub bytes : List ℕ

module _ {A : Type 0} where
  -- nothing is stored
  abbrev pub nothing : A → Left A
  nothing a = record { answer = a; bytes = [] }
