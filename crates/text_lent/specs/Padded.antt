-- All beyond what is used is zero, in whatever length was lent; every refusal leaves what was lent zero.
-- Assumes nothing.
use Rattle.std.specs.Prelude.{ℕ, ◌-◌, List, ◌++◌, length, replicate}

-- n zeros
abbrev pub zeros : ℕ → List ℕ
zeros n = replicate n 0

-- a lent slice of length n that holds xs and then zeros
unfoldable pub padded : ℕ → List ℕ → List ℕ
padded n xs = xs ++ zeros (n - length xs)
