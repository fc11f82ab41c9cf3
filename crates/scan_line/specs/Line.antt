-- A line break, and a number in decimal.
-- Assumes nothing.
use Rattle.std.specs.Prelude.{ℕ, zero, suc, ◌+◌, ◌/◌, ◌%◌, cond, List, [], ◌∷◌, ◌++◌, ltb}

-- a line break
abbrev pub newline : List ℕ
newline = 10 ∷ []

-- `0`
abbrev pub nought : ℕ
nought = 48

abbrev pub digit : ℕ → ℕ
digit d = d + nought

-- the last k digits of n, or all of them where n has fewer
unfoldable pub last_digits : ℕ → ℕ → List ℕ
last_digits zero n = []
last_digits (suc k) n = cond (ltb n 10) (digit n ∷ []) (last_digits k (n / 10) ++ (digit (n % 10) ∷ []))

-- n in decimal, with no zero in front: a number of 64 bits has 20 digits at the most
unfoldable pub decimal : ℕ → List ℕ
decimal n = last_digits 20 n
