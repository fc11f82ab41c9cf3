-- Worked examples of a number in decimal and of the line of a refusal, one list and one claim.
-- Assumes nothing.
use mathlib.Core.Bool.{Bool, true, ◌&&◌}
use mathlib.Core.List.{List, [], ◌∷◌, flatten}
use Prim.Native.Nat.{ℕ}
use lib.Dec.{T}
use Rattle.text.specs.Keyword.{same}
use Rattle.text.specs.declared.Refusal.{Refusal}
use Rattle.scan_line.specs.Line.{last_digits, decimal}
use Rattle.scan_line.specs.Refused.{refused_line}

data Example : Type 0 where
  number : ℕ → List ℕ → Example
  line : Refusal → List ℕ → Example

holds : Example → Bool
holds (number n ds) = same (decimal n) ds
holds (line x bs) = same (refused_line x) bs

all : List Example → Bool
all [] = true
all (x ∷ xs) = holds x && all xs

-- 0 | 7 | 10 | 99 | 100 | 256 | 4294967295 | 18446744073709551615
-- `refused 4 keyword 8 at 14`
examples : List Example
examples =
    number 0 (48 ∷ [])
    ∷ number 7 (55 ∷ [])
    ∷ number 10 (49 ∷ 48 ∷ [])
    ∷ number 99 (57 ∷ 57 ∷ [])
    ∷ number 100 (49 ∷ 48 ∷ 48 ∷ [])
    ∷ number 256 (50 ∷ 53 ∷ 54 ∷ [])
    ∷ number 4294967295 (52 ∷ 50 ∷ 57 ∷ 52 ∷ 57 ∷ 54 ∷ 55 ∷ 50 ∷ 57 ∷ 53 ∷ [])
    ∷ number 18446744073709551615 (49 ∷ 56 ∷ 52 ∷ 52 ∷ 54 ∷ 55 ∷ 52 ∷ 52 ∷ 48 ∷ 55 ∷ 51 ∷ 55 ∷ 48 ∷ 57 ∷ 53 ∷ 53 ∷ 49 ∷ 54 ∷ 49 ∷ 53 ∷ [])
    ∷ line (record { number = 4; keyword = 8; at = 14 })
    (114 ∷ 101 ∷ 102 ∷ 117 ∷ 115 ∷ 101 ∷ 100 ∷ 32 ∷ 52 ∷ 32 ∷ 107 ∷ 101 ∷ 121 ∷ 119 ∷ 111 ∷ 114 ∷ 100 ∷ 32 ∷ 56 ∷ 32 ∷ 97 ∷ 116 ∷ 32 ∷ 49 ∷ 52 ∷ 10 ∷ [])
    ∷ []

right : T (all examples)
unfolding all holds examples same last_digits decimal refused_line flatten
right = tt
