-- The fixed pieces of the printed form.
-- Assumes nothing.
use Rattle.std.specs.Prelude.{ℕ, List, [], ◌∷◌}

-- `Imports (`
abbrev pub imports_head : List ℕ
imports_head = 73 ∷ 109 ∷ 112 ∷ 111 ∷ 114 ∷ 116 ∷ 115 ∷ 32 ∷ 40 ∷ []

-- `Includes (`
abbrev pub includes_head : List ℕ
includes_head = 73 ∷ 110 ∷ 99 ∷ 108 ∷ 117 ∷ 100 ∷ 101 ∷ 115 ∷ 32 ∷ 40 ∷ []

-- `):` and a line break
abbrev pub head_end : List ℕ
head_end = 41 ∷ 58 ∷ 10 ∷ []

-- `  - `
abbrev pub bullet : List ℕ
bullet = 32 ∷ 32 ∷ 45 ∷ 32 ∷ []

-- ` (prefix: `
abbrev pub prefix_open : List ℕ
prefix_open = 32 ∷ 40 ∷ 112 ∷ 114 ∷ 101 ∷ 102 ∷ 105 ∷ 120 ∷ 58 ∷ 32 ∷ []

-- `)`
abbrev pub prefix_close : List ℕ
prefix_close = 41 ∷ []

-- ` @ `
abbrev pub revision_sign : List ℕ
revision_sign = 32 ∷ 64 ∷ 32 ∷ []
