-- A refusal prints `refused N keyword K at P`; over 32,768 bytes `input too long`, each closed by byte 10. (32,768 is deps' limit; meta's is 131,072.)
-- Assumes nothing.
use Rattle.std.specs.Prelude.{ℕ}
use mathlib.Core.List.{List, [], ◌∷◌, ◌++◌, flatten}
use Rattle.text.specs.declared.Refusal.{Refusal}
use Rattle.scan_line.specs.Line.{newline, decimal}

-- `refused `
abbrev pub refused_word : List ℕ
refused_word = 114 ∷ 101 ∷ 102 ∷ 117 ∷ 115 ∷ 101 ∷ 100 ∷ 32 ∷ []

-- ` keyword `
abbrev pub keyword_word : List ℕ
keyword_word = 32 ∷ 107 ∷ 101 ∷ 121 ∷ 119 ∷ 111 ∷ 114 ∷ 100 ∷ 32 ∷ []

-- ` at `
abbrev pub at_word : List ℕ
at_word = 32 ∷ 97 ∷ 116 ∷ 32 ∷ []

-- `input too long`
abbrev pub too_long : List ℕ
too_long = 105 ∷ 110 ∷ 112 ∷ 117 ∷ 116 ∷ 32 ∷ 116 ∷ 111 ∷ 111 ∷ 32 ∷ 108 ∷ 111 ∷ 110 ∷ 103 ∷ []

unfoldable pub refused_line : Refusal → List ℕ
refused_line x = flatten (refused_word ∷ decimal x.number ∷ keyword_word ∷ decimal x.keyword ∷ at_word ∷ decimal x.at ∷ newline ∷ [])

abbrev pub too_long_line : List ℕ
too_long_line = too_long ++ newline
