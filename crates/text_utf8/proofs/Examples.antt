-- Worked examples of texts in UTF-8, one list and one claim: the definition computes the place that stands beside the text.
-- Assumes nothing.
use mathlib.Core.Bool.{Bool, true, ◌&&◌}
use mathlib.Core.List.{List, [], ◌∷◌}
use Prim.Native.Nat.{ℕ}
use lib.Dec.{eqb, T}
use Rattle.text.specs.Turns.{turns}
use Rattle.text_utf8.specs.Utf8.{tail, one, two, second3, three, second4, four, char_len, seq_len, char_turn, wrong_from}

-- a text and where its first wrong sequence starts
data Example : Type 0 where
  wrong : List ℕ → ℕ → Example

all : List Example → Bool
all [] = true
all (wrong s at ∷ xs) = eqb (wrong_from s 0) at && all xs

-- wrong: 41 C3 | E2 82 41 | C0 AF | C1 BF | E0 80 AF | E0 9F BF | ED A0 80 | ED BF BF | F0 8F BF BF | F4 90 80 80 | F5 80 80 80 | FF | C3 A9 C3 | 80
--   | 41 E2 82 | F0 9F 98 | C3 28
-- good: nothing | 41 7F 0 | C3 A9 | E2 82 AC | F0 9F 98 80 | EF BB BF | ED 9F BF | EE 80 80 | F4 8F BF BF | E0 A0 80 | F0 90 80 80 | C2 80 DF BF
examples : List Example
examples =
    wrong (65 ∷ 195 ∷ []) 1
    ∷ wrong (226 ∷ 130 ∷ 65 ∷ []) 0
    ∷ wrong (192 ∷ 175 ∷ []) 0
    ∷ wrong (193 ∷ 191 ∷ []) 0
    ∷ wrong (224 ∷ 128 ∷ 175 ∷ []) 0
    ∷ wrong (224 ∷ 159 ∷ 191 ∷ []) 0
    ∷ wrong (237 ∷ 160 ∷ 128 ∷ []) 0
    ∷ wrong (237 ∷ 191 ∷ 191 ∷ []) 0
    ∷ wrong (240 ∷ 143 ∷ 191 ∷ 191 ∷ []) 0
    ∷ wrong (244 ∷ 144 ∷ 128 ∷ 128 ∷ []) 0
    ∷ wrong (245 ∷ 128 ∷ 128 ∷ 128 ∷ []) 0
    ∷ wrong (255 ∷ []) 0
    ∷ wrong (195 ∷ 169 ∷ 195 ∷ []) 2
    ∷ wrong (128 ∷ []) 0
    ∷ wrong (65 ∷ 226 ∷ 130 ∷ []) 1
    ∷ wrong (240 ∷ 159 ∷ 152 ∷ []) 0
    ∷ wrong (195 ∷ 40 ∷ []) 0
    ∷ wrong [] 0
    ∷ wrong (65 ∷ 127 ∷ 0 ∷ []) 3
    ∷ wrong (195 ∷ 169 ∷ []) 2
    ∷ wrong (226 ∷ 130 ∷ 172 ∷ []) 3
    ∷ wrong (240 ∷ 159 ∷ 152 ∷ 128 ∷ []) 4
    ∷ wrong (239 ∷ 187 ∷ 191 ∷ []) 3
    ∷ wrong (237 ∷ 159 ∷ 191 ∷ []) 3
    ∷ wrong (238 ∷ 128 ∷ 128 ∷ []) 3
    ∷ wrong (244 ∷ 143 ∷ 191 ∷ 191 ∷ []) 4
    ∷ wrong (224 ∷ 160 ∷ 128 ∷ []) 3
    ∷ wrong (240 ∷ 144 ∷ 128 ∷ 128 ∷ []) 4
    ∷ wrong (194 ∷ 128 ∷ 223 ∷ 191 ∷ []) 4
    ∷ []

right : T (all examples)
unfolding examples all wrong_from char_turn seq_len char_len one two three second3 four second4 tail turns
right = tt
