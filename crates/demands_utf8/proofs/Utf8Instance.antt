-- The theorem at work: a character of each length with its number, a text of them, and a text that breaks off.
-- Assumes nothing.
use mathlib.Core.Path.{◌≡◌, refl}
use mathlib.Core.List.{List, [], ◌∷◌, ◌++◌}
use Prim.Native.Nat.{ℕ}
use native.Mathlib.Omega.{arith}
use lib.ListN.{length}
use Rattle.text.specs.Turns.{turns}
use Rattle.text_utf8.specs.Utf8.{tail, one, two, second3, three, second4, four, char_len, seq_len, char_turn, wrong_from}
use Rattle.demands_utf8.specs.Utf8Right.{Encoded, octet, octets2, octets3, octets4, Scalar, Encodings, none, more}
use Rattle.demands_utf8.proofs.Utf8Right.{utf8_right}

-- A is 41, é is E9, € is 20AC, 😀 is 1F600
letter : Encoded 65 (65 ∷ [])
letter = octet (omega arith)

acute : Encoded 233 (195 ∷ 169 ∷ [])
acute = octets2 3 41 (omega arith) (omega arith) refl (omega arith) (omega arith)

euro : Encoded 8364 (226 ∷ 130 ∷ 172 ∷ [])
euro = octets3 2 2 44 (omega arith) (omega arith) (omega arith) refl (omega arith) (omega arith)

face : Encoded 128512 (240 ∷ 159 ∷ 152 ∷ 128 ∷ [])
face = octets4 0 31 24 0 (omega arith) (omega arith) (omega arith) (omega arith) refl (omega arith) (omega arith)

-- A é € 😀
abbrev text : List ℕ
text = 65 ∷ 195 ∷ 169 ∷ 226 ∷ 130 ∷ 172 ∷ 240 ∷ 159 ∷ 152 ∷ 128 ∷ []

encodings : Encodings text
encodings =
    more 65 (65 ∷ []) _ (record { most = omega arith; apart = λ p q. omega arith }) letter
    (more 233 (195 ∷ 169 ∷ []) _ (record { most = omega arith; apart = λ p q. omega arith }) acute
    (more 8364 (226 ∷ 130 ∷ 172 ∷ []) _ (record { most = omega arith; apart = λ p q. omega arith }) euro
    (more 128512 (240 ∷ 159 ∷ 152 ∷ 128 ∷ []) [] (record { most = omega arith; apart = λ p q. omega arith }) face none)))

whole : wrong_from text 0 ≡ length text
whole = utf8_right.every text encodings

-- é and the first two octets of €
abbrev broken : List ℕ
broken = 195 ∷ 169 ∷ 226 ∷ 130 ∷ []

breaks : wrong_from broken 0 ≡ 2
unfolding wrong_from char_turn seq_len char_len one two three second3 four second4 tail turns
breaks = refl

front : Encodings (195 ∷ 169 ∷ [])
unfolding wrong_from char_turn seq_len char_len one two three second3 four second4 tail turns
front = utf8_right.before broken

stuck : (n : ℕ) (xs rest : List ℕ) → Scalar n → Encoded n xs → ◌≡◌ {A = List ℕ} (226 ∷ 130 ∷ []) (xs ++ rest) → ⊥
unfolding wrong_from char_turn seq_len char_len one two three second3 four second4 tail turns
stuck = utf8_right.there broken
