-- RFC 3629, section 3: which octets encode which character number, by its table, and what our reading of a text in UTF-8 has to do with it.
--   0000 0000-0000 007F | 0xxxxxxx
--   0000 0080-0000 07FF | 110xxxxx 10xxxxxx
--   0000 0800-0000 FFFF | 1110xxxx 10xxxxxx 10xxxxxx
--   0001 0000-0010 FFFF | 11110xxx 10xxxxxx 10xxxxxx 10xxxxxx
-- The bits x of an octet are a number here: 110xxxxx is 192 + x with x below 32.
-- Assumes nothing.
use Rattle.std.specs.Prelude.{◌≡◌, List, [], ◌∷◌, ◌++◌, ℕ, ◌+◌, ◌*◌, ◌<◌, ◌≤◌, length, take, drop}
use Rattle.text_utf8.specs.Utf8.{wrong_from}

-- these octets encode the number n
pub data Encoded (n : ℕ) : List ℕ → Type 0 where
  octet : n ≤ 127 → Encoded n (n ∷ [])
  octets2 : (x y : ℕ) → x < 32 → y < 64 → n ≡ x * 64 + y → 128 ≤ n → n ≤ 2047 → Encoded n ((192 + x) ∷ (128 + y) ∷ [])
  octets3 : (x y z : ℕ) → x < 16 → y < 64 → z < 64 → n ≡ x * 4096 + y * 64 + z → 2048 ≤ n → n ≤ 65535 → Encoded n ((224 + x) ∷ (128 + y) ∷ (128 + z) ∷ [])
  octets4 : (x y z w : ℕ) → x < 8 → y < 64 → z < 64 → w < 64 → n ≡ x * 262144 + y * 4096 + z * 64 + w → 65536 ≤ n → n ≤ 1114111
      → Encoded n ((240 + x) ∷ (128 + y) ∷ (128 + z) ∷ (128 + w) ∷ [])

-- a scalar value: up to 10FFFF, and none of the surrogates, D800 to DFFF
pub record Scalar (n : ℕ) : Type 0 where
  pub most : n ≤ 1114111
  pub apart : 55296 ≤ n → n ≤ 57343 → ⊥

-- encodings of scalar values one behind the other
pub data Encodings : List ℕ → Type 0 where
  none : Encodings []
  more : (n : ℕ) (xs rest : List ℕ) → Scalar n → Encoded n xs → Encodings rest → Encodings (xs ++ rest)

-- w = wrong_from s 0
pub record Utf8Right : Type 0 where
  -- a text with no wrong sequence is encodings of scalar values, and such a text has none
  pub only : (s : List ℕ) → wrong_from s 0 ≡ length s → Encodings s
  pub every : (s : List ℕ) → Encodings s → wrong_from s 0 ≡ length s
  -- what stands before w is encodings of scalar values, and none stands at w
  pub before : (s : List ℕ) → Encodings (take (wrong_from s 0) s)
  pub there : (s : List ℕ) (n : ℕ) (xs rest : List ℕ) → Scalar n → Encoded n xs → drop (wrong_from s 0) s ≡ xs ++ rest → ⊥
