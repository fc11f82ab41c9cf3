-- A number is seven-bit groups, low group first, top bit set on all but the last; shortest form; at most three bytes (2,097,151). A name is a
-- number 1 to 128 and as many bytes from 33 to 126. Here written, where Form reads.
-- Assumes nothing.
use Rattle.std.specs.Prelude.{ℕ, ◌+◌, ◌/◌, ◌%◌, ◌≤◌, ◌<◌, List, [], ◌∷◌, ◌++◌, cond, length, get_or, ltb}
use Rattle.library_form.specs.Form.{top_bit, third, most_name, least_byte, most_byte}

-- the lowest group of n, with the top bit set
abbrev pub lowest : ℕ → ℕ
lowest n = top_bit + n % top_bit

unfoldable pub write_number : ℕ → List ℕ
write_number n =
    cond (ltb n top_bit) (n ∷ [])
    (cond (ltb n third) (lowest n ∷ n / top_bit ∷ [])
    (lowest n ∷ lowest (n / top_bit) ∷ n / third ∷ []))

unfoldable pub write_name : List ℕ → List ℕ
write_name bs = write_number (length bs) ++ bs

-- bytes that make a name
pub record NameBytes (bs : List ℕ) : Type 0 where
  pub some : 1 ≤ length bs
  pub few : length bs ≤ most_name
  pub printable : (k : ℕ) → k < length bs → (least_byte ≤ get_or bs k 0) × (get_or bs k 0 ≤ most_byte)

-- every number of the list is a byte
abbrev pub AllBytes : List ℕ → Type 0
AllBytes s = (k : ℕ) → get_or s k 0 < 256
