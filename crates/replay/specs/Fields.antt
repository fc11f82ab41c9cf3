-- A file of recorded answers is fields, one behind the other. A field is its length, two bytes, low byte first, and as many bytes; length
-- 65535 stands for a value that is missing. Behind the file's end every byte is 0, and no field reaches past it.
-- Assumes nothing.
use Rattle.std.specs.Prelude.{ℕ, ◌+◌, ◌-◌, ◌*◌, Bool, cond, List, length, take, drop, ◌==◌, nat_le, slice_index}

abbrev pub missing_length : ℕ
missing_length = 65535

abbrev pub byte_at : List ℕ → ℕ → ℕ
byte_at d at = slice_index d at

unfoldable pub length_at : List ℕ → ℕ → ℕ
length_at d at = byte_at d at + byte_at d (at + 1) * 256

unfoldable pub missing_at : List ℕ → ℕ → Bool
missing_at d at = length_at d at == missing_length

-- n places on, or the file's end
unfoldable pub on_by : List ℕ → ℕ → ℕ → ℕ
on_by d at n = cond (nat_le (at + n) (length d)) (at + n) (length d)

-- where its bytes start, and the place behind it
unfoldable pub bytes_from : List ℕ → ℕ → ℕ
bytes_from d at = on_by d at 2

unfoldable pub behind : List ℕ → ℕ → ℕ
behind d at = cond (missing_at d at) (bytes_from d at) (on_by d (bytes_from d at) (length_at d at))

unfoldable pub field_at : List ℕ → ℕ → List ℕ
field_at d at = take (behind d at - bytes_from d at) (drop (bytes_from d at) d)

-- a word: four bytes, low byte first; 0 where the field ends before
unfoldable pub four_bytes : List ℕ → ℕ → ℕ
four_bytes f at = byte_at f at + byte_at f (at + 1) * 256 + (byte_at f (at + 2) + byte_at f (at + 3) * 256) * 65536

unfoldable pub word_at : List ℕ → ℕ → ℕ
word_at f at = cond (nat_le (at + 4) (length f)) (four_bytes f at) 0
