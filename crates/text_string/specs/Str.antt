-- In double quotes a backslash gives byte 10 for `n`, 9 for `t`, otherwise the byte after it. Single quotes have no escapes.
-- A quoted string is closed by the quote that opens it; one that never closes is none.
-- Assumes nothing.
use Rattle.std.specs.Prelude.{ℕ, ◌+◌, Bool, true, false, cond, ◌&&◌, ◌||◌, List, [], ◌∷◌, length, drop, eqb, Some, None, Option}
use Rattle.text.specs.Bytes.{tab, newline, quote, apostrophe, backslash, small_n, small_t, look}
use Rattle.text.specs.declared.Cursor.{Cursor}

-- a string opens by " or '
unfoldable pub is_quote : ℕ → Bool
is_quote b = eqb b quote || eqb b apostrophe

-- n stands for byte 10, t for 9, any other for itself
unfoldable pub escaped : ℕ → ℕ
escaped b = cond (eqb b small_n) newline (cond (eqb b small_t) tab b)

-- whether the byte b is one of xs
unfoldable pub among : ℕ → List ℕ → Bool
among b [] = false
among b (x ∷ xs) = eqb x b || among b xs

-- whether the byte b escapes the next, in quotes q
unfoldable pub escapes : ℕ → ℕ → Bool
escapes q b = eqb q quote && eqb b backslash

-- where the string closes whose bytes xs start at a place; true: the byte before them escapes
unfoldable pub str_end : ℕ → Bool → List ℕ → ℕ → Option ℕ
str_end q e [] at = None
str_end q true (b ∷ xs) at = str_end q false xs (at + 1)
str_end q false (b ∷ xs) at = cond (eqb b q) (Some (at + 1)) (str_end q (escapes q b) xs (at + 1))

-- the bytes that it gives
unfoldable pub str_bytes : ℕ → Bool → List ℕ → List ℕ
str_bytes q e [] = []
str_bytes q true (b ∷ xs) = escaped b ∷ str_bytes q false xs
str_bytes q false (b ∷ xs) = cond (eqb b q) [] (cond (escapes q b) (str_bytes q true xs) (b ∷ str_bytes q false xs))

-- a string: its bytes and the place after it, or one that never closes
pub data Str : Type 0 where
  whole : List ℕ → ℕ → Str
  cut : Str

-- the bytes bs, closed or not
unfoldable pub closed_by : List ℕ → Option ℕ → Str
closed_by bs (Some end) = whole bs end
closed_by bs None = cut

-- the string whose opening quote stands at a place
unfoldable pub str_at : List ℕ → ℕ → Str
str_at s at = closed_by (str_bytes (look s at) false (drop (at + 1) s)) (str_end (look s at) false (drop (at + 1) s) (at + 1))

-- what reading it answers, and what it stores
unfoldable pub answer_of : ℕ → Str → Option (Cursor × ℕ)
answer_of used (whole bs end) = Some ((record { at = end }), (used + length bs))
answer_of used cut = None

unfoldable pub bytes_of : Str → List ℕ
bytes_of (whole bs end) = bs
bytes_of cut = []
