-- Gaps: white bytes, `//` up to byte 10 or the end, `/*` up to the next `*/` after those two bytes or the end.
-- An identifier: a letter or `_`, then letters, digits, `_ - .`. A name goes on with those and `:`.
--
-- A text is a list of bytes s, and a place in it counts from 0; what stands at a place is `look s at`, the byte or the end.
-- Assumes nothing.
use Rattle.std.specs.Prelude.{ℕ, suc, ◌+◌, Bool, cond, not, ◌&&◌, ◌||◌, List, [], ◌∷◌, length, drop, eqb}
use Rattle.text.specs.Bytes.{newline, star, hyphen, dot, slash, colon, underscore, look}
use Rattle.text.specs.Class.{class_of, white_class, letter_class, digit_class}
use Rattle.text.specs.Turns.{Turn, stop, on, turns}
use Rattle.text.specs.declared.Run.{Run}
use Rattle.text.specs.declared.Run.TheVariants.{White, Line, Ident, Name}

-- an identifier goes on with letters, digits, _ - .
unfoldable pub in_ident : ℕ → Bool
in_ident b = eqb (class_of b) letter_class || eqb (class_of b) digit_class || eqb b underscore || eqb b hyphen || eqb b dot

-- the bytes that a run of each kind is made of
unfoldable pub in_run : Run → ℕ → Bool
in_run White b = eqb (class_of b) white_class
in_run Line b = not (eqb b newline)
in_run Ident b = in_ident b
in_run Name b = in_ident b || eqb b colon

-- how many bytes xs begins with that all pass p
unfoldable pub span : (ℕ → Bool) → List ℕ → ℕ
span p [] = 0
span p (b ∷ xs) = cond (p b) (suc (span p xs)) 0

-- the place after the run that stands at a place
unfoldable pub run_end : Run → List ℕ → ℕ → ℕ
run_end k s at = at + span (in_run k) (drop at s)

-- whether the two bytes at a place are b and c
unfoldable pub pair_at : List ℕ → ℕ → ℕ → ℕ → Bool
pair_at s at b c = eqb (look s at) b && eqb (look s (at + 1)) c

-- how many bytes xs has up to and with its first */, or all
unfoldable pub closing : List ℕ → ℕ
closing [] = 0
closing (b ∷ xs) = cond (pair_at (b ∷ xs) 0 star slash) 2 (suc (closing xs))

unfoldable pub block_end : List ℕ → ℕ → ℕ
block_end s at = at + closing (drop at s)

-- the place after the comment that stands at a place, or that place where none does
unfoldable pub comment_end : List ℕ → ℕ → ℕ
comment_end s at = cond (pair_at s at slash slash) (run_end Line s (at + 2)) (cond (pair_at s at slash star) (block_end s (at + 2)) at)

-- a gap: white bytes, then a comment, again and again until there is no comment
unfoldable pub after_white : List ℕ → ℕ → Turn ℕ ℕ
after_white s at = cond (eqb (comment_end s at) at) (stop at) (on (comment_end s at))

unfoldable pub gap_turn : List ℕ → ℕ → Turn ℕ ℕ
gap_turn s at = after_white s (run_end White s at)

unfoldable pub gap_end : List ℕ → ℕ → ℕ
gap_end s at = turns (gap_turn s) 0 (suc (length s)) at
