-- Where our values are the RFC's: conditions on the pieces of a value as they stand in the text. That each string closes and each `+` has
-- a string after it is not among them: elsewhere the RFC gives no value.
-- Assumes nothing.
use Rattle.std.specs.Prelude.{ℕ, Bool, true, false, not, ◌&&◌, ◌||◌, List, [], ◌∷◌, eqb}
use Rattle.text.specs.Bytes.{newline, carriage, quote, backslash, small_n, small_t}
use Rattle.demands_rfc.specs.Rfc.{Piece, double, single, gap, Read, reads, nothing, pieces_at}

abbrev pub vertical_tab : ℕ
vertical_tab = 11

abbrev pub form_feed : ℕ
form_feed = 12

-- White for us are bytes 9 to 13 and 32, for the RFC only blanks, tabs and line breaks: these make the difference.
unfoldable pub odd_white : ℕ → Bool
odd_white b = eqb b vertical_tab || eqb b form_feed || eqb b carriage

-- no line break: a line break, be it LF or CR LF, ends with byte 10
unfoldable pub one_line : List ℕ → Bool
one_line [] = true
one_line (b ∷ xs) = not (eqb b newline) && one_line xs

-- legal escapes only; true: the byte before is a backslash that starts one
unfoldable pub legal : Bool → List ℕ → Bool
legal true [] = false
legal false [] = true
legal true (b ∷ xs) = (eqb b small_n || eqb b small_t || eqb b quote || eqb b backslash) && legal false xs
legal false (b ∷ xs) = legal (eqb b backslash) xs

-- A double-quoted string holds no line break. A gap is bytes 9, 10, 32 and comments: no other white byte follows on what the RFC reads
-- as the gap. (That may hold a CR LF too.)
unfoldable pub plain : Piece → Bool
plain (double column raw) = one_line raw
plain (single raw) = true
plain (gap next) = not (odd_white next)

unfoldable pub legal_in : Piece → Bool
legal_in (double column raw) = legal false raw
legal_in (single raw) = true
legal_in (gap next) = true

unfoldable pub every : (Piece → Bool) → List Piece → Bool
every p [] = true
every p (x ∷ xs) = p x && every p xs

-- the pieces are there (each string closes, each `+` has a string after it, each comment closes), and each passes
unfoldable pub found : (Piece → Bool) → Read (List Piece) → Bool
found p (reads ps end) = every p ps
found p nothing = false

-- no line break in double quotes, no other white bytes in the gaps
unfoldable pub plain_at : List ℕ → ℕ → Bool
plain_at s at = found plain (pieces_at s at)

unfoldable pub legal_at : List ℕ → ℕ → Bool
legal_at s at = found legal_in (pieces_at s at)
