-- The refusals of one text by their numbers, and the refusal that is none. 7 to 10 stand where they are told.
-- 2026-07: in a whole-text mode the first such end is a refusal. 11 in the new mode only, keyword 0, position at the text's end.
-- 2026-01: valid bytes above 127 are allowed inside quoted strings and comments. Elsewhere they are refused at the place the scan meets them: 3 in reading
-- order, before 4 and 5 at one place. 12: not UTF-8, at the start of the first wrong sequence, keyword 0.
-- Assumes nothing.
use Rattle.std.specs.Prelude.{ℕ, Bool, true, cond, not, ◌&&◌, eqb, leb, ◌≡◌, List, Ok, Err, Result}
use Rattle.text.specs.Bytes.{high_byte, the_end, look}
use Rattle.text.specs.declared.Refusal.{Refusal}

-- text over 1,048,576 bytes
abbrev pub text_too_long : ℕ
text_too_long = 1

-- store, table or page too short
abbrev pub lent_too_short : ℕ
lent_too_short = 2

-- a byte of 128 or more, outside strings and comments
abbrev pub high_byte_met : ℕ
high_byte_met = 3

-- no value after the keyword
abbrev pub no_value : ℕ
no_value = 4

-- another byte than the one required
abbrev pub other_byte : ℕ
other_byte = 5

-- the end instead of that byte
abbrev pub end_of_text : ℕ
end_of_text = 6

-- what was read breaks off: in the whole-text mode only
abbrev pub cut_short : ℕ
cut_short = 11

-- not UTF-8
abbrev pub not_utf8 : ℕ
not_utf8 = 12

-- c stands at a place: a byte of 128 or more, which the end is not
unfoldable pub is_high : ℕ → Bool
is_high c = leb high_byte c && not (eqb c the_end)

abbrev pub high_at : ℕ → Refusal
high_at at = record { number = high_byte_met; keyword = 0; at = at }

-- r refuses such a byte, which stands where it says
abbrev pub MetHigh : List ℕ → Refusal → Type 0
MetHigh s r = (r ≡ high_at r.at) × (is_high (look s r.at) ≡ true)

-- c, which stands at the place, is refused: 3 where it is such a byte, else this number with the keyword k
unfoldable pub refused_at : ℕ → ℕ → ℕ → ℕ → Refusal
refused_at c number k at = cond (is_high c) (high_at at) (record { number = number; keyword = k; at = at })

-- n: the text's length
abbrev pub cut_at : ℕ → Refusal
cut_at n = record { number = cut_short; keyword = 0; at = n }

-- number, keyword and place are 0 where nothing is refused
abbrev pub no_refusal : Refusal
no_refusal = record { number = 0; keyword = 0; at = 0 }

-- the refusal that an answer is, or none
abbrev pub refusal_of : {A : Type 0} → Result A Refusal → Refusal
refusal_of (Ok x) = no_refusal
refusal_of (Err r) = r
