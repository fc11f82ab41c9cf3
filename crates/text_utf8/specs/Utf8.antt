-- RFC 3629, section 4: what one character is in UTF-8, by its lines.
--   UTF8-octets = *( UTF8-char )
--   UTF8-char   = UTF8-1 / UTF8-2 / UTF8-3 / UTF8-4
--   UTF8-1      = %x00-7F
--   UTF8-2      = %xC2-DF UTF8-tail
--   UTF8-3      = %xE0 %xA0-BF UTF8-tail / %xE1-EC 2( UTF8-tail ) / %xED %x80-9F UTF8-tail / %xEE-EF 2( UTF8-tail )
--   UTF8-4      = %xF0 %x90-BF 2( UTF8-tail ) / %xF1-F3 3( UTF8-tail ) / %xF4 %x80-8F 2( UTF8-tail )
--   UTF8-tail   = %x80-BF
-- a, b, c and d are what stands at a place and at the three after it: bytes, or the end, which none of these is.
-- Assumes nothing.
use Rattle.std.specs.Prelude.{ℕ, zero, suc, ◌+◌, Bool, cond, ◌&&◌, ◌||◌, List, eqb, length, Some, None, Option}
use Rattle.text.specs.Bytes.{look}
use Rattle.text.specs.Class.{within}
use Rattle.text.specs.Turns.{Turn, stop, on, turns}

-- UTF8-tail
unfoldable pub tail : ℕ → Bool
tail b = within 128 191 b

-- UTF8-1
unfoldable pub one : ℕ → Bool
one a = within 0 127 a

-- UTF8-2: C2 to DF
unfoldable pub two : ℕ → ℕ → Bool
two a b = within 194 223 a && tail b

-- the second byte of UTF8-3: after E0 from A0 on, after ED up to 9F, after E1 to EC, EE and EF a tail
unfoldable pub second3 : ℕ → ℕ → Bool
second3 a b =
    (eqb a 224 && within 160 191 b) || (within 225 236 a && tail b) || (eqb a 237 && within 128 159 b) || (within 238 239 a && tail b)

-- UTF8-3
unfoldable pub three : ℕ → ℕ → ℕ → Bool
three a b c = second3 a b && tail c

-- the second byte of UTF8-4: after F0 from 90 on, after F4 up to 8F, after F1 to F3 a tail
unfoldable pub second4 : ℕ → ℕ → Bool
second4 a b = (eqb a 240 && within 144 191 b) || (within 241 243 a && tail b) || (eqb a 244 && within 128 143 b)

-- UTF8-4
unfoldable pub four : ℕ → ℕ → ℕ → ℕ → Bool
four a b c d = second4 a b && tail c && tail d

-- UTF8-char: how many bytes it has, or 0 where these begin none
unfoldable pub char_len : ℕ → ℕ → ℕ → ℕ → ℕ
char_len a b c d = cond (one a) 1 (cond (two a b) 2 (cond (three a b c) 3 (cond (four a b c d) 4 0)))

-- at a place of a text
unfoldable pub seq_len : List ℕ → ℕ → ℕ
seq_len s at = char_len (look s at) (look s (at + 1)) (look s (at + 2)) (look s (at + 3))

-- the same as the code answers it: none where these bytes begin no character
abbrev pub some_len : ℕ → Option ℕ
some_len zero = None
some_len (suc n) = Some (suc n)

-- UTF8-octets: characters one behind the other; the place where the first wrong sequence starts, or the end
unfoldable pub char_turn : List ℕ → ℕ → Turn ℕ ℕ
char_turn s at = cond (eqb (seq_len s at) 0) (stop at) (on (at + seq_len s at))

unfoldable pub wrong_from : List ℕ → ℕ → ℕ
wrong_from s at = turns (char_turn s) 0 (suc (length s)) at
