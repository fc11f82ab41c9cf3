-- The conditions of the equality on a quoted value as we read it: its strings all close, every `+` has a string after it, its gaps are
-- bytes 9, 10, 32 and comments, no line break stands in double quotes, and escapes are legal.
-- Assumes nothing.
use Rattle.std.specs.Prelude.{◌≡◌, Bool, true, false, ◌||◌, List, ℕ, ◌+◌, ◌-◌, drop, eqb}
use Rattle.std.proofs.Math.Option.{some}
use Rattle.text.specs.Bytes.{tab, newline, space, quote, star, plus, slash, look}
use Rattle.text.specs.Keyword.{part}
use Rattle.text.specs.Scan.{gap_end}
use Rattle.text_string.specs.Str.{is_quote, whole, str_at}
use Rattle.demands_rfc.specs.Rfc.{are_at, to_line_end, comment_close}
use Rattle.demands_rfc.specs.RfcDomain.{one_line, legal}

-- bytes 9, 10 and 32
unfoldable pub plain_white : ℕ → Bool
plain_white b = eqb b tab || eqb b newline || eqb b space

-- from a place up to `end` there are only bytes 9, 10, 32 and comments, and a block comment closes
pub data Filled (s : List ℕ) (end : ℕ) : ℕ → Type 0 where
  done : {at : ℕ} → at ≡ end → Filled s end at
  white : {at : ℕ} → plain_white (look s at) ≡ true → Filled s end (at + 1) → Filled s end at
  line : {at : ℕ} → are_at s at slash slash ≡ true → Filled s end (at + 2 + to_line_end (drop (at + 2) s)) → Filled s end at
  block : {at next : ℕ} → are_at s at slash star ≡ true → comment_close (drop (at + 2) s) (at + 2) ≡ some next → Filled s end next → Filled s end at

-- the gap at a place
abbrev pub Gap : List ℕ → ℕ → Type 0
Gap s at = Filled s (gap_end s at) at

-- a string from its opening quote up to `end`: it closes there; in double quotes what stands between holds no line break and no illegal escape
pub record Closed (s : List ℕ) (at end : ℕ) : Type 0 where
  pub quoted : is_quote (look s at) ≡ true
  pub bytes : List ℕ
  pub closes : str_at s at ≡ whole bytes end
  pub unbroken : eqb (look s at) quote ≡ true → one_line (part s (at + 1) (end - 1)) ≡ true
  pub legally : eqb (look s at) quote ≡ true → legal false (part s (at + 1) (end - 1)) ≡ true

-- after a string: a gap and no `+`; or a gap, `+`, a gap and a string, and so on after that
pub data Added (s : List ℕ) : ℕ → Type 0 where
  last : {at : ℕ} → Gap s at → eqb (look s (gap_end s at)) plus ≡ false → Added s at
  more : {at end : ℕ} → Gap s at → eqb (look s (gap_end s at)) plus ≡ true → Gap s (gap_end s at + 1) → Closed s (gap_end s (gap_end s at + 1)) end
      → Added s end → Added s at

-- a quoted value: a gap, a string, and what is added
pub record Quoted (s : List ℕ) (at : ℕ) : Type 0 where
  pub gap : Gap s at
  pub end : ℕ
  pub string : Closed s (gap_end s at) end
  pub added : Added s end
