-- Values on the domain, one list and one claim: the conditions hold, and the RFC and we read these bytes up to this place.
-- Assumes nothing.
use mathlib.Core.Bool.{Bool, true, ◌&&◌}
use mathlib.Core.List.{List, [], ◌∷◌}
use Prim.Native.Nat.{ℕ}
use lib.Dec.{T}
use Rattle.text.specs.Class.{class_of}
use Rattle.text.specs.Keyword.{part}
use Rattle.text.specs.Scan.{in_ident, in_run, span, run_end, pair_at, closing, block_end, comment_end, after_white, gap_turn, gap_end}
use Rattle.text_string.specs.Str.{is_quote, escaped, escapes, str_end, str_bytes, closed_by, str_at}
use Rattle.text_value.specs.Value.{starts_name, added_by, after_plus, after_gap, more_at, add_to, join_turn, joined_with, joined, of_string, value_here, value_at}
use Rattle.text_value.specs.Value.{value}
use Rattle.text.specs.Turns.{turns}
use Rattle.demands_rfc.specs.Rfc.{reads, nothing, is_blank, are_at, break_at, to_line_end, comment_close, past_comment, separator, past_gap, with, first}
use Rattle.demands_rfc.specs.Rfc.{single_body, double_body, width, column_after, column_of, string_at, gap_to, gap_at, gap_and_string, plus_and_string, added_strings}
use Rattle.demands_rfc.specs.Rfc.{more_strings, pieces_at, blank_to_break, unless, trim_ends, trim_starts, trimmed, escape, joining, unescaped, meaning}
use Rattle.demands_rfc.specs.Rfc.{meanings, ending_at, meant, rfc_value}
use Rattle.demands_rfc.specs.RfcDomain.{odd_white, one_line, legal, plain, legal_in, every, found, plain_at, legal_at}
use Rattle.demands_rfc.proofs.RfcSame.{same_val, same_read, agree}

record Example : Type 0 where
  text : List ℕ
  bytes : List ℕ
  end : ℕ

right : Example → Bool
right x =
    plain_at x.text 0 && legal_at x.text 0 && same_read (rfc_value x.text 0) (reads x.bytes x.end)
    && same_val (value_at x.text 0) (value x.bytes x.end)

all : List Example → Bool
all [] = true
all (x ∷ xs) = right x && all xs

examples : List Example
examples =
    -- "a"
    record { text = 34 ∷ 97 ∷ 34 ∷ []; bytes = 97 ∷ []; end = 3 }
    -- 'a'
    ∷ record { text = 39 ∷ 97 ∷ 39 ∷ []; bytes = 97 ∷ []; end = 3 }
    -- "a" + 'b'; after a blank
    ∷ record { text = 32 ∷ 34 ∷ 97 ∷ 34 ∷ 32 ∷ 43 ∷ 32 ∷ 39 ∷ 98 ∷ 39 ∷ 59 ∷ []; bytes = 97 ∷ 98 ∷ []; end = 10 }
    -- "a", a line break, +, a comment, a tab, "b", a line comment, +, "c"
    ∷ record {
      text = 34 ∷ 97 ∷ 34 ∷ 10 ∷ 43 ∷ 47 ∷ 42 ∷ 120 ∷ 42 ∷ 47 ∷ 9 ∷ 34 ∷ 98 ∷ 34 ∷ 47 ∷ 47 ∷ 99 ∷ 10 ∷ 43 ∷ 32 ∷ 34 ∷ 99 ∷ 34 ∷ 32 ∷ 123
          ∷ [];
      bytes = 97 ∷ 98 ∷ 99 ∷ [];
      end = 24;
    }
    -- "a\n\t\"\\"
    ∷ record { text = 34 ∷ 97 ∷ 92 ∷ 110 ∷ 92 ∷ 116 ∷ 92 ∷ 34 ∷ 92 ∷ 92 ∷ 34 ∷ []; bytes = 97 ∷ 10 ∷ 9 ∷ 34 ∷ 92 ∷ []; end = 11 }
    -- '\n'
    ∷ record { text = 39 ∷ 92 ∷ 110 ∷ 39 ∷ []; bytes = 92 ∷ 110 ∷ []; end = 4 }
    -- ""
    ∷ record { text = 34 ∷ 34 ∷ []; bytes = []; end = 2 }
    -- a line break in single quotes
    ∷ record { text = 39 ∷ 97 ∷ 10 ∷ 32 ∷ 32 ∷ 98 ∷ 39 ∷ []; bytes = 97 ∷ 10 ∷ 32 ∷ 32 ∷ 98 ∷ []; end = 7 }
    -- CR LF in a gap
    ∷ record { text = 34 ∷ 97 ∷ 34 ∷ 13 ∷ 10 ∷ 43 ∷ 34 ∷ 98 ∷ 34 ∷ []; bytes = 97 ∷ 98 ∷ []; end = 9 }
    -- "//" + "/*"
    ∷ record { text = 34 ∷ 47 ∷ 47 ∷ 34 ∷ 32 ∷ 43 ∷ 32 ∷ 34 ∷ 47 ∷ 42 ∷ 34 ∷ []; bytes = 47 ∷ 47 ∷ 47 ∷ 42 ∷ []; end = 11 }
    -- "a"+"b"+"c"x
    ∷ record { text = 34 ∷ 97 ∷ 34 ∷ 43 ∷ 34 ∷ 98 ∷ 34 ∷ 43 ∷ 34 ∷ 99 ∷ 34 ∷ 120 ∷ []; bytes = 97 ∷ 98 ∷ 99 ∷ []; end = 11 }
    ∷ []

holds : T (all examples)
unfolding examples all right value_at value_here of_string joined joined_with join_turn add_to more_at after_gap after_plus added_by is_quote starts_name str_at closed_by
    str_bytes str_end escaped escapes part gap_end gap_turn after_white comment_end block_end closing pair_at run_end span in_run in_ident class_of turns is_blank are_at
    break_at to_line_end comment_close past_comment separator past_gap with first single_body double_body width column_after column_of string_at gap_to gap_at gap_and_string
    plus_and_string added_strings more_strings pieces_at blank_to_break unless trim_ends trim_starts trimmed escape joining unescaped meaning meanings ending_at meant
    rfc_value odd_white one_line legal plain legal_in every found plain_at legal_at
holds = tt

-- ---- where neither gives a value

silent : List ℕ → Bool
silent s = agree (value_at s 0) nothing && same_read (rfc_value s 0) nothing

all_silent : List (List ℕ) → Bool
all_silent [] = true
all_silent (s ∷ ss) = silent s && all_silent ss

silences : List (List ℕ)
silences =
    -- "a with no end
    (34 ∷ 97 ∷ [])
    -- "a\" with no end
    ∷ (34 ∷ 97 ∷ 92 ∷ 34 ∷ [])
    -- nothing
    ∷ []
    -- +"a"
    ∷ (43 ∷ 34 ∷ 97 ∷ 34 ∷ [])
    -- a comment that never closes
    ∷ (47 ∷ 42 ∷ 34 ∷ 97 ∷ 34 ∷ [])
    ∷ []

still : T (all_silent silences)
unfolding silences all_silent silent value_at value_here of_string joined joined_with join_turn add_to more_at after_gap after_plus added_by is_quote starts_name str_at
    closed_by str_bytes str_end escaped escapes part gap_end gap_turn after_white comment_end block_end closing pair_at run_end span in_run in_ident class_of turns is_blank
    are_at break_at to_line_end comment_close past_comment separator past_gap with first single_body double_body width column_after column_of string_at gap_to gap_at
    gap_and_string plus_and_string added_strings more_strings pieces_at blank_to_break unless trim_ends trim_starts trimmed escape joining unescaped meaning meanings
    ending_at meant rfc_value
still = tt
