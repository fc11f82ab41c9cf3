-- Line breaks in double quotes by the RFC, one list and one claim: the RFC reads these bytes up to this place.
-- Assumes nothing.
use mathlib.Core.Bool.{Bool, true, ◌&&◌}
use mathlib.Core.List.{List, [], ◌∷◌}
use Prim.Native.Nat.{ℕ}
use lib.Dec.{T}
use Rattle.text.specs.Turns.{turns}
use Rattle.demands_rfc.specs.Rfc.{reads, is_blank, are_at, break_at, to_line_end, comment_close, past_comment, separator, past_gap, with, first, single_body}
use Rattle.demands_rfc.specs.Rfc.{double_body, width, column_after, column_of, string_at, gap_to, gap_at, gap_and_string, plus_and_string, added_strings}
use Rattle.demands_rfc.specs.Rfc.{more_strings, pieces_at, blank_to_break, unless, trim_ends, trim_starts, trimmed, escape, joining, unescaped, meaning}
use Rattle.demands_rfc.specs.Rfc.{meanings, ending_at, meant, rfc_value}
use Rattle.demands_rfc.proofs.RfcSame.{same_read}

record Example : Type 0 where
  text : List ℕ
  bytes : List ℕ
  end : ℕ

all : List Example → Bool
all [] = true
all (x ∷ xs) = same_read (rfc_value x.text 0) (reads x.bytes x.end) && all xs

examples : List Example
examples =
    -- the RFC's own: two blanks beyond the column of the quote
    record {
      text = 32 ∷ 32 ∷ 32 ∷ 32 ∷ 32 ∷ 34 ∷ 102 ∷ 105 ∷ 114 ∷ 115 ∷ 116 ∷ 32 ∷ 108 ∷ 105 ∷ 110 ∷ 101 ∷ 10 ∷ 32 ∷ 32 ∷ 32 ∷ 32 ∷ 32 ∷ 32 ∷ 32 ∷ 32 ∷ 115
          ∷ 101 ∷ 99 ∷ 111 ∷ 110 ∷ 100 ∷ 32 ∷ 108 ∷ 105 ∷ 110 ∷ 101 ∷ 34 ∷ [];
      bytes = 102 ∷ 105 ∷ 114 ∷ 115 ∷ 116 ∷ 32 ∷ 108 ∷ 105 ∷ 110 ∷ 101 ∷ 10 ∷ 32 ∷ 32
          ∷ 115 ∷ 101 ∷ 99 ∷ 111 ∷ 110 ∷ 100 ∷ 32 ∷ 108 ∷ 105 ∷ 110 ∷ 101 ∷ [];
      end = 37;
    }
    -- blanks and tabs before the break
    ∷ record { text = 34 ∷ 97 ∷ 32 ∷ 9 ∷ 10 ∷ 32 ∷ 98 ∷ 34 ∷ []; bytes = 97 ∷ 10 ∷ 98 ∷ []; end = 8 }
    -- one column is taken away
    ∷ record { text = 34 ∷ 97 ∷ 10 ∷ 32 ∷ 32 ∷ 98 ∷ 34 ∷ []; bytes = 97 ∷ 10 ∷ 32 ∷ 98 ∷ []; end = 7 }
    -- up to the first other character
    ∷ record { text = 32 ∷ 32 ∷ 34 ∷ 97 ∷ 10 ∷ 32 ∷ 98 ∷ 34 ∷ []; bytes = 97 ∷ 10 ∷ 98 ∷ []; end = 8 }
    -- a tab is eight blanks, two are taken away
    ∷ record { text = 32 ∷ 34 ∷ 97 ∷ 10 ∷ 9 ∷ 98 ∷ 34 ∷ []; bytes = 97 ∷ 10 ∷ 32 ∷ 32 ∷ 32 ∷ 32 ∷ 32 ∷ 32 ∷ 98 ∷ []; end = 7 }
    -- a tab before the quote
    ∷ record { text = 9 ∷ 34 ∷ 97 ∷ 10 ∷ 9 ∷ 32 ∷ 98 ∷ 34 ∷ []; bytes = 97 ∷ 10 ∷ 98 ∷ []; end = 8 }
    -- a line of blanks
    ∷ record { text = 34 ∷ 97 ∷ 10 ∷ 32 ∷ 10 ∷ 32 ∷ 98 ∷ 34 ∷ []; bytes = 97 ∷ 10 ∷ 10 ∷ 98 ∷ []; end = 8 }
    -- CR LF
    ∷ record { text = 34 ∷ 97 ∷ 32 ∷ 13 ∷ 10 ∷ 32 ∷ 98 ∷ 34 ∷ []; bytes = 97 ∷ 13 ∷ 10 ∷ 98 ∷ []; end = 8 }
    -- the text as written: an escaped tab stays, an escaped break is no line break
    ∷ record { text = 34 ∷ 97 ∷ 92 ∷ 116 ∷ 10 ∷ 32 ∷ 98 ∷ 92 ∷ 110 ∷ 32 ∷ 99 ∷ 34 ∷ []; bytes = 97 ∷ 9 ∷ 10 ∷ 98 ∷ 10 ∷ 32 ∷ 99 ∷ []; end = 12 }
    -- each string by its own column
    ∷ record { text = 34 ∷ 97 ∷ 10 ∷ 32 ∷ 98 ∷ 34 ∷ 43 ∷ 32 ∷ 32 ∷ 34 ∷ 99 ∷ 10 ∷ 32 ∷ 98 ∷ 34 ∷ []; bytes = 97 ∷ 10 ∷ 98 ∷ 99 ∷ 10 ∷ 98 ∷ []; end = 15 }
    ∷ []

holds : T (all examples)
unfolding examples all is_blank are_at break_at to_line_end comment_close past_comment separator past_gap with first single_body double_body width column_after column_of
    string_at gap_to gap_at gap_and_string plus_and_string added_strings more_strings pieces_at blank_to_break unless trim_ends trim_starts trimmed escape joining unescaped
    meaning meanings ending_at meant rfc_value turns
holds = tt
