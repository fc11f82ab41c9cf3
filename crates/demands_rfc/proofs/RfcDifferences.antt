-- For each condition of the equality a text that breaks it, one list and one claim: our value, the RFC's, and that they differ.
-- Assumes nothing.
use mathlib.Core.Bool.{Bool, true, false, not, ◌&&◌}
use mathlib.Core.List.{List, [], ◌∷◌}
use Prim.Native.Nat.{ℕ}
use lib.Dec.{T}
use Rattle.text.specs.Class.{class_of}
use Rattle.text.specs.Keyword.{part}
use Rattle.text.specs.Scan.{in_ident, in_run, span, run_end, pair_at, closing, block_end, comment_end, after_white, gap_turn, gap_end}
use Rattle.text_string.specs.Str.{is_quote, escaped, escapes, str_end, str_bytes, closed_by, str_at}
use Rattle.text_value.specs.Value.{starts_name, added_by, after_plus, after_gap, more_at, add_to, join_turn, joined_with, joined, of_string, value_here, value_at}
use Rattle.text_value.specs.Value.{Val, value}
use Rattle.text.specs.Turns.{turns}
use Rattle.demands_rfc.specs.Rfc.{Read, reads, nothing, is_blank, are_at, break_at, to_line_end, comment_close, past_comment, separator, past_gap, with, first}
use Rattle.demands_rfc.specs.Rfc.{single_body, double_body, width, column_after, column_of, string_at, gap_to, gap_at, gap_and_string, plus_and_string, added_strings}
use Rattle.demands_rfc.specs.Rfc.{more_strings, pieces_at, blank_to_break, unless, trim_ends, trim_starts, trimmed, escape, joining, unescaped, meaning}
use Rattle.demands_rfc.specs.Rfc.{meanings, ending_at, meant, rfc_value}
use Rattle.demands_rfc.specs.RfcDomain.{odd_white, one_line, legal, plain, legal_in, every, found, plain_at, legal_at}
use Rattle.demands_rfc.proofs.RfcSame.{same_bool, same_val, same_read, agree}

-- `plainly` and `legally` say which of the conditions on the pieces hold
record Difference : Type 0 where
  text : List ℕ
  ours : Val
  rfc : Read (List ℕ)
  plainly : Bool
  legally : Bool

differ : Difference → Bool
differ x =
    same_val (value_at x.text 0) x.ours && same_read (rfc_value x.text 0) x.rfc && not (agree x.ours x.rfc)
    && same_bool (plain_at x.text 0) x.plainly && same_bool (legal_at x.text 0) x.legally

all : List Difference → Bool
all [] = true
all (x ∷ xs) = differ x && all xs

differences : List Difference
differences =
    -- an added string that never closes: "a"+"b
    record { text = 34 ∷ 97 ∷ 34 ∷ 43 ∷ 34 ∷ 98 ∷ []; ours = value (97 ∷ []) 6; rfc = nothing; plainly = false; legally = false }
    -- a + with no string after it: "a" + b
    ∷ record { text = 34 ∷ 97 ∷ 34 ∷ 32 ∷ 43 ∷ 32 ∷ 98 ∷ []; ours = value (97 ∷ []) 6; rfc = nothing; plainly = false; legally = false }
    -- byte 11 in a gap: "a", 11, +"b"
    ∷ record { text = 34 ∷ 97 ∷ 34 ∷ 11 ∷ 43 ∷ 34 ∷ 98 ∷ 34 ∷ []; ours = value (97 ∷ 98 ∷ []) 8; rfc = reads (97 ∷ []) 3; plainly = false; legally = true }
    -- byte 12 in a gap
    ∷ record { text = 34 ∷ 97 ∷ 34 ∷ 12 ∷ 43 ∷ 34 ∷ 98 ∷ 34 ∷ []; ours = value (97 ∷ 98 ∷ []) 8; rfc = reads (97 ∷ []) 3; plainly = false; legally = true }
    -- byte 13 on its own in a gap
    ∷ record { text = 34 ∷ 97 ∷ 34 ∷ 13 ∷ 43 ∷ 34 ∷ 98 ∷ 34 ∷ []; ours = value (97 ∷ 98 ∷ []) 8; rfc = reads (97 ∷ []) 3; plainly = false; legally = true }
    -- byte 11 after the +
    ∷ record { text = 34 ∷ 97 ∷ 34 ∷ 43 ∷ 11 ∷ 34 ∷ 98 ∷ 34 ∷ []; ours = value (97 ∷ 98 ∷ []) 8; rfc = nothing; plainly = false; legally = false }
    -- byte 11 before the value
    ∷ record { text = 11 ∷ 34 ∷ 97 ∷ 34 ∷ []; ours = value (97 ∷ []) 4; rfc = nothing; plainly = false; legally = false }
    -- byte 11 after the value: the bytes are the same, the place after them is not
    ∷ record { text = 34 ∷ 97 ∷ 34 ∷ 11 ∷ []; ours = value (97 ∷ []) 4; rfc = reads (97 ∷ []) 3; plainly = false; legally = true }
    -- a comment that never closes
    ∷ record { text = 34 ∷ 97 ∷ 34 ∷ 47 ∷ 42 ∷ []; ours = value (97 ∷ []) 5; rfc = nothing; plainly = false; legally = false }
    -- a line break in double quotes, with blanks after it
    ∷ record {
      text = 34 ∷ 97 ∷ 10 ∷ 32 ∷ 32 ∷ 98 ∷ 34 ∷ [];
      ours = value (97 ∷ 10 ∷ 32 ∷ 32 ∷ 98 ∷ []) 7;
      rfc = reads
          (97 ∷ 10 ∷ 32 ∷ 98 ∷ []) 7;
      plainly = false;
      legally = true;
    }
    -- a line break in double quotes, with a blank before it
    ∷ record {
      text = 34 ∷ 97 ∷ 32 ∷ 10 ∷ 98 ∷ 34 ∷ [];
      ours = value (97 ∷ 32 ∷ 10 ∷ 98 ∷ []) 6;
      rfc = reads
          (97 ∷ 10 ∷ 98 ∷ []) 6;
      plainly = false;
      legally = true;
    }
    -- an illegal escape: "\x"
    ∷ record { text = 34 ∷ 92 ∷ 120 ∷ 34 ∷ []; ours = value (120 ∷ []) 4; rfc = nothing; plainly = true; legally = false }
    ∷ []

holds : T (all differences)
unfolding differences all differ value_at value_here of_string joined joined_with join_turn add_to more_at after_gap after_plus added_by is_quote starts_name str_at
    closed_by str_bytes str_end escaped escapes part gap_end gap_turn after_white comment_end block_end closing pair_at run_end span in_run in_ident class_of turns is_blank
    are_at break_at to_line_end comment_close past_comment separator past_gap with first single_body double_body width column_after column_of string_at gap_to gap_at
    gap_and_string plus_and_string added_strings more_strings pieces_at blank_to_break unless trim_ends trim_starts trimmed escape joining unescaped meaning meanings
    ending_at meant rfc_value odd_white one_line legal plain legal_in every found plain_at legal_at
holds = tt
