-- The equality at work: a quoted value with a comment of each kind, with the conditions met, so that what the RFC reads is what we read.
-- Assumes nothing.
use mathlib.Core.Path.{◌≡◌, refl}
use mathlib.Core.List.{List, [], ◌∷◌}
use Prim.Native.Nat.{ℕ}
use Rattle.text.specs.Class.{class_of}
use Rattle.text.specs.Keyword.{part}
use Rattle.text.specs.Scan.{in_ident, in_run, span, run_end, pair_at, closing, block_end, comment_end, after_white, gap_turn, gap_end}
use Rattle.text_string.specs.Str.{is_quote, escaped, escapes, str_end, str_bytes, closed_by, str_at}
use Rattle.text_value.specs.Value.{starts_name, added_by, after_plus, after_gap, more_at, add_to, join_turn, joined_with, joined, of_string, value_here, value_at}
use Rattle.text_value.specs.Value.{value}
use Rattle.text.specs.Turns.{turns}
use Rattle.demands_rfc.specs.Rfc.{reads, is_blank, are_at, break_at, to_line_end, comment_close, rfc_value}
use Rattle.demands_rfc.specs.RfcDomain.{one_line, legal}
use Rattle.demands_rfc.specs.RfcQuoted.{plain_white, done, white, line, block, last, more, Quoted}
use Rattle.demands_rfc.proofs.RfcEquality.{rfc_equality}

-- "a", a blank, /*c*/, a line break, +, //d up to the end of the line, 'b', ;
abbrev text : List ℕ
text = 34 ∷ 97 ∷ 34 ∷ 32 ∷ 47 ∷ 42 ∷ 99 ∷ 42 ∷ 47 ∷ 10 ∷ 43 ∷ 47 ∷ 47 ∷ 100 ∷ 10 ∷ 39 ∷ 98 ∷ 39 ∷ 59 ∷ []

quoted : Quoted text 0
unfolding value_at value_here of_string joined joined_with join_turn add_to more_at after_gap after_plus added_by is_quote starts_name str_at closed_by str_bytes str_end
    escaped escapes part gap_end gap_turn after_white comment_end block_end closing pair_at run_end span in_run in_ident class_of turns is_blank are_at break_at to_line_end
    comment_close plain_white one_line legal
quoted =
    record {
      gap = done refl;
      end = 3;
      string = record { quoted = refl; bytes = 97 ∷ []; closes = refl; unbroken = λ d. refl; legally = λ d. refl };
      added =
          more (white refl (block refl refl (white refl (done refl)))) refl (line refl (white refl (done refl)))
          (record { quoted = refl; bytes = 98 ∷ []; closes = refl; unbroken = λ d. refl; legally = λ d. refl })
          (last {at = 18} (done refl) refl);
    }

same : (bs : List ℕ) × (end : ℕ) × (rfc_value text 0 ≡ reads bs end) × (value_at text 0 ≡ value bs end)
same = rfc_equality.same text 0 quoted

read : value_at text 0 ≡ value (97 ∷ 98 ∷ []) 18
unfolding value_at value_here of_string joined joined_with join_turn add_to more_at after_gap after_plus added_by is_quote starts_name str_at closed_by str_bytes str_end
    escaped escapes part gap_end gap_turn after_white comment_end block_end closing pair_at run_end span in_run in_ident class_of turns
read = refl
