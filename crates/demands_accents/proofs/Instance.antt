-- The theorem at work: a text with an accent in each kind of quotes. Whatever is lent, if it is long enough, the call answers one import, whose name and prefix
-- are these accents. And what it rules out: a character's first byte alone is not valid, and a text that holds it so has it for a value.
-- Assumes nothing.
use Rattle.std.specs.Prelude.{Ok, Result}
use Prim.Native.Nat.{ℕ}
use native.Mathlib.Omega.{arith}
use mathlib.Core.Path.{◌≡◌, refl, ap, subst, ◌∙◌}
use mathlib.Core.Bool.{false}
use mathlib.Core.List.{List, [], ◌∷◌}
use lib.ListN.{length, take}
use Rattle.text.specs.Class.{class_of}
use Rattle.text.specs.Due.{due_number, due_here, due_at}
use Rattle.text.specs.Keyword.{starts_ident, ends_keyword, same, part, keyword_at, match_at, or_match}
use Rattle.text.specs.Refusal.{is_high, refused_at}
use Rattle.text.specs.Scan.{in_ident, in_run, span, run_end, pair_at, closing, block_end, comment_end, after_white, gap_turn, gap_end}
use Rattle.text.specs.Turns.{turns}
use Rattle.text_past.specs.Past.{past_of}
use Rattle.text_string.specs.Str.{is_quote, escaped, escapes, str_end, str_bytes, closed_by, str_at}
use Rattle.text_utf8.specs.Utf8.{tail, one, two, second3, three, second4, four, char_len, seq_len, char_turn, wrong_from}
use Rattle.text_value.specs.Argument.{argument_of, breaks_off, argument_at, after_due, after_argument, line_at}
use Rattle.text_value.specs.Value.{starts_name, added_by, after_plus, after_gap, more_at, add_to, join_turn, joined_with, joined as joinedValue, of_string}
use Rattle.text_value.specs.Value.{value, value_here, value_at, value_bytes}
use Rattle.text_skip.specs.Skip.{closed_token, token_here, token_at, past_token}
use Rattle.text_statement.specs.Statement.{closes, quoted_len, quoted_end, at_semicolon, at_close, part_of, part_at, of_part, statement_turn, statement_from, at_other}
use Rattle.text_statement.specs.Statement.{statement_at, past_statement}
use Rattle.text_lent.specs.Lent.{lent_at}
use Rattle.text_lent.specs.Padded.{padded}
use Rattle.scan_rows.specs.Rows.{import_words, table, import_table, span_at, marked_at, import_at as importIn}
use Rattle.scan_rows.specs.Short.{is_too_short}
use Rattle.scan_rows.specs.Span.{held, missing, value_in}
use Rattle.scan_rows.specs.declared.YangImport.{YangImport}
use Rattle.scan_block.specs.Block.{or_line, line_kind, kept, with_value, with_skipped, after_kind, inside_here, inside_at, after_inside, block_turn, block_from, block_at}
use Rattle.scan_imports.specs.Statement.{of_body, import_of, with_name, after_name, import_at, include_of, plain_of, block_of, open_or_plain, after_value, include_at}
use Rattle.scan_head.specs.Head.{last_at, or_head, head_at}
use Rattle.yangparser.specs.Dependencies.{import_words_of, joined, import_step, include_step, unless_full, import_here, include_here, moved_to, after_token, head_step}
use Rattle.yangparser.specs.Dependencies.{step_here, step_at, good, after_step, scan_turn, scan_from, scanned, if_fit, dependencies, parsed_of, Dependencies, kept_of}
use Rattle.yangparser.specs.Promises.{Extracts}
use Rattle.yangparser.specs.declared.Rows.{Rows}
use Rattle.demands_accents.specs.Valid.{Valid}
use Rattle.demands_accents.specs.ValuesValid.{ImportValid, RowsValid}
use Rattle.demands_accents.proofs.StoreValid.{store_valid}
use Rattle.demands_accents.proofs.ValuesValid.{values_valid}
use Rattle.text.specs.declared.Refusal.{Refusal}

-- import "é"{prefix 'ü';}
abbrev text : List ℕ
text =
    105 ∷ 109 ∷ 112 ∷ 111 ∷ 114 ∷ 116 ∷ 32 ∷ 34 ∷ 195 ∷ 169 ∷ 34 ∷ 123 ∷ 112 ∷ 114 ∷ 101 ∷ 102 ∷ 105 ∷ 120 ∷ 32 ∷ 39 ∷ 195 ∷ 188 ∷ 39 ∷ 59 ∷ 125 ∷ []

-- éü
abbrev stored : List ℕ
stored = 195 ∷ 169 ∷ 195 ∷ 188 ∷ []

abbrev row : YangImport
row = record { module_name = held 0 2; prefix = held 2 2; revision_date = missing }

abbrev read : Dependencies
read = record { imports = row ∷ []; includes = []; bytes = stored }

scan : dependencies false text false ≡ good read
unfolding joined import_step include_step unless_full import_here include_here moved_to after_token past_of past_token past_statement head_step step_here step_at after_step
    scan_turn scan_from scanned lent_at if_fit dependencies or_match last_at or_head head_at or_line line_kind with_value kept with_skipped after_kind inside_here inside_at
    after_inside block_turn block_from block_at of_body import_of with_name after_name import_at include_of plain_of block_of open_or_plain after_value include_at argument_of
    breaks_off argument_at after_due after_argument line_at escaped escapes str_end str_bytes closed_by str_at is_quote starts_name added_by after_plus after_gap more_at add_to
    join_turn joined_with joinedValue of_string value_here value_at value_bytes closed_token token_here token_at closes quoted_len quoted_end at_semicolon at_close part_of
    part_at of_part statement_turn statement_from statement_at due_number due_here due_at starts_ident ends_keyword same part keyword_at match_at gap_end gap_turn after_white
    comment_end block_end closing pair_at run_end span in_run in_ident class_of turns refused_at is_high at_other wrong_from char_turn seq_len char_len one two three second3
    four second4 tail
scan = refl

-- what the call answers and leaves
module _ (d t u : List ℕ) (long : is_too_short false (length text) (length d) (length t) (length u) ≡ false) {r : Result Rows Refusal} {e f g : List ℕ}
    (l : Extracts false text false d t u r e f g) where
  called : dependencies false text (is_too_short false (length text) (length d) (length t) (length u)) ≡ good read
  called = ap (dependencies false text) long ∙ scan

  answered : r ≡ Ok (record { imports = 1; includes = 0; used = 4 })
  unfolding parsed_of
  answered = l.answer ∙ ap parsed_of called

  rows : RowsValid e f 1 g 0
  rows = values_valid.dependencies false text false d t u l 1 0 4 answered

  left : importIn f 0 ≡ row
  unfolding kept_of import_words_of import_table table import_words padded importIn span_at marked_at
  left = ap (λ w. importIn w 0) (l.imports ∙ ap (λ x. padded (length t) (import_words_of (kept_of x))) called)

  row_valid : ImportValid e row
  row_valid = subst (ImportValid e) left (rows.imports 0 (omega arith))

  -- é, ü
  values : (value_in e (held 0 2) ≡ 195 ∷ 169 ∷ []) × (value_in e (held 2 2) ≡ 195 ∷ 188 ∷ [])
  unfolding kept_of padded value_in
  values = let k = l.stored ∙ ap (λ x. padded (length d) (kept_of x).bytes) called in rw k (refl, refl)

  all_valid : Valid (take 4 e)
  all_valid = store_valid.dependencies false text false d t u l 1 0 4 answered

-- a backslash goes, and the character behind it stays whole: "\é"
abbrev behind_backslash : List ℕ
behind_backslash = 34 ∷ 92 ∷ 195 ∷ 169 ∷ 34 ∷ []

whole_character : value_at behind_backslash 0 ≡ value (195 ∷ 169 ∷ []) 5
unfolding value_at value_here of_string joinedValue joined_with join_turn add_to more_at after_gap after_plus added_by is_quote starts_name str_at closed_by str_bytes str_end
    escaped escapes part gap_end gap_turn after_white comment_end block_end closing pair_at run_end span in_run in_ident class_of turns
whole_character = refl

-- ---- the text has to be valid: a string with the first byte of é alone

abbrev cut_text : List ℕ
cut_text = 34 ∷ 195 ∷ 34 ∷ []

cut_read : value_at cut_text 0 ≡ value (195 ∷ []) 3
unfolding value_at value_here of_string joinedValue joined_with join_turn add_to more_at after_gap after_plus added_by is_quote starts_name str_at closed_by str_bytes str_end
    escaped escapes part gap_end gap_turn after_white comment_end block_end closing pair_at run_end span in_run in_ident class_of turns
cut_read = refl

cut_wrong : (wrong_from cut_text 0 ≡ 1) × (wrong_from (195 ∷ []) 0 ≡ 0)
unfolding wrong_from char_turn seq_len char_len one two three second3 four second4 tail turns
cut_wrong = (refl, refl)

cut_refused : Valid (195 ∷ []) → ⊥
cut_refused v = omega (arith, cut_wrong.1)
