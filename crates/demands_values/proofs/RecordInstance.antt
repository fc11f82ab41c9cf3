-- The theorem at work on metadata: a text with all six values. Whatever store is lent, if it is long enough, each value of the record is the one that stands
-- in the text. A record whose name is one byte shorter is refused.
-- Assumes nothing.
use Rattle.std.specs.Prelude.{Some}
use Prim.Native.Nat.{ℕ}
use mathlib.Core.Path.{◌≡◌, refl, sym, ap, subst, ◌∙◌}
use mathlib.Core.Bool.{false}
use mathlib.Core.Logic.{⊎_elim}
use mathlib.Core.List.{List, [], ◌∷◌}
use native.Mathlib.Omega.{arith}
use lib.Dec.{eqb, ltb}
use lib.ListN.{length}
use borrow.Author.Tests.{eqb-true}
use Rattle.text.specs.Refusal.{is_high, refused_at}
use Rattle.text.specs.Class.{class_of}
use Rattle.text.specs.Due.{due_number, due_here, due_at}
use Rattle.text.specs.Keyword.{starts_ident, ends_keyword, same, part, keyword_at, match_at, or_match}
use Rattle.text.specs.Scan.{in_ident, in_run, span, run_end, pair_at, closing, block_end, comment_end, after_white, gap_turn, gap_end}
use Rattle.text.specs.Turns.{turns}
use Rattle.text.specs.Words.{module_word, submodule_word}
use Rattle.text.specs.declared.Cursor.{Cursor}
use Rattle.text.proofs.Here.{never}
use Rattle.text_value.specs.Argument.{argument_of, breaks_off, argument_at}
use Rattle.text_string.specs.Str.{is_quote}
use Rattle.text_value.specs.Value.{value, starts_name, value_here, value_at, value_bytes}
use Rattle.text_past.specs.Past.{past_of}
use Rattle.text_skip.specs.Skip.{closed_token, token_here, token_at, past_token}
use Rattle.text_statement.specs.Statement.{closes, quoted_len, quoted_end, at_semicolon, at_close, part_of, part_at, of_part, statement_turn, statement_from, at_other}
use Rattle.text_statement.specs.Statement.{statement_at, past_statement}
use Rattle.text_utf8.specs.Utf8.{wrong_from, char_turn, seq_len, char_len, one, two, three, second3, four, second4, tail}
use Rattle.text_lent.specs.Lent.{lent_at}
use Rattle.text_lent.specs.Padded.{padded}
use Rattle.scan_rows.specs.Rows.{span_at, marked_at, rows_of}
use Rattle.scan_rows.specs.Span.{held, value_in}
use Rattle.scan_rows.specs.declared.Span.{Span}
use Rattle.scan_newest.specs.Newest.{newer, newest_from, newest, less}
use Rattle.scan_tag.specs.Tag.{data_at, last_tag, or_tag, tag_at}
use Rattle.scan_header.specs.Header.{due_for, after_revision, after_value, passed, kept, with_rest, field_at, later_prefix, statement_said}
use Rattle.scan_header.specs.Header.{tag_said, said_here, said_at}
use Rattle.scan_metadata.specs.Metadata.{Metadata, told, first_of, values_of, good, ended, after_heard, metadata_turn, scan_from, scanned, if_fit, metadata}
use Rattle.scan_metadata.specs.Metadata.{answer_of, kept_of}
use Rattle.host_words.specs.Words.{record_words}
use Rattle.nuvaleta.specs.Record.{MetadataAnswered}
use Rattle.demands_values.specs.Behind.{RecordRead}
use Rattle.demands_values.specs.Demand2.{record_in}
use Rattle.demands_values.proofs.Demand2.{demand2}
use Rattle.demands_values.proofs.Once.{below, unmatched, met_where}

-- module ab{namespace n;prefix p;belongs-to m{}revision 1;revision 2;prefix q;}
abbrev text : List ℕ
text =
    109 ∷ 111 ∷ 100 ∷ 117 ∷ 108 ∷ 101 ∷ 32 ∷ 97 ∷ 98 ∷ 123 ∷ 110 ∷ 97 ∷ 109 ∷ 101 ∷ 115 ∷ 112 ∷ 97 ∷ 99 ∷ 101 ∷ 32 ∷ 110 ∷ 59 ∷ 112 ∷ 114 ∷ 101 ∷ 102
    ∷ 105 ∷ 120 ∷ 32 ∷ 112 ∷ 59 ∷ 98 ∷ 101 ∷ 108 ∷ 111 ∷ 110 ∷ 103 ∷ 115 ∷ 45 ∷ 116 ∷ 111 ∷ 32 ∷ 109 ∷ 123 ∷ 125 ∷ 114 ∷ 101 ∷ 118 ∷ 105 ∷ 115 ∷ 105
    ∷ 111 ∷ 110 ∷ 32 ∷ 49 ∷ 59 ∷ 114 ∷ 101 ∷ 118 ∷ 105 ∷ 115 ∷ 105 ∷ 111 ∷ 110 ∷ 32 ∷ 50 ∷ 59 ∷ 112 ∷ 114 ∷ 101 ∷ 102 ∷ 105 ∷ 120 ∷ 32 ∷ 113 ∷ 59
    ∷ 125 ∷ []

-- abnpm12
abbrev stored : List ℕ
stored = 97 ∷ 98 ∷ 110 ∷ 112 ∷ 109 ∷ 49 ∷ 50 ∷ []

-- name, namespace, prefix, first revision, parent, newest; x: the name
abbrev values_with : Span → List Span
values_with x = x ∷ held 2 1 ∷ held 3 1 ∷ held 5 1 ∷ held 4 1 ∷ held 6 1 ∷ []

abbrev read : Metadata
read = record {
  name = held 0 2;
  namespace = held 2 1;
  prefix = held 3 1;
  parent = held 4 1;
  revisions = record { span = held 5 1; value = 49 ∷ [] }
      ∷ record { span = held 6 1; value = 50 ∷ [] } ∷ [];
  bytes = stored;
}

scan : metadata false text false ≡ good read
unfolding metadata if_fit scanned scan_from metadata_turn after_heard ended told past_of past_token past_statement due_for after_revision after_value passed kept with_rest
    field_at later_prefix statement_said tag_said said_here said_at data_at last_tag or_tag tag_at lent_at or_match argument_of breaks_off argument_at is_quote starts_name
    value_here value_at value_bytes closed_token token_here token_at closes quoted_len quoted_end at_semicolon at_close part_of part_at of_part statement_turn statement_from
    statement_at due_number due_here due_at starts_ident ends_keyword same part keyword_at match_at gap_end gap_turn after_white comment_end block_end closing pair_at run_end
    span in_run in_ident class_of turns refused_at is_high at_other
    wrong_from char_turn seq_len char_len one two three second3 four second4 tail
scan = refl

-- what the call answers and leaves
module _ (d : List ℕ) (long : ltb (length d) (length text) ≡ false) {n : ℕ} {e w a : List ℕ} (l : MetadataAnswered false text d n e w a) where
  called : metadata false text (ltb (length d) (length text)) ≡ good read
  called = ap (metadata false text) long ∙ scan

  record_left : record_in w ≡ values_with (held 0 2)
  unfolding answer_of values_of first_of newest newest_from newer less record_words rows_of marked_at span_at
  record_left = ap record_in (l.words ∙ ap (λ x. record_words (answer_of x).values) called)

  answered : n ≡ 0
  unfolding answer_of
  answered = l.number ∙ ap (λ x. (answer_of x).answer.number) called

  record_read : RecordRead text e (values_with (held 0 2))
  record_read = subst (RecordRead text e) record_left (demand2.host_metadata false text d l answered)

  -- ab, n, p, 1, m, 2
  values : (value_in e (held 0 2) ≡ 97 ∷ 98 ∷ []) × (value_in e (held 2 1) ≡ 110 ∷ []) × (value_in e (held 3 1) ≡ 112 ∷ [])
      × (value_in e (held 5 1) ≡ 49 ∷ []) × (value_in e (held 4 1) ≡ 109 ∷ []) × (value_in e (held 6 1) ≡ 50 ∷ [])
  unfolding kept_of padded value_in
  values = let k = l.stored ∙ ap (λ x. padded (length d) (kept_of x)) called in rw k (refl, refl, refl, refl, refl, refl)

-- ---- a record whose name is one byte shorter

module_once : (p : ℕ) (c : Cursor) → match_at text p module_word ≡ Some c → c.at ≡ 6
unfolding below unmatched starts_ident ends_keyword same part keyword_at match_at run_end span in_run in_ident class_of
module_once p c m =
    let e : p ≡ 0 = eqb-true p 0 (met_where text module_word (λ p. eqb p 0) refl p c m) in
    let q : Some (record { at = 6 }) ≡ Some c = ap (λ z. match_at text z module_word) (sym e) ∙ m in
    cc

submodule_never : (p : ℕ) (c : Cursor) → match_at text p submodule_word ≡ Some c → ⊥
unfolding below unmatched starts_ident ends_keyword same part keyword_at match_at run_end span in_run in_ident class_of
submodule_never p c m = never refl (met_where text submodule_word (λ p. false) refl p c m)

name_read : value_at text 6 ≡ value (97 ∷ 98 ∷ []) 9
unfolding value_at value_here is_quote starts_name part gap_end gap_turn after_white comment_end block_end closing pair_at run_end span in_run in_ident class_of turns
name_read = refl

refused : RecordRead text stored (values_with (held 0 1)) → ⊥
unfolding value_in
refused r =
    let b = r.name.met.value in
    let p = gap_end text r.name.met.state.at in
    ⊎_elim
    (λ e. let at = module_once p b.after (ap (match_at text p) (sym e) ∙ b.matched) in
    let q : value (97 ∷ 98 ∷ []) 9 ≡ value (97 ∷ []) b.end = sym name_read ∙ ap (value_at text) (sym at) ∙ b.read in
    let z : ◌≡◌ {A = List ℕ} (97 ∷ 98 ∷ []) (97 ∷ []) = cc in
    omega (arith, ap length z))
    (λ e. submodule_never p b.after (ap (match_at text p) (sym e) ∙ b.matched)) r.name.either
