-- The calls in the whole-text mode beside the old ones: what the scans are side by side, in words. The readings are computed.
-- Assumes nothing.
use Prim.Native.Nat.{ℕ}
use mathlib.Core.Path.{◌≡◌, refl, sym, ap, ap₂, subst, ◌∙◌}
use mathlib.Core.Bool.{Bool, true, false}
use mathlib.Core.Logic.{◌⊎◌, inl, inr}
use mathlib.Core.List.{List, [], ◌∷◌, ◌++◌, Memᴰ}
use native.Mathlib.Omega.{arith}
use lib.Dec.{T, ltb}
use lib.ListN.{length}
use Rattle.text.specs.Class.{class_of}
use Rattle.text.specs.Due.{due_number, due_here, due_at}
use Rattle.text.specs.Keyword.{starts_ident, ends_keyword, same, part, keyword_at, match_at, or_match}
use Rattle.text.specs.Refusal.{cut_at, is_high, refused_at}
use Rattle.text.specs.Scan.{in_ident, in_run, span, run_end, pair_at, closing, block_end, comment_end, after_white, gap_turn, gap_end}
use Rattle.text.specs.Turns.{turns}
use Rattle.text.specs.declared.Refusal.{Refusal}
use Rattle.text_value.specs.Argument.{argument_of, breaks_off, argument_at, after_due, after_argument, line_at}
use Rattle.text_string.specs.Str.{is_quote, escaped, escapes, str_end, str_bytes, closed_by, str_at}
use Rattle.text_value.specs.Value.{starts_name, added_by, after_plus, after_gap, more_at, add_to, join_turn, joined_with, joined as joinedValue, of_string}
use Rattle.text_value.specs.Value.{value_here, value_at, value_bytes, place_of, closed_more, closed_turn, closed_from, closed_string, closed_here, closed_at}
use Rattle.text_past.specs.Past.{broke_off, past_of}
use Rattle.text_skip.specs.Skip.{closed_token, token_here, token_at, past_token, skipped_at, past_value}
use Rattle.text_statement.specs.Statement.{closes, quoted_len, quoted_end, at_semicolon, at_close, part_of, part_at, of_part, statement_turn, statement_from, at_other}
use Rattle.text_statement.specs.Statement.{statement_at, past_statement}
use Rattle.text_utf8.specs.Utf8.{wrong_from, char_turn, seq_len, char_len, one, two, three, second3, four, second4, tail}
use Rattle.text_lent.specs.Lent.{lent_at}
use Rattle.scan_newest.specs.Newest.{newer, newest_from, newest, less}
use Rattle.scan_header.specs.Header.{due_for, after_revision, after_value as afterHeaderValue, passed, kept, with_rest, field_at, after_skipped, later_prefix}
use Rattle.scan_header.specs.Header.{statement_said, tag_said, said_here, said_at}
use Rattle.scan_tag.specs.Tag.{data_at, last_tag, or_tag, tag_at}
use Rattle.scan_metadata.specs.Metadata as Metadata
use Rattle.scan_metadata.specs.Metadata.{told, first_of, values_of, ended, after_heard, metadata_turn, metadata}
use Rattle.scan_block.specs.Block.{or_line, line_kind, kept as keptLine, with_value, with_skipped, after_kind, inside_here, inside_at, after_inside, block_turn}
use Rattle.scan_block.specs.Block.{block_from, block_at}
use Rattle.scan_imports.specs.Statement.{of_body, import_of, with_name, after_name, import_at, include_of, plain_of, block_of, open_or_plain, after_value, include_at}
use Rattle.yangparser.specs.Dependencies.{joined, import_step, include_step, unless_full, import_here, include_here, moved_to, after_token, head_step, step_here, step_at}
use Rattle.yangparser.specs.Dependencies.{after_step, scan_turn, scan_from, scanned, if_fit, dependencies, Scan, good, bad, page_short, parsed_of}
use Rattle.scan_head.specs.Head.{last_at, or_head, head_at}
use Rattle.scan_rows.specs.Short.{is_too_short}
use Rattle.scan_page.specs.Page.{page_of}
use Rattle.host_words.specs.Words.{record_words}
use Rattle.nuvaleta.specs.Words.{number_of, answer_words}
use Rattle.nuvaleta.specs.Host.{Answered, AnsweredPage}
use Rattle.nuvaleta.specs.Record.{Described}
use Rattle.demands_scans.specs.Whole.{told_dependencies, told_metadata, WholeOrOld, same as asBefore, cut, old_dependencies, old_metadata}
use Rattle.demands_scans.proofs.WholeDependencies.{dependencies_whole}
use Rattle.demands_scans.proofs.WholeMetadata.{metadata_whole}
use Rattle.demands_scans.proofs.WholeNumbers.{old_mode}
use Rattle.demands.specs.Accents.{accents}
use Rattle.demands.specs.Whole.{answer, holds, all, readings, WholeMode}
use Rattle.demands.proofs.Outcomes.{leaves_one, filled, equals}

-- ---- dependencies

-- a scan of 11, in words
told_words : (x : Scan) (n : ℕ) → told_dependencies x ≡ cut_at n → (number_of (parsed_of x) ≡ 11) × (answer_words (parsed_of x) ≡ 11 ∷ 0 ∷ n ∷ 0 ∷ 0 ∷ 0 ∷ [])
    × (page_of x ≡ [])
unfolding number_of parsed_of answer_words page_of
told_words (good d) n h = absurd (omega (arith, ap (λ (q : Refusal). q.number) h))
told_words (bad r d) n h = (ap (λ q. q.number) h, ap (λ q. q.number ∷ q.keyword ∷ q.at ∷ 0 ∷ 0 ∷ 0 ∷ []) h, refl)

-- the number that a scan tells is the one returned
told_number : (x : Scan) → (told_dependencies x).number ≡ number_of (parsed_of x)
unfolding number_of parsed_of
told_number (good d) = refl
told_number (bad r d) = refl

among : (ns : List ℕ) (x : Scan) {n : ℕ} → Memᴰ (told_dependencies x).number ns → n ≡ number_of (parsed_of x) → Memᴰ n ns
among ns x m e = subst (λ i. Memᴰ i ns) (told_number x ∙ sym e) m

module _ (s : List ℕ) (x y : Scan) (d t u : List ℕ) where
  calls : WholeOrOld told_dependencies old_dependencies s x y → {n n' : ℕ} {e f g a e' f' g' a' : List ℕ}
      → Answered x d t u n e f g a → Answered y d t u n' e' f' g' a'
      → ((n ≡ n') × (e ≡ e') × (f ≡ f') × (g ≡ g') × (a ≡ a'))
      ⊎ ((n ≡ 11) × (a ≡ 11 ∷ 0 ∷ length s ∷ 0 ∷ 0 ∷ 0 ∷ []) × Memᴰ n' old_dependencies)
  calls (asBefore q) h k =
      let l = leaves_one q refl refl refl h.scan k.scan in
      inl (equals (λ z. number_of (parsed_of z)) q h.number k.number, l.1, l.2, l.3, equals (λ z. answer_words (parsed_of z)) q h.answer k.answer)
  calls (cut q m) h k = let w = told_words x (length s) q in inr (h.number ∙ w.0, h.answer ∙ w.1, among old_dependencies y m k.number)

  pages : (p : List ℕ) → WholeOrOld told_dependencies old_dependencies s x y → {n n' : ℕ} {e f g i a e' f' g' i' a' : List ℕ}
      → AnsweredPage x d t u p n e f g i a → AnsweredPage y d t u p n' e' f' g' i' a'
      → ((n ≡ n') × (e ≡ e') × (f ≡ f') × (g ≡ g') × (i ≡ i') × (a ≡ a'))
      ⊎ ((n ≡ 11) × (a ≡ 11 ∷ 0 ∷ length s ∷ 0 ∷ 0 ∷ 0 ∷ 0 ∷ []) × Memᴰ n' old_dependencies)
  pages p (asBefore q) h k =
      let l = leaves_one q refl refl refl h.scan k.scan in
      inl (
        equals (λ z. number_of (parsed_of z)) q h.number k.number,
        l.1,
        l.2,
        l.3,
        filled page_of q refl h.page k.page,
        equals (λ z. answer_words (parsed_of z) ++ (length (page_of z) ∷ [])) q h.answer k.answer,
      )
  pages p (cut q m) h k =
      let w = told_words x (length s) q in
      inr (h.number ∙ w.0, h.answer ∙ ap₂ (λ v i. v ++ (length i ∷ [])) w.1 w.2, among old_dependencies y m k.number)

-- ---- metadata

record_words_lem : (x : Metadata.Scan) (n : ℕ) → told_metadata x ≡ cut_at n
    → ((Metadata.answer_of x).answer ≡ cut_at n) × ((Metadata.answer_of x).used ≡ 0)
unfolding Metadata.answer_of Metadata.refused_with
record_words_lem (Metadata.good m) n h = absurd (omega (arith, ap (λ (q : Refusal). q.number) h))
record_words_lem (Metadata.bad r bs) n h = (h, refl)

record_number : (x : Metadata.Scan) → (told_metadata x).number ≡ (Metadata.answer_of x).answer.number
unfolding Metadata.answer_of Metadata.refused_with
record_number (Metadata.good m) = refl
record_number (Metadata.bad r bs) = refl

records : (s : List ℕ) (x y : Metadata.Scan) (d : List ℕ) → WholeOrOld told_metadata old_metadata s x y → {n n' : ℕ} {e w a e' w' a' : List ℕ}
    → Described x d n e w a → Described y d n' e' w' a'
    → ((n ≡ n') × (e ≡ e') × (w ≡ w') × (a ≡ a')) ⊎ ((n ≡ 11) × (a ≡ 11 ∷ 0 ∷ length s ∷ 0 ∷ []) × Memᴰ n' old_metadata)
records s x y d (asBefore q) h k =
    inl (
      h.number ∙ ap (λ z. (Metadata.answer_of z).answer.number) q ∙ sym k.number,
      filled Metadata.kept_of q refl h.stored k.stored,
      h.words ∙ ap (λ z. record_words (Metadata.answer_of z).values) q ∙ sym k.words,
      h.answer
          ∙ ap (λ z. (Metadata.answer_of z).answer.number ∷ (Metadata.answer_of z).answer.keyword ∷ (Metadata.answer_of z).answer.at ∷ (Metadata.answer_of z).used
          ∷ []) q
          ∙ sym k.answer,
    )
records s x y d (cut q m) h k =
    let v = record_words_lem x (length s) q in
    inr (
      h.number ∙ ap (λ r. r.number) v.0,
      h.answer ∙ ap₂ (λ r i. r.number ∷ r.keyword ∷ r.at ∷ i ∷ []) v.0 v.1,
      subst (λ i. Memᴰ i old_metadata) (record_number y ∙ sym k.number) m,
    )

-- ---- all of it

-- the readings of this request and of 2026-01
pub computed : T (all readings) × T (all accents)
unfolding readings accents all holds answer metadata Metadata.if_fit Metadata.scanned Metadata.scan_from metadata_turn after_heard ended told first_of values_of newer
    newest_from newest less broke_off past_of past_token past_value past_statement skipped_at place_of breaks_off closed_at closed_here closed_string closed_from closed_turn
    closed_more due_for after_revision afterHeaderValue passed kept with_rest field_at after_skipped later_prefix statement_said tag_said said_here said_at data_at last_tag
    or_tag tag_at joined import_step include_step unless_full import_here include_here moved_to after_token head_step step_here step_at after_step scan_turn scan_from scanned
    lent_at if_fit dependencies or_match last_at or_head head_at or_line line_kind with_value keptLine with_skipped after_kind inside_here inside_at after_inside block_turn
    block_from block_at of_body import_of with_name after_name import_at include_of plain_of block_of open_or_plain after_value include_at argument_of argument_at after_due
    after_argument line_at escaped escapes str_end str_bytes closed_by str_at is_quote starts_name added_by after_plus after_gap more_at add_to join_turn joined_with
    joinedValue of_string value_here value_at value_bytes closed_token token_here token_at closes quoted_len quoted_end at_semicolon at_close part_of part_at of_part
    statement_turn statement_from statement_at due_number due_here due_at starts_ident ends_keyword same part keyword_at match_at gap_end gap_turn after_white comment_end
    block_end closing pair_at run_end span in_run in_ident class_of turns refused_at is_high at_other
    wrong_from char_turn seq_len char_len one two three second3 four second4 tail
computed = (tt, tt)

pub whole_mode : WholeMode
whole_mode = record {
  old_mode = old_mode;
  dependencies = dependencies_whole;
  metadata = metadata_whole;
  host_dependencies = λ s d t u h k.
      let short = is_too_short false (length s) (length d) (length t) (length u) in
      calls s (dependencies true s short) (dependencies false s short) d t u (dependencies_whole s short) h k;
  host_printed = λ s d t u p h k.
      let short = is_too_short (page_short (length s) (length p)) (length s) (length d) (length t) (length u) in
      pages s (dependencies true s short) (dependencies false s short) d t u p (dependencies_whole s short) h k;
  host_metadata = λ s d h k.
      let short = ltb (length d) (length s) in
      records s (metadata true s short) (metadata false s short) d (metadata_whole s short) h k;
  readings_right = computed.0;
}
