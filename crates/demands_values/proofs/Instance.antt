-- The theorem at work: a text with an import, its prefix and its revision-date, and an include with its revision-date. Whatever is lent, if it is long enough,
-- the call answers one row of each kind, and each value is the one that stands in the text. A row whose name is one byte shorter is refused, and so is one with
-- the first of two prefixes.
-- Assumes nothing.
use Rattle.std.specs.Prelude.{Some, None, Ok, Result}
use Prim.Native.Nat.{ℕ, ◌+◌, ◌-◌}
use mathlib.Core.Path.{◌≡◌, refl, sym, ap, subst, ◌∙◌}
use mathlib.Core.Bool.{false, ◌||◌}
use mathlib.Core.Logic.{◌⊎◌, inl, inr, ⊎_elim}
use mathlib.Core.List.{List, [], ◌∷◌}
use native.Mathlib.Omega.{arith}
use lib.Dec.{eqb}
use lib.ListN.{length, get_or}
use borrow.Author.Tests.{eqb-true}
use Rattle.text.specs.Refusal.{is_high, refused_at}
use Rattle.text.specs.Class.{class_of}
use Rattle.text.specs.Due.{due_number, due_here, due_at}
use Rattle.text.specs.Keyword.{starts_ident, ends_keyword, same, part, keyword_at, match_at, or_match}
use Rattle.text.specs.Scan.{in_ident, in_run, span, run_end, pair_at, closing, block_end, comment_end, after_white, gap_turn, gap_end}
use Rattle.text.specs.Turns.{on, turns}
use Rattle.text.specs.Words.{import_word, prefix_word}
use Rattle.text.specs.declared.Cursor.{Cursor}
use Rattle.text.proofs.Here.{by_test}
use Rattle.text.proofs.Laws.{gap_from}
use Rattle.text_value.specs.Argument.{argument_of, breaks_off, argument_at, after_due, after_argument, line_at}
use Rattle.text_string.specs.Str.{is_quote, escaped, escapes, str_end, str_bytes, closed_by, str_at}
use Rattle.text_value.specs.Value.{starts_name, added_by, after_plus, after_gap, more_at, add_to, join_turn, joined_with, joined as joinedValue, of_string}
use Rattle.text_value.specs.Value.{value, value_here, value_at, value_bytes}
use Rattle.text_past.specs.Past.{past_of}
use Rattle.text_skip.specs.Skip.{closed_token, token_here, token_at, past_token}
use Rattle.text_statement.specs.Statement.{closes, quoted_len, quoted_end, at_semicolon, at_close, part_of, part_at, of_part, statement_turn, statement_from, at_other}
use Rattle.text_statement.specs.Statement.{statement_at, past_statement}
use Rattle.text_utf8.specs.Utf8.{wrong_from, char_turn, seq_len, char_len, one, two, three, second3, four, second4, tail}
use Rattle.text_lent.specs.Lent.{lent_at}
use Rattle.text_lent.specs.Padded.{padded}
use Rattle.scan_rows.specs.Rows.{import_words, include_words, table, import_table, include_table, span_at, marked_at, import_at as importIn, include_at as includeIn}
use Rattle.scan_rows.specs.Short.{is_too_short}
use Rattle.scan_rows.specs.Span.{held, missing, value_in}
use Rattle.scan_rows.specs.declared.Span.{Span}
use Rattle.scan_rows.specs.declared.YangImport.{YangImport}
use Rattle.scan_rows.specs.declared.YangInclude.{YangInclude}
use Rattle.scan_block.specs.Block.{Stored, begun}
use Rattle.scan_block.specs.Block.{or_line, line_kind, kept, with_value, with_skipped, after_kind, inside_here, inside_at, after_inside, block_turn, block_from, block_at}
use Rattle.scan_imports.specs.Statement.{of_body, import_of, with_name, after_name, import_at, include_of, plain_of, block_of, open_or_plain, after_value, include_at}
use Rattle.yangparser.specs.Dependencies.{import_words_of, include_words_of, joined, import_step, include_step, unless_full, import_here, include_here, moved_to}
use Rattle.yangparser.specs.Dependencies.{after_token, head_step, step_here, step_at, good, after_step, scan_turn, scan_from, scanned, if_fit, dependencies, parsed_of}
use Rattle.yangparser.specs.Dependencies.{Dependencies, kept_of}
use Rattle.yangparser.specs.Promises.{Extracts}
use Rattle.yangparser.specs.declared.Rows.{Rows}
use Rattle.scan_head.specs.Head.{last_at, or_head, head_at}
use Rattle.demands_rfc.specs.Rfc.{reads, rfc_value}
use Rattle.demands_rfc.specs.RfcDomain.{one_line, legal}
use Rattle.demands_rfc.specs.RfcQuoted.{Quoted, plain_white, done, white, last, more}
use Rattle.demands_values.specs.Behind.{Behind, Reaches, first, next, ImportRead, IncludeRead}
use Rattle.demands_values.specs.Demand2.{RowsRead}
use Rattle.demands_values.proofs.Demand2.{demand2}
use Rattle.demands_values.proofs.Once.{below, unmatched, met_where}
use Rattle.text.specs.declared.Refusal.{Refusal}

-- import "a"+'b'{prefix o;prefix p;revision-date 1;}include c{revision-date 2;}
abbrev text : List ℕ
text =
    105 ∷ 109 ∷ 112 ∷ 111 ∷ 114 ∷ 116 ∷ 32 ∷ 34 ∷ 97 ∷ 34 ∷ 43 ∷ 39 ∷ 98 ∷ 39 ∷ 123 ∷ 112 ∷ 114 ∷ 101 ∷ 102 ∷ 105 ∷ 120 ∷ 32 ∷ 111 ∷ 59 ∷ 112 ∷ 114
    ∷ 101 ∷ 102 ∷ 105 ∷ 120 ∷ 32 ∷ 112 ∷ 59 ∷ 114 ∷ 101 ∷ 118 ∷ 105 ∷ 115 ∷ 105 ∷ 111 ∷ 110 ∷ 45 ∷ 100 ∷ 97 ∷ 116 ∷ 101 ∷ 32 ∷ 49 ∷ 59 ∷ 125 ∷ 105
    ∷ 110 ∷ 99 ∷ 108 ∷ 117 ∷ 100 ∷ 101 ∷ 32 ∷ 99 ∷ 123 ∷ 114 ∷ 101 ∷ 118 ∷ 105 ∷ 115 ∷ 105 ∷ 111 ∷ 110 ∷ 45 ∷ 100 ∷ 97 ∷ 116 ∷ 101 ∷ 32 ∷ 50 ∷ 59
    ∷ 125 ∷ []

-- abop1c2
abbrev stored : List ℕ
stored = 97 ∷ 98 ∷ 111 ∷ 112 ∷ 49 ∷ 99 ∷ 50 ∷ []

-- the name and the prefix
abbrev row_with : Span → Span → YangImport
row_with x y = record { module_name = x; prefix = y; revision_date = held 4 1 }

abbrev include_row : YangInclude
include_row = record { submodule_name = held 5 1; revision_date = held 6 1 }

abbrev read : Dependencies
read = record { imports = row_with (held 0 2) (held 3 1) ∷ []; includes = include_row ∷ []; bytes = stored }

scan : dependencies false text false ≡ good read
unfolding joined import_step include_step unless_full import_here include_here moved_to after_token past_of past_token past_statement head_step step_here step_at after_step
    scan_turn scan_from scanned lent_at if_fit dependencies or_match last_at or_head head_at or_line line_kind with_value kept with_skipped after_kind inside_here inside_at
    after_inside block_turn block_from block_at of_body import_of with_name after_name import_at include_of plain_of block_of open_or_plain after_value include_at argument_of
    breaks_off argument_at after_due after_argument line_at escaped escapes str_end str_bytes closed_by str_at is_quote starts_name added_by after_plus after_gap more_at add_to
    join_turn joined_with joinedValue of_string value_here value_at value_bytes closed_token token_here token_at closes quoted_len quoted_end at_semicolon at_close part_of
    part_at of_part statement_turn statement_from statement_at due_number due_here due_at starts_ident ends_keyword same part keyword_at match_at gap_end gap_turn after_white
    comment_end block_end closing pair_at run_end span in_run in_ident class_of turns refused_at is_high at_other
    wrong_from char_turn seq_len char_len one two three second3 four second4 tail
scan = refl

-- what the call answers and leaves
module _ (d t u : List ℕ) (long : is_too_short false (length text) (length d) (length t) (length u) ≡ false) {r : Result Rows Refusal} {e f g : List ℕ}
    (l : Extracts false text false d t u r e f g) where
  called : dependencies false text (is_too_short false (length text) (length d) (length t) (length u)) ≡ good read
  called = ap (dependencies false text) long ∙ scan

  answered : r ≡ Ok (record { imports = 1; includes = 1; used = 7 })
  unfolding parsed_of
  answered = l.answer ∙ ap parsed_of called

  rows : RowsRead text e f 1 g 1
  rows = demand2.dependencies false text false d t u l 1 1 7 answered

  -- the rows of the tables, and what the theorem says of them
  import_left : importIn f 0 ≡ (row_with (held 0 2) (held 3 1))
  unfolding kept_of import_words_of import_table table import_words padded importIn span_at marked_at
  import_left = ap (λ w. importIn w 0) (l.imports ∙ ap (λ x. padded (length t) (import_words_of (kept_of x))) called)

  include_left : includeIn g 0 ≡ include_row
  unfolding kept_of include_words_of include_table table include_words padded includeIn span_at marked_at
  include_left = ap (λ w. includeIn w 0) (l.includes ∙ ap (λ x. padded (length u) (include_words_of (kept_of x))) called)

  import_read : ImportRead text e 0 (row_with (held 0 2) (held 3 1))
  import_read = subst (ImportRead text e 0) import_left (rows.imports 0 (omega arith))

  include_read : IncludeRead text e 0 include_row
  include_read = subst (IncludeRead text e 0) include_left (rows.includes 0 (omega arith))

  -- ab, p, 1; c, 2
  values : (value_in e (held 0 2) ≡ 97 ∷ 98 ∷ []) × (value_in e (held 3 1) ≡ 112 ∷ []) × (value_in e (held 4 1) ≡ 49 ∷ [])
      × (value_in e (held 5 1) ≡ 99 ∷ []) × (value_in e (held 6 1) ≡ 50 ∷ [])
  unfolding kept_of padded value_in
  values = let k = l.stored ∙ ap (λ x. padded (length d) (kept_of x).bytes) called in rw k (refl, refl, refl, refl, refl)

-- ---- the name

import_once : (p : ℕ) (c : Cursor) → match_at text p import_word ≡ Some c → c.at ≡ 6
unfolding below unmatched starts_ident ends_keyword same part keyword_at match_at run_end span in_run in_ident class_of
import_once p c m =
    let e : p ≡ 0 = eqb-true p 0 (met_where text import_word (λ p. eqb p 0) refl p c m) in
    let q : Some (record { at = 6 }) ≡ Some c = ap (λ z. match_at text z import_word) (sym e) ∙ m in
    cc

-- it is read up to the place 14, whatever the span and the store
name_read : {p : ℕ} {store : List ℕ} {x : Span} (b : Behind text import_word p store x) → (value_in store x ≡ 97 ∷ 98 ∷ []) × (b.end ≡ 14)
unfolding value_at value_here of_string joinedValue joined_with join_turn add_to more_at after_gap after_plus added_by is_quote starts_name str_at closed_by str_bytes
    str_end escaped escapes part gap_end gap_turn after_white comment_end block_end closing pair_at run_end span in_run in_ident class_of turns
name_read {p} {store} {x} b =
    let q : value (97 ∷ 98 ∷ []) 14 ≡ value (value_in store x) b.end = ap (value_at text) (sym (import_once p b.after b.matched)) ∙ b.read in
    (cc, cc)

-- a row whose name is one byte shorter
short_refused : ImportRead text stored 0 (row_with (held 0 1) (held 3 1)) → ⊥
unfolding value_in
short_refused r = omega (arith, ap length (name_read r.name).0)

-- ---- a row with the first prefix

prefix_twice : (p : ℕ) (c : Cursor) → match_at text p prefix_word ≡ Some c → (p ≡ 15) ⊎ (p ≡ 24)
unfolding below unmatched starts_ident ends_keyword same part keyword_at match_at run_end span in_run in_ident class_of
prefix_twice p c m =
    let f = met_where text prefix_word (λ p. eqb p 15 || eqb p 24) refl p c m in
    by_test (eqb p 15) (λ t. inl (eqb-true p 15 t)) (λ t. inr (eqb-true p 24 (ap (λ z. z || eqb p 24) (sym t) ∙ f)))

second_read : {store : List ℕ} {x : Span} → Behind text prefix_word 24 store x → value_in store x ≡ 112 ∷ []
unfolding value_at value_here is_quote starts_name part gap_end gap_turn after_white comment_end block_end closing pair_at run_end span in_run in_ident class_of turns
    starts_ident ends_keyword same keyword_at match_at
second_read {store} {x} b =
    let e : Some (record { at = 30 }) ≡ Some b.after = b.matched in
    let at : 30 ≡ b.after.at = cc in
    let q : value (112 ∷ []) 32 ≡ value (value_in store x) b.end = ap (value_at text) at ∙ b.read in
    cc

-- the block behind the name begins at 15; behind its first statement the scan stands at the second prefix, whatever the store's place u
abbrev second : ℕ → Stored
second u = record { body = record { at = 24; used = u + 1; prefix = held u (u + 1 - u); revision = missing }; bytes = 111 ∷ [] }

block_opens : {end : ℕ} {c : Cursor} → end ≡ 14 → due_at text end 123 8 ≡ Ok c → c.at ≡ 15
unfolding due_at due_here gap_end gap_turn after_white comment_end block_end closing pair_at run_end span in_run in_ident class_of turns refused_at is_high
block_opens {c = c} e h = let q : Ok (record { at = 15 }) ≡ Ok c = ap (λ z. due_at text z 123 8) (sym e) ∙ h in cc

block_turn_lem : (u : ℕ) → block_turn false text 8 (record { body = begun 15 u; bytes = [] }) ≡ on (second u)
unfolding or_line line_kind with_value kept after_kind inside_here inside_at after_inside block_turn argument_of breaks_off argument_at after_due after_argument line_at
    is_quote starts_name value_here value_at value_bytes due_number due_here due_at starts_ident ends_keyword same part keyword_at match_at gap_end gap_turn after_white
    comment_end block_end closing pair_at run_end span in_run in_ident class_of turns refused_at is_high
block_turn_lem u = refl

second_met : match_at text (gap_end text 24) prefix_word ≡ Some (record { at = 30 })
unfolding starts_ident ends_keyword same part keyword_at match_at gap_end gap_turn after_white comment_end block_end closing pair_at run_end span in_run in_ident
    class_of turns
second_met = refl

first_refused : ImportRead text stored 0 (row_with (held 0 2) (held 2 1)) → ⊥
unfolding value_in
first_refused r =
    let o = r.prefix in
    let m = o.holds.0 in
    let p = gap_end text m.state.body.at in
    let at = block_opens (name_read r.name).1 o.brace in
    let reached = subst (λ z. Reaches (block_turn false text 8) (record { body = begun z o.used; bytes = [] }) (second o.used)) (sym at)
    (next first (block_turn_lem o.used)) in
    ⊎_elim
    (λ e. let not = o.holds.1 (second o.used) reached (omega (arith, e, gap_from text m.state.body.at)) in
    let q : Some (record { at = 30 }) ≡ None = sym second_met ∙ not in
    let z : ◌≡◌ {A = ℕ} 0 1 = cc in omega arith)
    (λ e. omega (arith, ap (λ l. get_or l 0 0) (second_read (subst (λ z. Behind text prefix_word z stored (held 2 1)) e m.value))))
    (prefix_twice p m.value.after m.value.matched)

-- ---- the name is the RFC's value: its conditions are met

quoted : Quoted text 6
unfolding is_quote str_at closed_by str_bytes str_end escaped escapes part gap_end gap_turn after_white comment_end block_end closing pair_at run_end span in_run
    in_ident class_of turns plain_white one_line legal
quoted =
    record {
      gap = white refl (done refl);
      end = 10;
      string = record { quoted = refl; bytes = 97 ∷ []; closes = refl; unbroken = λ d. refl; legally = λ d. refl };
      added =
          more {at = 10} (done refl) refl (done refl) (record { quoted = refl; bytes = 98 ∷ []; closes = refl; unbroken = λ d. refl; legally = λ d. refl })
          (last {at = 14} (done refl) refl);
    }

module _ (d t u : List ℕ) (long : is_too_short false (length text) (length d) (length t) (length u) ≡ false) {r : Result Rows Refusal} {e f g : List ℕ}
    (l : Extracts false text false d t u r e f g) where
  rfc_name : rfc_value text 6 ≡ reads (value_in e (held 0 2)) 14
  rfc_name =
      let i = import_read d t u long l in
      let b = i.name in
      let p = gap_end text i.state.far.at in
      let at = import_once p b.after b.matched in
      let h = demand2.rfc text import_word p e (held 0 2) b (subst (Quoted text) (sym at) quoted) in
      ap (rfc_value text) (sym at) ∙ h ∙ ap (reads (value_in e (held 0 2))) (name_read b).1
