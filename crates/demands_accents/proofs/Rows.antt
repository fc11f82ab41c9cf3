-- The values of rows and records that demand 2 tells of, and the printed form of the rows: fixed pieces and digits, all below 128, and values.
-- Assumes nothing.
use mathlib.Core.Path.{◌≡◌, refl, sym, subst}
use mathlib.Core.Logic.{⊎_elim}
use mathlib.Core.Bool.{false}
use mathlib.Core.List.{List, [], ◌∷◌, ◌++◌, map, flatten}
use Prim.Native.Nat.{ℕ, zero, suc, ◌+◌, ◌*◌, ◌/◌, ◌%◌, ◌<◌}
use native.Mathlib.Nat.{not-suc-le-zero, suc-mul, zero-mul}
use native.Mathlib.Omega.{arith}
use lib.Dec.{ltb}
use borrow.Author.Tests.{ltb-true}
use Rattle.text.proofs.Here.{by_test}
use Rattle.text.specs.Words.{revision_date_word, import_keyword, include_keyword, prefix_word, namespace_word, revision_word, belongs_to_word}
use Rattle.text_value.specs.Value.{value, value_at, value_bytes}
use Rattle.scan_line.specs.Line.{newline, digit, last_digits, decimal}
use Rattle.scan_rows.specs.Rows.{import_at, include_at, rows_of, imports_in, includes_in}
use Rattle.scan_rows.specs.Span.{missing, value_in}
use Rattle.scan_rows.specs.declared.Span.{Span}
use Rattle.scan_rows.specs.declared.YangImport.{YangImport}
use Rattle.scan_rows.specs.declared.YangInclude.{YangInclude}
use Rattle.scan_printed.specs.Pieces.{imports_head, includes_head, head_end, bullet, prefix_open, prefix_close, revision_sign}
use Rattle.scan_printed.specs.Printed.{heading, revision, import_line, include_line, import_lines, include_lines, printed, printed_rows}
use Rattle.scan_metadata.specs.Metadata.{no_values, metadata_turn}
use Rattle.demands_values.specs.Behind.{Behind, Either, Met, InBlock, ImportRead, IncludeRead, begin, HeaderFirst, HeaderLast, RecordRead}
use Rattle.demands_values.specs.Demand2.{RowsRead}
use Rattle.demands_accents.specs.Valid.{Valid}
use Rattle.demands_accents.specs.ValuesValid.{ImportValid, IncludeValid, RowsValid, RecordValid}
use Rattle.text_utf8.proofs.Utf8Laws.{one_low}
use Rattle.demands_accents.proofs.Chars.{Chars, none, char1, chars, valid}
use Rattle.demands_accents.proofs.Values.{append_chars, low_chars, value_chars}

-- ---- the values of a valid text

missing_valid : (store : List ℕ) → Valid (value_in store missing)
unfolding value_in
missing_valid store = valid none

-- no rows, and six values that are missing
pub no_rows : (store f g : List ℕ) → RowsValid store f 0 g 0
no_rows store f g = record { imports = λ k l. absurd (not-suc-le-zero l); includes = λ k l. absurd (not-suc-le-zero l) }

pub no_values_lem : (store : List ℕ) → RecordValid store no_values
no_values_lem store = record {
  name = missing_valid store;
  namespace = missing_valid store;
  prefix = missing_valid store;
  first_revision = missing_valid store;
  parent = missing_valid store;
  newest = missing_valid store;
}

module _ (s : List ℕ) (v : Valid s) where
  pub read_valid : (at : ℕ) → Valid (value_bytes (value_at s at))
  read_valid at = valid (value_chars (chars s v) at)

  pub behind_valid : (word : List ℕ) (p : ℕ) (store : List ℕ) (x : Span) → Behind s word p store x → Valid (value_in store x)
  unfolding value_bytes
  behind_valid word p store x b = subst (λ z. Valid (value_bytes z)) b.read (read_valid b.after.at)

  -- one that may be missing
  either_valid : (No : Type 0) (Yes : Span → Type 0) (store : List ℕ) (x : Span) → (Yes x → Valid (value_in store x)) → Either No Yes x
      → Valid (value_in store x)
  either_valid No Yes store x f m = ⊎_elim (λ n. subst (λ y. Valid (value_in store y)) (sym n.0) (missing_valid store)) f m

  import_valid : (store : List ℕ) (k : ℕ) (i : YangImport) → ImportRead s store k i → ImportValid store i
  import_valid store k i r = record {
    name = behind_valid _ _ store _ r.name;
    prefix = behind_valid _ _ store _ r.prefix.holds.0.value;
    revision =
        either_valid _ (InBlock s import_keyword r.name.end revision_date_word store) store _ (λ b. behind_valid _ _ store _ b.holds.0.value)
        r.revision;
  }

  include_valid : (store : List ℕ) (k : ℕ) (i : YangInclude) → IncludeRead s store k i → IncludeValid store i
  include_valid store k i r = record {
    name = behind_valid _ _ store _ r.name;
    revision =
        either_valid _ (InBlock s include_keyword r.name.end revision_date_word store) store _ (λ b. behind_valid _ _ store _ b.holds.0.value)
        r.revision;
  }

  pub rows_valid : (store f : List ℕ) (i : ℕ) (g : List ℕ) (j : ℕ) → RowsRead s store f i g j → RowsValid store f i g j
  rows_valid store f i g j r = record {
    imports = λ k l. import_valid store k _ (r.imports k l);
    includes = λ k l. include_valid store k _ (r.includes k l);
  }

  pub record_valid : (store : List ℕ) (values : List Span) → RecordRead s store values → RecordValid store values
  record_valid store values r = record {
    name = behind_valid _ _ store _ r.name.met.value;
    namespace = either_valid _ (HeaderLast s namespace_word store) store _ (λ m. behind_valid _ _ store _ m.0.value) r.namespace;
    prefix = either_valid _ (HeaderFirst s prefix_word store) store _ (λ m. behind_valid _ _ store _ m.0.value) r.prefix;
    first_revision = either_valid _ (HeaderFirst s revision_word store) store _ (λ m. behind_valid _ _ store _ m.0.value) r.first_revision;
    parent = either_valid _ (HeaderLast s belongs_to_word store) store _ (λ m. behind_valid _ _ store _ m.0.value) r.parent;
    newest =
        either_valid _ (Met (metadata_turn false s) (λ b. b.at) s revision_word store begin) store _ (λ m. behind_valid _ _ store _ m.value) r.newest;
  }

-- ---- the printed form

digit_chars : (n : ℕ) → n < 10 → Chars (digit n ∷ [])
digit_chars n h = char1 (one_low (digit n) (omega arith)) none

last_chars : (k n : ℕ) → Chars (last_digits k n)
unfolding last_digits
last_chars zero n = none
last_chars (suc k) n =
    by_test (ltb n 10)
    (λ t. rw t (digit_chars n (ltb-true n 10 t)))
    (λ t. rw t (append_chars (last_chars k (n / 10)) (digit_chars (n % 10) (omega arith))))

decimal_chars : (n : ℕ) → Chars (decimal n)
unfolding decimal
decimal_chars n = last_chars 20 n

heading_chars : (word : List ℕ) → Chars word → (n : ℕ) → Chars (heading word n)
unfolding heading flatten
heading_chars word c n = append_chars c (append_chars (decimal_chars n) (low_chars (head_end ++ []) refl))

module _ (store : List ℕ) where
  revision_chars : (x : Span) → Valid (value_in store x) → Chars (revision store x)
  unfolding revision value_in
  revision_chars x v =
      by_test x.present (λ t. rw t (append_chars (low_chars revision_sign refl) (chars (value_in store x) v))) (λ t. rw t none)

  import_chars : (i : YangImport) → ImportValid store i → Chars (import_line store i)
  unfolding import_line flatten
  import_chars i v =
      append_chars (low_chars bullet refl)
      (append_chars (chars _ v.name)
      (append_chars (low_chars prefix_open refl)
      (append_chars (chars _ v.prefix)
      (append_chars (low_chars prefix_close refl) (append_chars (revision_chars i.revision_date v.revision) (low_chars newline refl))))))

  include_chars : (i : YangInclude) → IncludeValid store i → Chars (include_line store i)
  unfolding include_line flatten
  include_chars i v =
      append_chars (low_chars bullet refl)
      (append_chars (chars _ v.name) (append_chars (revision_chars i.revision_date v.revision) (low_chars newline refl)))

-- n lines, of the rows of `size` words from the word `at` on
module _ {A : Type 0} (row : ℕ → A) (size : ℕ) (line : A → List ℕ) where
  lines_from : (n at : ℕ) → ((k : ℕ) → k < n → Chars (line (row (at + k * size)))) → Chars (flatten (map line (rows_of row size n at)))
  unfolding rows_of flatten
  lines_from zero at h = none
  lines_from (suc n) at h =
      let p : at + 0 * size ≡ at = omega (arith, zero-mul size) in
      let q : (k : ℕ) → at + suc k * size ≡ at + size + k * size = λ k. omega (arith, suc-mul k size) in
      append_chars (subst (λ z. Chars (line (row z))) p (h 0 (omega arith)))
      (lines_from n (at + size) (λ k l. subst (λ z. Chars (line (row z))) (q k) (h (suc k) (omega arith))))

  lines_chars : (n : ℕ) → ((k : ℕ) → k < n → Chars (line (row (k * size)))) → Chars (flatten (map line (rows_of row size n 0)))
  lines_chars n h =
      let p : (k : ℕ) → k * size ≡ 0 + k * size = λ k. omega arith in
      lines_from n 0 (λ k l. subst (λ z. Chars (line (row z))) (p k) (h k l))

pub rows_chars : (store f : List ℕ) (i : ℕ) (g : List ℕ) (j : ℕ) → RowsValid store f i g j → Chars (printed_rows store f i g j)
unfolding printed import_lines include_lines imports_in includes_in flatten
rows_chars store f i g j v =
    append_chars (heading_chars imports_head (low_chars imports_head refl) _)
    (append_chars (lines_chars (import_at f) 7 (import_line store) i (λ k l. import_chars store _ (v.imports k l)))
    (append_chars (low_chars newline refl)
    (append_chars (heading_chars includes_head (low_chars includes_head refl) _)
    (append_chars (lines_chars (include_at g) 5 (include_line store) j (λ k l. include_chars store _ (v.includes k l))) none))))
