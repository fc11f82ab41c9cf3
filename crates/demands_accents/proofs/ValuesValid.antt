-- values-valid at the calls: the values are those that demand 2 tells of, and the page holds their lines.
-- Assumes nothing.
use Rattle.std.specs.Prelude.{Ok, Err, Result}
use mathlib.Core.Path.{◌≡◌, refl, sym, ap, subst, ◌∙◌}
use mathlib.Core.Bool.{Bool, false}
use mathlib.Core.List.{List, [], ◌∷◌, ◌++◌, append-nil}
use Prim.Native.Nat.{ℕ}
use lib.Dec.{ltb}
use lib.ListN.{length, get_or, take}
use lib.Seq.{take-append_seam}
use Rattle.text_lent.specs.Padded.{padded}
use Rattle.scan_rows.specs.Rows.{rows_of, marked_at}
use Rattle.scan_rows.specs.Short.{is_too_short}
use Rattle.yangparser.specs.Dependencies.{dependencies, parsed_of, page_short}
use Rattle.yangparser.specs.Promises.{Leaves, Extracts}
use Rattle.yangparser.specs.declared.Rows.{Rows}
use Rattle.yangparser.proofs.KeptLaws.{parsed_refused}
use Rattle.scan_page.specs.Page.{page_of}
use Rattle.scan_page.proofs.PageLaws.{rows_are}
use Rattle.scan_metadata.specs.Metadata as Metadata
use Rattle.host_words.specs.Words.{record_words}
use Rattle.nuvaleta.specs.Words.{answer_words}
use Rattle.demands_values.specs.Demand2.{record_in}
use Rattle.demands_values.proofs.Demand2.{demand2}
use Rattle.demands_accents.specs.Valid.{Valid}
use Rattle.demands_accents.specs.ValuesValid.{RowsValid, RecordValid, ValuesValid}
use Rattle.demands_accents.proofs.Chars.{Chars, none, valid}
use Rattle.demands_accents.proofs.Good.{good_valid, metadata_valid}
use Rattle.demands_accents.proofs.Rows.{no_rows, no_values_lem, read_valid, behind_valid, rows_valid, record_valid, rows_chars}
use Rattle.text.specs.declared.Refusal.{Refusal}

-- ---- the page

-- what is used of a page with the bytes xs
used : (n k : ℕ) (xs : List ℕ) {q : List ℕ} → q ≡ padded n xs → k ≡ length xs → take k q ≡ xs
unfolding padded
used n k xs {q} e h = ap (λ m. take m q) h ∙ ap (take (length xs)) e ∙ take-append_seam xs _

pub used_valid : (n k : ℕ) (xs : List ℕ) {q : List ℕ} → q ≡ padded n xs → k ≡ length xs → Chars xs → Valid (take k q)
used_valid n k xs e h c = valid (subst Chars (sym (used n k xs e h)) c)

-- of a scan whose rows are valid where it is good
module _ (mode : Bool) (s : List ℕ) (z : Bool) (d t u : List ℕ) {r : Result Rows Refusal} {e f g : List ℕ} (l : Leaves (dependencies mode s z) d t u r e f g) where
  pub page_chars : ((i j n : ℕ) → r ≡ Ok (record { imports = i; includes = j; used = n }) → RowsValid e f i g j) → Chars (page_of (dependencies mode s z))
  unfolding page_of
  page_chars rows = of r refl
    where
      of : (p : Result Rows Refusal) → r ≡ p → Chars (page_of (dependencies mode s z))
      of (Ok x) h =
          let i = x.imports in
          let j = x.includes in
          subst Chars (rows_are mode s z d t u l i j x.used h) (rows_chars e f i g j (rows i j x.used h))
      of (Err y) h = subst Chars (sym (ap page_of (parsed_refused (dependencies mode s z) y (sym l.answer ∙ h)).1)) none

-- ---- a host's words

-- the rows that an answer counts, with more words behind; a refusal counts none
told_rows : (p : Result Rows Refusal) (more : List ℕ) {e f g a : List ℕ} → a ≡ answer_words p ++ more → ((i j n : ℕ) → p ≡ Ok (record { imports = i; includes = j; used = n }) → RowsValid e f i g j)
    → RowsValid e f (get_or a 3 0) g (get_or a 4 0)
unfolding answer_words
told_rows (Ok r) more {e} {f} {g} h rows = let record { imports = i; includes = j; used = n } = r in subst (λ w. RowsValid e f (get_or w 3 0) g (get_or w 4 0)) (sym h) (rows i j n refl)
told_rows (Err r) more {e} {f} {g} h rows = subst (λ w. RowsValid e f (get_or w 3 0) g (get_or w 4 0)) (sym h) (no_rows e f g)

-- the seventh word of an answer
seventh : (p : Result Rows Refusal) (k : ℕ) {a : List ℕ} → a ≡ answer_words p ++ (k ∷ []) → get_or a 6 0 ≡ k
unfolding answer_words
seventh (Ok r) k h = let record { imports = i; includes = j; used = n } = r in ap (λ w. get_or w 6 0) h
seventh (Err r) k h = ap (λ w. get_or w 6 0) h

-- ---- metadata

module _ (mode : Bool) (s d : List ℕ) where
  abbrev scan : Metadata.Scan
  scan = Metadata.metadata mode s (ltb (length d) (length s))

  -- its six values, and those that are read back from its words
  abbrev Answers : Metadata.Scan → Type 0
  Answers x = RecordValid (padded (length d) (Metadata.kept_of x)) (Metadata.answer_of x).values
      × RecordValid (padded (length d) (Metadata.kept_of x)) (record_in (record_words (Metadata.answer_of x).values))

  call_answers : Answers scan
  unfolding Metadata.answer_of Metadata.refused_with record_words rows_of marked_at
  call_answers = of scan refl
    where
      of : (x : Metadata.Scan) → scan ≡ x → Answers x
      of (Metadata.good m) h =
          let v = metadata_valid mode s (ltb (length d) (length s)) m h in
          let z = ap (λ x. (Metadata.answer_of x).answer.number) h in
          let r = demand2.metadata mode s d (record { answer = refl; stored = refl }) z in
          let w = demand2.host_metadata mode s d (record { stored = refl; words = refl; number = refl; answer = refl }) z in
          subst Answers h (record_valid s v _ _ r, record_valid s v _ _ w)
      of (Metadata.bad r bs) h = (no_values_lem _, no_values_lem _)

-- ---- all calls

-- whether something lent is too short, with a page p
abbrev short : List ℕ → Bool → List ℕ → List ℕ → List ℕ → Bool
short s b d t u = is_too_short b (length s) (length d) (length t) (length u)

abbrev short_page : List ℕ → List ℕ → List ℕ → List ℕ → List ℕ → Bool
short_page s d t u p = short s (page_short (length s) (length p)) d t u

-- the rows of a good scan; b: whether something else is too short
rows_of_lem : (mode : Bool) (s : List ℕ) (b : Bool) (d t u : List ℕ) {r : Result Rows Refusal} {e f g : List ℕ} → Extracts mode s b d t u r e f g
    → (i j n : ℕ) → r ≡ Ok (record { imports = i; includes = j; used = n }) → RowsValid e f i g j
rows_of_lem mode s b d t u l i j n h =
    rows_valid s (good_valid mode s (short s b d t u) l.answer i j n h) _ _ i _ j (demand2.dependencies mode s b d t u l i j n h)

pub values_valid : ValuesValid
values_valid = record {
  read = λ s at v. read_valid s v at;
  value = λ s word p store x b v. behind_valid s v word p store x b;
  rows = λ s store f i g j r v. rows_valid s v store f i g j r;
  described = λ s store values r v. record_valid s v store values r;
  lines = λ store f i g j r. valid (rows_chars store f i g j r);
  dependencies = rows_of_lem;
  over = λ mode s b d t u l i j n h.
      rows_valid s (good_valid mode s (short s b d t u) l.answer i j n h) _ _ i _ j (demand2.over mode s b d t u l i j n h);
  printed = λ mode s d t u p l. rows_of_lem mode s (page_short (length s) (length p)) d t u l.scan;
  page = λ mode s d t u p {r} l.
      used_valid (length p) r.length _ l.page l.length_is
      (page_chars mode s (short_page s d t u p) d t u l.scan (rows_of_lem mode s (page_short (length s) (length p)) d t u l.scan));
  metadata = λ mode s d {r} {e} l.
      subst (λ v. RecordValid e v.values) (sym l.answer)
      (subst (λ w. RecordValid w (Metadata.answer_of (scan mode s d)).values) (sym l.stored) (call_answers mode s d).0);
  host_dependencies = λ mode s d t u l.
      told_rows (parsed_of (dependencies mode s (short s false d t u))) [] (l.answer ∙ sym (append-nil _)) (rows_of_lem mode s false d t u l.scan);
  host_printed = λ mode s d t u p l.
      told_rows (parsed_of (dependencies mode s (short_page s d t u p))) _ l.answer (rows_of_lem mode s (page_short (length s) (length p)) d t u l.scan);
  host_page = λ mode s d t u p {n} {e} {f} {g} {q} {a} l. let x = dependencies mode s (short_page s d t u p) in
      used_valid (length p) (get_or a 6 0) (page_of x) l.page (seventh (parsed_of x) (length (page_of x)) l.answer)
      (page_chars mode s (short_page s d t u p) d t u l.scan (rows_of_lem mode s (page_short (length s) (length p)) d t u l.scan));
  host_metadata = λ mode s d {n} {e} {w} {a} l.
      subst (λ v. RecordValid e (record_in v)) (sym l.words)
      (subst (λ v. RecordValid v (record_in (record_words (Metadata.answer_of (scan mode s d)).values))) (sym l.stored) (call_answers mode s d).1);
}
