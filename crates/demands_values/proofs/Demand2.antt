-- Demand 2 at the calls: what a scan read stands at the beginning of the store at exit, and the rows and records that a call leaves read back as they were.
-- Assumes nothing.
use Rattle.std.specs.Prelude.{Ok, Err, Result}
use Prim.Native.Nat.{ℕ, ◌+◌, ◌-◌}
use native.Mathlib.Omega.{arith}
use mathlib.Core.Path.{◌≡◌, refl, sym, ap, subst, ◌∙◌}
use mathlib.Core.Logic.{◌⊎◌, inl, inr, ⊎_elim}
use mathlib.Core.Bool.{Bool, true, false, cond}
use mathlib.Core.List.{List, [], ◌∷◌, ◌++◌, append-nil}
use lib.Dec.{eqb, ltb}
use lib.ListN.{length, get_or, drop}
use lib.Seq.{sets-eq}
use Rattle.text.specs.Words.{namespace_word, prefix_word, revision_word, belongs_to_word}
use Rattle.text.specs.declared.Refusal.{Refusal}
use Rattle.text.proofs.Here.{never}
use Rattle.text_lent.specs.Lent.{lent_at}
use Rattle.text_lent.specs.Padded.{padded, zeros}
use Rattle.text_value.specs.Value.{value, value_at}
use Rattle.scan_rows.specs.Rows.{import_at, include_at, marked_at, span_at, rows_of, imports_in, includes_in, Each}
use Rattle.scan_rows.specs.Short.{is_too_short}
use Rattle.scan_rows.specs.Span.{held, missing, mark_of, value_in}
use Rattle.scan_rows.specs.declared.Span.{Span}
use Rattle.scan_rows.proofs.Laws.{each_of}
use Rattle.scan_rows.proofs.ShortLaws.{long_enough}
use Rattle.scan_newest.specs.Newest.{Revision, Read as Present, newest}
use Rattle.scan_newest.proofs.NewestLaws.{newest_keeps, newest_none, newest_present}
use Rattle.yangparser.specs.Dependencies.{Dependencies, import_words_of, include_words_of, Scan, good, scanned, dependencies, parsed_of, read_of, kept_of, page_short}
use Rattle.yangparser.specs.Promises.{Holds, Leaves, Parses, lent_scan}
use Rattle.yangparser.specs.declared.Rows.{Rows}
use Rattle.yangparser.proofs.KeptLaws.{entry_good, parsed_good, parsed_refused, held_imports, held_includes, padded_imports, padded_includes}
use Rattle.yangparser.proofs.ScanLaws.{Sound, scan_sound}
use Rattle.scan_metadata.specs.Metadata as Metadata
use Rattle.scan_metadata.specs.Metadata.{Metadata, first_of, values_of, Reading, metadata_turn, metadata, answer_of, refused_with}
use Rattle.scan_metadata.proofs.ScanLaws.{scan_good}
use Rattle.host_words.specs.Words.{record_words}
use Rattle.nuvaleta.specs.Words.{number_of, answer_words}
use Rattle.demands_scans.specs.Refusals.{RefusedAs, first, read}
use Rattle.demands_scans.specs.Whole.{told_dependencies, told_metadata, WholeOrOld, same, cut, old_dependencies, old_metadata}
use Rattle.demands_scans.proofs.MetadataNumbers.{metadata_number}
use Rattle.demands_scans.proofs.ScanNumbers.{dependencies_number, first_number}
use Rattle.demands_scans.proofs.WholeDependencies.{dependencies_whole}
use Rattle.demands_scans.proofs.WholeMetadata.{metadata_whole}
use Rattle.demands_scans.proofs.WholeNumbers.{mode_number, dependencies_mode_refused, metadata_mode_refused}
use Rattle.demands_rfc.specs.Rfc.{reads, rfc_value}
use Rattle.demands_rfc.specs.RfcDomain.{plain_at}
use Rattle.demands_rfc.specs.RfcQuoted.{Quoted}
use Rattle.demands_rfc.proofs.RfcEquality.{rfc_equality}
use Rattle.demands_values.specs.Behind.{Behind, Either, Met, ImportRead, IncludeRead, begin, NoHeader, HeaderFirst, HeaderLast, NameRead, RecordRead}
use Rattle.demands_values.specs.Demand2.{RowsRead, record_in, Demand2}
use Rattle.demands_values.proofs.EveryRow.{import_has_row, include_has_row}
use Rattle.demands_values.proofs.BehindLaws.{met_more, last_more, first_more, behind_size, shorter_refused}
use Rattle.demands_values.proofs.HeaderValues.{Revised, Ends, scan_ends}
use Rattle.demands_values.proofs.RowLaws.{EachFrom, from_of, rows_each}
use Rattle.demands_values.proofs.ScanValues.{import_more, include_more, scan_rows}

-- ---- dependencies

-- over a store that begins with the bytes, and tables that read back
rows_read : (s : List ℕ) (x : Dependencies) → scanned false s ≡ good x → (zs : List ℕ) {e f g : List ℕ} → e ≡ x.bytes ++ zs
    → imports_in f (length x.imports) ≡ x.imports → includes_in g (length x.includes) ≡ x.includes
    → RowsRead s e f (length x.imports) g (length x.includes)
unfolding imports_in includes_in
rows_read s x h zs {e} {f} {g} p q r =
    let rows = scan_rows s x h in
    let store = x.bytes ++ zs in
    let imports = from_of (ImportRead s x.bytes) (ImportRead s store) (import_more s x.bytes zs) 0 x.imports rows.imports in
    let includes = from_of (IncludeRead s x.bytes) (IncludeRead s store) (include_more s x.bytes zs) 0 x.includes rows.includes in
    subst (λ l. RowsRead s l f (length x.imports) g (length x.includes)) (sym p)
    (record {
      imports = rows_each (ImportRead s store) (import_at f) 7 (length x.imports) (subst (EachFrom (ImportRead s store) 0) (sym q) imports);
      includes = rows_each (IncludeRead s store) (include_at g) 5 (length x.includes) (subst (EachFrom (IncludeRead s store) 0) (sym r) includes);
      every_import = import_has_row s x h;
      every_include = include_has_row s x h;
    })

-- a good scan of either mode is the old mode's
old_good : (mode : Bool) (s : List ℕ) (short : Bool) (x : Dependencies) → dependencies mode s short ≡ good x → dependencies false s short ≡ good x
old_good true s short x h = of (dependencies_whole s short)
  where
    of : WholeOrOld told_dependencies old_dependencies s (dependencies true s short) (dependencies false s short) → dependencies false s short ≡ good x
    of (same e) = sym e ∙ h
    of (cut e m) = absurd (omega (arith, ap (λ (q : Refusal). q.number) (sym (ap told_dependencies h) ∙ e)))
old_good false s short x h = h

module _ (mode : Bool) (s : List ℕ) (short : Bool) where
  sound_good : (x : Dependencies) → scanned false s ≡ good x → Sound s x
  unfolding read_of
  sound_good x h = subst (λ z. Sound s (read_of z)) h (scan_sound false s)

  module _ (d t u : List ℕ) {r : Result Rows Refusal} {e f g : List ℕ} (i j n : ℕ) (h : r ≡ Ok (record { imports = i; includes = j; used = n })) where
    -- the counts are those of what was read
    counted : (x : Dependencies) → i ≡ length x.imports → j ≡ length x.includes → RowsRead s e f (length x.imports) g (length x.includes)
        → RowsRead s e f i g j
    counted x p q w = subst (λ m. RowsRead s e f m g j) (sym p) (subst (λ m. RowsRead s e f (length x.imports) g m) (sym q) w)

    pub left_rows : Leaves (dependencies mode s short) d t u r e f g → RowsRead s e f i g j
    unfolding kept_of padded
    left_rows l =
        let k = parsed_good (dependencies mode s short) i j n (sym l.answer ∙ h) in
        let x = k.0 in
        let good-scan = (entry_good false s short x (old_good mode s short x k.1)).0 in
        let sound = sound_good x good-scan in
        counted x k.2 k.3
        (rows_read s x good-scan _ (l.stored ∙ ap (λ z. padded (length d) (kept_of z).bytes) k.1)
        (ap (λ w. imports_in w (length x.imports)) (l.imports ∙ ap (λ z. padded (length t) (import_words_of (kept_of z))) k.1)
        ∙ padded_imports x sound (length t))
        (ap (λ w. includes_in w (length x.includes)) (l.includes ∙ ap (λ z. padded (length u) (include_words_of (kept_of z))) k.1)
        ∙ padded_includes x sound (length u)))

-- scan_over writes over what the buffers held
over_rows : (mode : Bool) (s : List ℕ) (short : Bool) (d t u : List ℕ) {r : Result Rows Refusal} {e f g : List ℕ} → Parses (lent_scan mode s short d t u) d t u r e f g
    → (i j n : ℕ) → r ≡ Ok (record { imports = i; includes = j; used = n }) → RowsRead s e f i g j
unfolding read_of
over_rows mode s short d t u {r} {e} {f} {g} l i j n h =
    let long = is_too_short short (length s) (length d) (length t) (length u) in
    let k = parsed_good (dependencies mode s long) i j n (sym l.answer ∙ h) in
    let x = k.0 in
    let entry = entry_good false s long x (old_good mode s long x k.1) in
    let room = long_enough short (length s) (length d) (length t) (length u) entry.2 in
    let sound = sound_good mode s long x entry.0 in
    let holds = subst (λ z. Holds (read_of z) d t u e f g) k.1 l.holds in
    counted mode s long d t u i j n h x k.2 k.3
    (rows_read s x entry.0 (drop (0 + length x.bytes) d)
    (holds.stored ∙ sets-eq x.bytes d 0 (omega (arith, sound.short, room.0)))
    (held_imports x sound holds room.1) (held_includes x sound holds room.2))

-- a refusal's number is not 0
refused_number : {Read : Refusal → Type 0} {s : List ℕ} {short : Bool} {r : Refusal} → ((q : Refusal) → Read q → q.number ≡ 0 → ⊥)
    → RefusedAs Read s short r → r.number ≡ 0 → ⊥
refused_number {s = s} {short = short} {r = r} numbered (first f) z = first_number s short r f z
refused_number {r = r} numbered (read f h) z = numbered r h z

-- the counts of a good answer in words, with more words behind
module _ (mode : Bool) (s : List ℕ) (short : Bool) (d t u : List ℕ) {e f g : List ℕ}
    (l : Leaves (dependencies mode s short) d t u (parsed_of (dependencies mode s short)) e f g) where
  told_rows : {n : ℕ} → n ≡ number_of (parsed_of (dependencies mode s short)) → n ≡ 0 → (more : List ℕ) {a : List ℕ}
      → a ≡ answer_words (parsed_of (dependencies mode s short)) ++ more → RowsRead s e f (get_or a 3 0) g (get_or a 4 0)
  unfolding answer_words number_of
  told_rows ne z more {a} h = subst (λ w. RowsRead s e f (get_or w 3 0) g (get_or w 4 0)) (sym h) (of (parsed_of (dependencies mode s short)) refl (sym ne ∙ z))
    where
      of : (p : Result Rows Refusal) → parsed_of (dependencies mode s short) ≡ p → number_of p ≡ 0
          → RowsRead s e f (get_or (answer_words p ++ more) 3 0) g (get_or (answer_words p ++ more) 4 0)
      of (Ok x) q z = left_rows mode s short d t u x.imports x.includes x.used q l
      of (Err r) q z =
          let k = parsed_refused (dependencies mode s short) r q in
          absurd (refused_number (mode_number dependencies_number s mode) (dependencies_mode_refused s short r k.0 mode k.1) z)

-- ---- metadata

-- the name with more bytes behind
name_more : (s bytes zs : List ℕ) {g : Reading} {x : Span} → NameRead s bytes g x → NameRead s (bytes ++ zs) g x
name_more s bytes zs n = record {
  word = n.word;
  either = n.either;
  met = met_more bytes zs n.met;
  no_module = n.no_module;
  no_submodule = n.no_submodule;
}

-- the six values of what was told, over a store that begins with its bytes
module _ (s : List ℕ) (m : Metadata) (h : Metadata.scanned false s ≡ Metadata.good m) (zs : List ℕ) where
  ends : Ends s m begin
  ends = scan_ends s m h

  abbrev MetRevision : Span → Type 0
  MetRevision x = Met (metadata_turn false s) (λ b. b.at) s revision_word (m.bytes ++ zs) begin x

  name_read : NameRead s (m.bytes ++ zs) begin m.name
  name_read =
      ⊎_elim (λ e. absurd (never (ap (λ x. x.present) e.0) (scan_good false s m h).2)) (λ n. name_more s m.bytes zs n) ends.name

  -- the first of the revisions, and the newest
  first_read : (rs : List Revision) → Revised s m.bytes begin rs
      → Either (NoHeader s revision_word) (HeaderFirst s revision_word (m.bytes ++ zs)) (first_of rs)
  unfolding first_of Revised
  first_read [] u = inl (refl, u)
  first_read (r ∷ rs) w = inr (first_more m.bytes zs w.0)

  newest_read : (rs : List Revision) → Revised s m.bytes begin rs → Either (NoHeader s revision_word) MetRevision (newest rs).span
  unfolding Revised Each
  newest_read [] u = inl (ap (λ r. r.span) newest_none, u)
  newest_read (r ∷ rs) w =
      let P : Revision → Type 0 = λ q. Met (metadata_turn false s) (λ b. b.at) s revision_word m.bytes begin q.span in
      let Q : Revision → Type 0 = λ q. q.span.present ≡ true → MetRevision q.span in
      let all : Each P (r ∷ rs) = (w.0.0, w.1) in
      let present = newest_present r rs (each_of P Present (λ q k. k.value.present) (r ∷ rs) all) in
      inr (newest_keeps Q (r ∷ rs) (λ t. absurd (never refl t)) (each_of P Q (λ q k t. met_more m.bytes zs k) (r ∷ rs) all) present)

  values_read : RecordRead s (m.bytes ++ zs) (values_of m)
  unfolding values_of
  values_read =
      let revised = subst (Revised s m.bytes begin) (sym ends.revisions) ends.revised in
      record {
        name = name_read;
        namespace = ⊎_elim (λ e. inl e) (λ l. inr (last_more m.bytes zs l)) ends.namespace;
        prefix = ⊎_elim (λ e. inl e) (λ l. inr (first_more m.bytes zs l)) (ends.prefix refl);
        first_revision = first_read m.revisions revised;
        parent = ⊎_elim (λ e. inl e) (λ l. inr (last_more m.bytes zs l)) ends.parent;
        newest = newest_read m.revisions revised;
      }

-- a value that is missing or present is told whole by its three words
told : Span → Span
told x = cond (eqb (mark_of x) 0) missing (held x.start x.size)

told_present : (x : Span) → x.present ≡ true → x ≡ told x
unfolding told
told_present x t =
    let q : x ≡ held x.start x.size = ap (λ b. record { present = b; start = x.start; size = x.size }) t in
    q ∙ ap told (sym q)

told_either : (No : Type 0) (P : Span → Type 0) (x : Span) → (P x → x.present ≡ true) → Either No P x → Either No P (told x)
unfolding told
told_either No P x there m = subst (Either No P) (⊎_elim (λ e. e.0 ∙ ap told (sym e.0)) (λ p. told_present x (there p)) m) m

-- six values read back from their words
words_read : (s store : List ℕ) (a b c d e f : Span) → RecordRead s store (a ∷ b ∷ c ∷ d ∷ e ∷ f ∷ [])
    → RecordRead s store (record_in (record_words (a ∷ b ∷ c ∷ d ∷ e ∷ f ∷ [])))
unfolding record_words rows_of marked_at span_at told
words_read s store a b c d e f r = record {
  name = subst (NameRead s store begin) (told_present a r.name.met.value.present) r.name;
  namespace = told_either (NoHeader s namespace_word) (HeaderLast s namespace_word store) b (λ h. h.0.value.present) r.namespace;
  prefix = told_either (NoHeader s prefix_word) (HeaderFirst s prefix_word store) c (λ h. h.0.value.present) r.prefix;
  first_revision = told_either (NoHeader s revision_word) (HeaderFirst s revision_word store) d (λ h. h.0.value.present) r.first_revision;
  parent = told_either (NoHeader s belongs_to_word) (HeaderLast s belongs_to_word store) e (λ h. h.0.value.present) r.parent;
  newest =
      told_either (NoHeader s revision_word) (Met (metadata_turn false s) (λ b. b.at) s revision_word store begin) f (λ h. h.value.present) r.newest;
}

-- a good call of either mode is a good scan of the old one
metadata_old : (mode : Bool) (s : List ℕ) (short : Bool) (m : Metadata) → metadata mode s short ≡ Metadata.good m → metadata false s short ≡ Metadata.good m
metadata_old true s short m h = of (metadata_whole s short)
  where
    of : WholeOrOld told_metadata old_metadata s (metadata true s short) (metadata false s short) → metadata false s short ≡ Metadata.good m
    of (same e) = sym e ∙ h
    of (cut e k) = absurd (omega (arith, ap (λ (q : Refusal). q.number) (sym (ap told_metadata h) ∙ e)))
metadata_old false s short m h = h

metadata_good : (mode : Bool) (s : List ℕ) (short : Bool) (m : Metadata) → metadata mode s short ≡ Metadata.good m → Metadata.scanned false s ≡ Metadata.good m
unfolding metadata Metadata.if_fit
metadata_good mode s short m h = of (lent_at s short) (metadata_old mode s short m h)
  where
    of : (x : Result (Unit {0}) Refusal) → Metadata.if_fit x (Metadata.scanned false s) ≡ Metadata.good m → Metadata.scanned false s ≡ Metadata.good m
    of (Ok tt) h = h
    of (Err r) h = let z : ◌≡◌ {A = ℕ} 0 1 = cc in absurd (omega arith)

-- what a good scan leaves in a store of length n, as spans and as words
module _ (mode : Bool) (s : List ℕ) (short : Bool) (n : ℕ) where
  abbrev Answers : Metadata.Scan → Type 0
  Answers x =
      (answer_of x).answer.number ≡ 0 → RecordRead s (padded n (Metadata.kept_of x)) (answer_of x).values
      × RecordRead s (padded n (Metadata.kept_of x)) (record_in (record_words (answer_of x).values))

  call_answers : Answers (metadata mode s short)
  unfolding answer_of refused_with Metadata.kept_of padded values_of
  call_answers = of (metadata mode s short) refl
    where
      of : (x : Metadata.Scan) → metadata mode s short ≡ x → Answers x
      of (Metadata.good m) h z =
          let r = values_read s m (metadata_good mode s short m h) (zeros (n - length m.bytes)) in
          (r, words_read s (padded n m.bytes) _ _ _ _ _ _ r)
      of (Metadata.bad r bs) h z = absurd (refused_number (mode_number metadata_number s mode) (metadata_mode_refused s short r bs mode h) z)

-- ---- the RFC's values

module _ (s word : List ℕ) (p : ℕ) (store : List ℕ) (x : Span) (b : Behind s word p store x) where
  one_value : (bs : List ℕ) (end : ℕ) → value_at s b.after.at ≡ value bs end → (bs ≡ value_in store x) × (end ≡ b.end)
  one_value bs end h = let q : value bs end ≡ value (value_in store x) b.end = sym h ∙ b.read in (cc, cc)

  is_rfc : Quoted s b.after.at → rfc_value s b.after.at ≡ reads (value_in store x) b.end
  is_rfc q =
      let v = rfc_equality.same s b.after.at q in
      let w = one_value v.0 v.1 v.3 in
      v.2 ∙ ap (λ z. reads z v.1) w.0 ∙ ap (reads (value_in store x)) w.1

  rfc_is : (bs : List ℕ) (end : ℕ) → rfc_value s b.after.at ≡ reads bs end → plain_at s b.after.at ≡ true → value_in store x ≡ bs
  rfc_is bs end h k = sym (one_value bs end (rfc_equality.equal s b.after.at bs end h k)).0

-- ---- all calls

-- whether something lent is too short, with a page p
abbrev short : List ℕ → Bool → List ℕ → List ℕ → List ℕ → Bool
short s b d t u = is_too_short b (length s) (length d) (length t) (length u)

abbrev short_page : List ℕ → List ℕ → List ℕ → List ℕ → List ℕ → Bool
short_page s d t u p = short s (page_short (length s) (length p)) d t u

pub demand2 : Demand2
demand2 = record {
  dependencies = λ mode s b d t u l i j n h. left_rows mode s (short s b d t u) d t u i j n h l;
  over = over_rows;
  printed = λ mode s d t u p l i j n h. left_rows mode s (short_page s d t u p) d t u i j n h l.scan;
  metadata = λ mode s d {r} {e} l z. let b = ltb (length d) (length s) in
      subst (λ v. RecordRead s e v.values) (sym l.answer)
      (subst (λ w. RecordRead s w (answer_of (metadata mode s b)).values) (sym l.stored)
      (call_answers mode s b (length d) (ap (λ v. v.answer.number) (sym l.answer) ∙ z)).0);
  host_dependencies = λ mode s d t u l z. told_rows mode s (short s false d t u) d t u l.scan l.number z [] (l.answer ∙ sym (append-nil _));
  host_printed = λ mode s d t u p l z. told_rows mode s (short_page s d t u p) d t u l.scan l.number z _ l.answer;
  host_metadata = λ mode s d {n} {e} l z. let b = ltb (length d) (length s) in
      subst (λ v. RecordRead s e (record_in v)) (sym l.words)
      (subst (λ w. RecordRead s w (record_in (record_words (answer_of (metadata mode s b)).values))) (sym l.stored)
      (call_answers mode s b (length d) (sym l.number ∙ z)).1);
  whole = behind_size;
  shorter = shorter_refused;
  rfc = is_rfc;
  rfc_equal = rfc_is;
}
