-- Of every good call of a scan: each value of a row or record stands in the store at exit as it stands behind its keyword in the text; and where document 01's
-- conditions hold there, it is RFC 7950's value. What the scan meets is not left out.
-- Assumes nothing.
use Rattle.std.specs.Prelude.{ℕ, ◌-◌, ◌*◌, ◌<◌, ◌≡◌, Bool, true, false, List, length, get_or, Some, Ok, Result}
use Rattle.text.specs.Keyword.{match_at}
use Rattle.text.specs.Scan.{gap_end}
use Rattle.text.specs.Words.{import_word, include_word}
use Rattle.text.specs.declared.Cursor.{Cursor}
use Rattle.scan_rows.specs.Rows.{import_size, include_size, import_at, include_at, marked_at, rows_of}
use Rattle.scan_rows.specs.Span.{held, value_in}
use Rattle.scan_rows.specs.declared.Span.{Span}
use Rattle.yangparser.specs.Dependencies.{Scanning, scan_turn, start, none}
use Rattle.yangparser.specs.Promises as Dependencies
use Rattle.yangparser.specs.declared.Rows.{Rows}
use Rattle.scan_page.specs.Page.{Prints}
use Rattle.scan_page.specs.declared.Page.{Page}
use Rattle.scan_metadata.specs.Promises as Metadata
use Rattle.scan_metadata.specs.declared.YangModuleMetadata.{YangModuleMetadata}
use Rattle.nuvaleta.specs.Host.{DependenciesAnswered, PrintedAnswered}
use Rattle.nuvaleta.specs.Record.{MetadataAnswered}
use Rattle.demands_rfc.specs.Rfc.{reads, rfc_value}
use Rattle.demands_rfc.specs.RfcDomain.{plain_at}
use Rattle.demands_rfc.specs.RfcQuoted.{Quoted}
use Rattle.demands_values.specs.Behind.{Behind, Reaches, ImportRead, IncludeRead, RecordRead}
use Rattle.text.specs.declared.Refusal.{Refusal}

-- the first i rows of the import table f and the first j of the include table g
pub record RowsRead (s store f : List ℕ) (i : ℕ) (g : List ℕ) (j : ℕ) : Type 0 where
  pub imports : (k : ℕ) → k < i → ImportRead s store k (import_at f (k * import_size))
  pub includes : (k : ℕ) → k < j → IncludeRead s store k (include_at g (k * include_size))
  -- each import and each include that the scan meets has its row
  pub every_import : (x : Scanning) → Reaches (scan_turn false s) (record { far = start; read = none }) x
      → (c : Cursor) → match_at s (gap_end s x.far.at) import_word ≡ Some c → x.far.imports < i
  pub every_include : (x : Scanning) → Reaches (scan_turn false s) (record { far = start; read = none }) x
      → (c : Cursor) → match_at s (gap_end s x.far.at) include_word ≡ Some c → x.far.includes < j

-- the six values of the words of a record: present, start and length of each
abbrev pub record_in : List ℕ → List Span
record_in w = rows_of (marked_at w) 3 6 0

-- s: the text; d, t, u, p: store, tables and page at entry; e, f, g, q: at exit
pub record Demand2 : Type 0 where
  -- scan_lent, and with nothing else too short extract_yang_dependencies; mode: whether the text must be whole (2026-07)
  pub dependencies : (mode : Bool) (s : List ℕ) (short : Bool) (d t u : List ℕ) {r : Result Rows Refusal} {e f g : List ℕ}
      → Dependencies.Extracts mode s short d t u r e f g → (i j n : ℕ) → r ≡ Ok (record { imports = i; includes = j; used = n }) → RowsRead s e f i g j
  -- scan_over
  pub over : (mode : Bool) (s : List ℕ) (short : Bool) (d t u : List ℕ) {r : Result Rows Refusal} {e f g : List ℕ} → Dependencies.Scans mode s short d t u r e f g
      → (i j n : ℕ) → r ≡ Ok (record { imports = i; includes = j; used = n }) → RowsRead s e f i g j
  -- print_yang_dependencies
  pub printed : (mode : Bool) (s d t u p : List ℕ) {r : Page} {e f g q : List ℕ} → Prints mode s d t u p r e f g q
      → (i j n : ℕ) → r.parsed ≡ Ok (record { imports = i; includes = j; used = n }) → RowsRead s e f i g j
  -- extract_yang_metadata
  pub metadata : (mode : Bool) (s d : List ℕ) {r : YangModuleMetadata} {e : List ℕ} → Metadata.Extracts mode s d r e → r.answer.number ≡ 0
      → RecordRead s e r.values
  -- nuvaleta_dependencies, nuvaleta_printed, nuvaleta_metadata, and in the whole-text mode the same with _whole; n: the number returned, a: the answer, w: the
  -- record
  pub host_dependencies : (mode : Bool) (s d t u : List ℕ) {n : ℕ} {e f g a : List ℕ} → DependenciesAnswered mode s d t u n e f g a → n ≡ 0
      → RowsRead s e f (get_or a 3 0) g (get_or a 4 0)
  pub host_printed : (mode : Bool) (s d t u p : List ℕ) {n : ℕ} {e f g q a : List ℕ} → PrintedAnswered mode s d t u p n e f g q a → n ≡ 0
      → RowsRead s e f (get_or a 3 0) g (get_or a 4 0)
  pub host_metadata : (mode : Bool) (s d : List ℕ) {n : ℕ} {e w a : List ℕ} → MetadataAnswered mode s d n e w a → n ≡ 0 → RecordRead s e (record_in w)
  -- each such value has all its bytes, and a span that is a byte shorter is none
  pub whole : (s word : List ℕ) (p : ℕ) (store : List ℕ) (x : Span) → Behind s word p store x → length (value_in store x) ≡ x.size
  pub shorter : (s word : List ℕ) (p : ℕ) (store : List ℕ) (x : Span) → Behind s word p store x → 0 < x.size
      → Behind s word p store (held x.start (x.size - 1)) → ⊥
  -- where its text meets the conditions it is the RFC's, up to the same place
  pub rfc : (s word : List ℕ) (p : ℕ) (store : List ℕ) (x : Span) (b : Behind s word p store x) → Quoted s b.after.at
      → rfc_value s b.after.at ≡ reads (value_in store x) b.end
  -- the same from the RFC's side
  pub rfc_equal : (s word : List ℕ) (p : ℕ) (store : List ℕ) (x : Span) (b : Behind s word p store x) (bs : List ℕ) (end : ℕ)
      → rfc_value s b.after.at ≡ reads bs end → plain_at s b.after.at ≡ true → value_in store x ≡ bs
