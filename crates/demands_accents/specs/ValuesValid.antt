-- 2026-01: values-valid. Of every good call of a scan: each value of a row or record is valid UTF-8 as it stands in the store at exit, and so are the bytes of
-- the page that are used. A value that is missing is empty, and no bytes are valid too; a refusal leaves no row, no value and no page.
-- Assumes nothing.
use Rattle.std.specs.Prelude.{ℕ, ◌*◌, ◌<◌, ◌≡◌, Bool, List, get_or, take, Ok, Result}
use Rattle.text_value.specs.Value.{value_at, value_bytes}
use Rattle.scan_rows.specs.Rows.{import_size, include_size, import_at, include_at}
use Rattle.scan_rows.specs.Span.{missing, value_in}
use Rattle.scan_rows.specs.declared.Span.{Span}
use Rattle.scan_rows.specs.declared.YangImport.{YangImport}
use Rattle.scan_rows.specs.declared.YangInclude.{YangInclude}
use Rattle.scan_printed.specs.Printed.{printed_rows}
use Rattle.yangparser.specs.Promises as Dependencies
use Rattle.yangparser.specs.declared.Rows.{Rows}
use Rattle.scan_page.specs.Page.{Prints}
use Rattle.scan_page.specs.declared.Page.{Page}
use Rattle.scan_metadata.specs.Promises as Metadata
use Rattle.scan_metadata.specs.Values.{name_value, namespace_value, prefix_value, first_value, parent_value, newest_value}
use Rattle.scan_metadata.specs.declared.YangModuleMetadata.{YangModuleMetadata}
use Rattle.nuvaleta.specs.Host.{DependenciesAnswered, PrintedAnswered}
use Rattle.nuvaleta.specs.Record.{MetadataAnswered}
use Rattle.demands_values.specs.Behind.{Behind, RecordRead}
use Rattle.demands_values.specs.Demand2.{RowsRead, record_in}
use Rattle.demands_accents.specs.Valid.{Valid}
use Rattle.text.specs.declared.Refusal.{Refusal}

-- ---- the values of a row or record, in the store

pub record ImportValid (store : List ℕ) (i : YangImport) : Type 0 where
  pub name : Valid (value_in store i.module_name)
  pub prefix : Valid (value_in store i.prefix)
  pub revision : Valid (value_in store i.revision_date)

pub record IncludeValid (store : List ℕ) (i : YangInclude) : Type 0 where
  pub name : Valid (value_in store i.submodule_name)
  pub revision : Valid (value_in store i.revision_date)

-- the first i rows of the import table f and the first j of the include table g
pub record RowsValid (store f : List ℕ) (i : ℕ) (g : List ℕ) (j : ℕ) : Type 0 where
  pub imports : (k : ℕ) → k < i → ImportValid store (import_at f (k * import_size))
  pub includes : (k : ℕ) → k < j → IncludeValid store (include_at g (k * include_size))

pub record RecordValid (store : List ℕ) (values : List Span) : Type 0 where
  pub name : Valid (value_in store (get_or values name_value missing))
  pub namespace : Valid (value_in store (get_or values namespace_value missing))
  pub prefix : Valid (value_in store (get_or values prefix_value missing))
  pub first_revision : Valid (value_in store (get_or values first_value missing))
  pub parent : Valid (value_in store (get_or values parent_value missing))
  pub newest : Valid (value_in store (get_or values newest_value missing))

-- ---- the theorem

-- s: the text; d, t, u, p: store, tables and page at entry; e, f, g, q: at exit
pub record ValuesValid : Type 0 where
  -- the value at any place of a valid text, and any value that demand 2 tells of
  pub read : (s : List ℕ) (at : ℕ) → Valid s → Valid (value_bytes (value_at s at))
  pub value : (s word : List ℕ) (p : ℕ) (store : List ℕ) (x : Span) → Behind s word p store x → Valid s → Valid (value_in store x)
  pub rows : (s store f : List ℕ) (i : ℕ) (g : List ℕ) (j : ℕ) → RowsRead s store f i g j → Valid s → RowsValid store f i g j
  pub described : (s store : List ℕ) (values : List Span) → RecordRead s store values → Valid s → RecordValid store values
  -- the printed form of rows whose values are valid
  pub lines : (store f : List ℕ) (i : ℕ) (g : List ℕ) (j : ℕ) → RowsValid store f i g j → Valid (printed_rows store f i g j)
  -- scan_lent, and with nothing else too short extract_yang_dependencies
  pub dependencies : (mode : Bool) (s : List ℕ) (short : Bool) (d t u : List ℕ) {r : Result Rows Refusal} {e f g : List ℕ}
      → Dependencies.Extracts mode s short d t u r e f g → (i j n : ℕ) → r ≡ Ok (record { imports = i; includes = j; used = n }) → RowsValid e f i g j
  -- scan_over
  pub over : (mode : Bool) (s : List ℕ) (short : Bool) (d t u : List ℕ) {r : Result Rows Refusal} {e f g : List ℕ} → Dependencies.Scans mode s short d t u r e f g
      → (i j n : ℕ) → r ≡ Ok (record { imports = i; includes = j; used = n }) → RowsValid e f i g j
  -- print_yang_dependencies, and what is used of its page
  pub printed : (mode : Bool) (s d t u p : List ℕ) {r : Page} {e f g q : List ℕ} → Prints mode s d t u p r e f g q
      → (i j n : ℕ) → r.parsed ≡ Ok (record { imports = i; includes = j; used = n }) → RowsValid e f i g j
  pub page : (mode : Bool) (s d t u p : List ℕ) {r : Page} {e f g q : List ℕ} → Prints mode s d t u p r e f g q → Valid (take r.length q)
  -- extract_yang_metadata
  pub metadata : (mode : Bool) (s d : List ℕ) {r : YangModuleMetadata} {e : List ℕ} → Metadata.Extracts mode s d r e → RecordValid e r.values
  -- nuvaleta_dependencies, nuvaleta_printed, nuvaleta_metadata, and in the whole-text mode the same with _whole; n: the number returned, a: the answer, whose
  -- seventh word is the length of the page, w: the record
  pub host_dependencies : (mode : Bool) (s d t u : List ℕ) {n : ℕ} {e f g a : List ℕ} → DependenciesAnswered mode s d t u n e f g a
      → RowsValid e f (get_or a 3 0) g (get_or a 4 0)
  pub host_printed : (mode : Bool) (s d t u p : List ℕ) {n : ℕ} {e f g q a : List ℕ} → PrintedAnswered mode s d t u p n e f g q a
      → RowsValid e f (get_or a 3 0) g (get_or a 4 0)
  pub host_page : (mode : Bool) (s d t u p : List ℕ) {n : ℕ} {e f g q a : List ℕ} → PrintedAnswered mode s d t u p n e f g q a
      → Valid (take (get_or a 6 0) q)
  pub host_metadata : (mode : Bool) (s d : List ℕ) {n : ℕ} {e w a : List ℕ} → MetadataAnswered mode s d n e w a → RecordValid e (record_in w)
