-- 2026-01: all that a good call stores is valid UTF-8 as a whole: the bytes of the store that are used, so also the values that later ones took the place of. A
-- refusal uses none.
-- Assumes nothing.
use Rattle.std.specs.Prelude.{ℕ, ◌≡◌, Bool, List, get_or, take, Ok, Result}
use Rattle.yangparser.specs.Promises as Dependencies
use Rattle.yangparser.specs.declared.Rows.{Rows}
use Rattle.scan_page.specs.Page.{Prints}
use Rattle.scan_page.specs.declared.Page.{Page}
use Rattle.scan_metadata.specs.Promises as Metadata
use Rattle.scan_metadata.specs.declared.YangModuleMetadata.{YangModuleMetadata}
use Rattle.nuvaleta.specs.Host.{DependenciesAnswered, PrintedAnswered}
use Rattle.nuvaleta.specs.Record.{MetadataAnswered}
use Rattle.demands_accents.specs.Valid.{Valid}
use Rattle.text.specs.declared.Refusal.{Refusal}

-- s: the text; d, t, u, p: store, tables and page at entry; e, f, g, q: at exit; n, or a word of the answer a: how many bytes are used
pub record StoreValid : Type 0 where
  -- scan_lent, and with nothing else too short extract_yang_dependencies
  pub dependencies : (mode : Bool) (s : List ℕ) (short : Bool) (d t u : List ℕ) {r : Result Rows Refusal} {e f g : List ℕ}
      → Dependencies.Extracts mode s short d t u r e f g → (i j n : ℕ) → r ≡ Ok (record { imports = i; includes = j; used = n }) → Valid (take n e)
  -- scan_over
  pub over : (mode : Bool) (s : List ℕ) (short : Bool) (d t u : List ℕ) {r : Result Rows Refusal} {e f g : List ℕ} → Dependencies.Scans mode s short d t u r e f g
      → (i j n : ℕ) → r ≡ Ok (record { imports = i; includes = j; used = n }) → Valid (take n e)
  -- print_yang_dependencies
  pub printed : (mode : Bool) (s d t u p : List ℕ) {r : Page} {e f g q : List ℕ} → Prints mode s d t u p r e f g q
      → (i j n : ℕ) → r.parsed ≡ Ok (record { imports = i; includes = j; used = n }) → Valid (take n e)
  -- extract_yang_metadata
  pub metadata : (mode : Bool) (s d : List ℕ) {r : YangModuleMetadata} {e : List ℕ} → Metadata.Extracts mode s d r e → Valid (take r.used e)
  -- nuvaleta_dependencies, nuvaleta_printed, nuvaleta_metadata, and in the whole-text mode the same with _whole
  pub host_dependencies : (mode : Bool) (s d t u : List ℕ) {n : ℕ} {e f g a : List ℕ} → DependenciesAnswered mode s d t u n e f g a
      → Valid (take (get_or a 5 0) e)
  pub host_printed : (mode : Bool) (s d t u p : List ℕ) {n : ℕ} {e f g q a : List ℕ} → PrintedAnswered mode s d t u p n e f g q a
      → Valid (take (get_or a 5 0) e)
  pub host_metadata : (mode : Bool) (s d : List ℕ) {n : ℕ} {e w a : List ℕ} → MetadataAnswered mode s d n e w a → Valid (take (get_or a 3 0) e)
