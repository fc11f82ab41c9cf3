-- What the functions answer and leave. whole: the whole-text mode; d, t and u: the store, the import table and the include table at entry; e, f and g: at exit.
-- Assumes nothing.
use Rattle.std.specs.Prelude.{ℕ, ◌*◌, ◌≡◌, Bool, List, length, Result, Option}
use Rattle.std.proofs.lemmas.List.Edits.{sets}
use Rattle.text_lent.specs.Padded.{padded}
use Rattle.scan_rows.specs.Rows.{import_size, include_size}
use Rattle.yangparser.specs.Dependencies.{Dependencies, import_words_of, include_words_of, Step, import_here, include_here, Scan, dependencies, parsed_of}
use Rattle.yangparser.specs.Dependencies.{read_of, kept_of}
use Rattle.scan_rows.specs.Short.{is_too_short}
use Rattle.yangparser.specs.declared.Rows.{Rows}
use Rattle.yangparser.specs.declared.Sofar.{Sofar}
use Rattle.text.specs.declared.Refusal.{Refusal}

-- a step x with rows of one kind, which words lays out: its bytes from the store's place u on, its row from the word `at` on
pub record Adds (words : Dependencies → List ℕ) (x : Step) (u at : ℕ) (d t : List ℕ) (r : Result (Option Sofar) Refusal) (e f : List ℕ) : Type 0 where
  pub answer : r ≡ x.answer
  pub stored : e ≡ sets d u x.adds.bytes
  pub written : f ≡ sets t at (words x.adds)

abbrev pub AddsImport : Bool → List ℕ → Sofar → ℕ → List ℕ → List ℕ → Result (Option Sofar) Refusal → List ℕ → List ℕ → Type 0
AddsImport whole s far at d t r e f = Adds import_words_of (import_here whole s far at) far.used (far.imports * import_size) d t r e f

abbrev pub AddsInclude : Bool → List ℕ → Sofar → ℕ → List ℕ → List ℕ → Result (Option Sofar) Refusal → List ℕ → List ℕ → Type 0
AddsInclude whole s far at d u r e g = Adds include_words_of (include_here whole s far at) far.used (far.includes * include_size) d u r e g

-- one statement or token, of either kind
pub record Steps (x : Step) (far : Sofar) (d t u : List ℕ) (r : Result (Option Sofar) Refusal) (e f g : List ℕ) : Type 0 where
  pub answer : r ≡ x.answer
  pub stored : e ≡ sets d far.used x.adds.bytes
  pub imports : f ≡ sets t (far.imports * import_size) (import_words_of x.adds)
  pub includes : g ≡ sets u (far.includes * include_size) (include_words_of x.adds)

-- what was read stands in the store and the tables from their start on, and nothing else is touched
pub record Holds (x : Dependencies) (d t u e f g : List ℕ) : Type 0 where
  pub stored : e ≡ sets d 0 x.bytes
  pub imports : f ≡ sets t 0 (import_words_of x)
  pub includes : g ≡ sets u 0 (include_words_of x)

-- a scan x over whatever was lent holds, on a refusal too
pub record Parses (x : Scan) (d t u : List ℕ) (r : Result Rows Refusal) (e f g : List ℕ) : Type 0 where
  pub answer : r ≡ parsed_of x
  pub holds : Holds (read_of x) d t u e f g

-- what an entry leaves of a scan x: all beyond what is used is zero, and on a refusal all
pub record Leaves (x : Scan) (d t u : List ℕ) (r : Result Rows Refusal) (e f g : List ℕ) : Type 0 where
  pub answer : r ≡ parsed_of x
  pub stored : e ≡ padded (length d) (kept_of x).bytes
  pub imports : f ≡ padded (length t) (import_words_of (kept_of x))
  pub includes : g ≡ padded (length u) (include_words_of (kept_of x))

-- the lengths lent are part of the input
abbrev pub lent_scan : Bool → List ℕ → Bool → List ℕ → List ℕ → List ℕ → Scan
lent_scan whole s short d t u = dependencies whole s (is_too_short short (length s) (length d) (length t) (length u))

-- scan_over
abbrev pub Scans : Bool → List ℕ → Bool → List ℕ → List ℕ → List ℕ → Result Rows Refusal → List ℕ → List ℕ → List ℕ → Type 0
Scans whole s short d t u r e f g = Parses (lent_scan whole s short d t u) d t u r e f g

-- scan_lent, and with short false extract_yang_dependencies
abbrev pub Extracts : Bool → List ℕ → Bool → List ℕ → List ℕ → List ℕ → Result Rows Refusal → List ℕ → List ℕ → List ℕ → Type 0
Extracts whole s short d t u r e f g = Leaves (lent_scan whole s short d t u) d t u r e f g
