-- Import rows of seven 32-bit words (name start, length; prefix start, length; 1 or 0 for revision present, start, length), include rows of five
-- (name, then revision).
-- Assumes nothing.
use Rattle.std.specs.Prelude.{ℕ, zero, suc, ◌+◌, ◌≡◌, cond, List, [], ◌∷◌, ◌++◌, eqb, get_or}
use Rattle.scan_rows.specs.Span.{held, missing, mark_of, Fits, Within}
use Rattle.scan_rows.specs.declared.Span.{Span}
use Rattle.scan_rows.specs.declared.YangImport.{YangImport}
use Rattle.scan_rows.specs.declared.YangInclude.{YangInclude}

-- words to a row, and rows at the most
abbrev pub import_size : ℕ
import_size = 7

abbrev pub include_size : ℕ
include_size = 5

abbrev pub most_rows : ℕ
most_rows = 256

-- ---- a row written

unfoldable pub import_words : YangImport → List ℕ
import_words i =
    i.module_name.start ∷ i.module_name.size ∷ i.prefix.start ∷ i.prefix.size
    ∷ mark_of i.revision_date ∷ i.revision_date.start ∷ i.revision_date.size ∷ []

unfoldable pub include_words : YangInclude → List ℕ
include_words i =
    i.submodule_name.start ∷ i.submodule_name.size
    ∷ mark_of i.revision_date ∷ i.revision_date.start ∷ i.revision_date.size ∷ []

-- what a row can hold: numbers that are words
abbrev pub FitsImport : YangImport → Type 0
FitsImport i = Fits i.module_name × Fits i.prefix × Fits i.revision_date

abbrev pub FitsInclude : YangInclude → Type 0
FitsInclude i = Fits i.submodule_name × Fits i.revision_date

-- what a row tells whole: a value that is always there, and one that may be missing, then with 0, 0
abbrev pub There : Span → Type 0
There x = x ≡ held x.start x.size

abbrev pub Plain : Span → Type 0
Plain x = x ≡ cond x.present (held x.start x.size) missing

abbrev pub PlainImport : YangImport → Type 0
PlainImport i = There i.module_name × There i.prefix × Plain i.revision_date

abbrev pub PlainInclude : YangInclude → Type 0
PlainInclude i = There i.submodule_name × Plain i.revision_date

-- its values lie among the first n bytes of the store
abbrev pub ImportWithin : ℕ → YangImport → Type 0
ImportWithin n i = Within n i.module_name × Within n i.prefix × Within n i.revision_date

abbrev pub IncludeWithin : ℕ → YangInclude → Type 0
IncludeWithin n i = Within n i.submodule_name × Within n i.revision_date

module _ {A : Type 0} where
  unfoldable pub Each : (A → Type 0) → List A → Type 0
  Each P [] = Unit {0}
  Each P (i ∷ is) = P i × Each P is

-- ---- a table: rows one behind the other

module _ {A : Type 0} where
  unfoldable pub table : (A → List ℕ) → List A → List ℕ
  table words [] = []
  table words (i ∷ is) = words i ++ table words is

unfoldable pub import_table : List YangImport → List ℕ
import_table is = table import_words is

unfoldable pub include_table : List YangInclude → List ℕ
include_table is = table include_words is

-- ---- a row read back from the words t, at the word where it starts

unfoldable pub span_at : List ℕ → ℕ → Span
span_at t at = held (get_or t at 0) (get_or t (at + 1) 0)

unfoldable pub marked_at : List ℕ → ℕ → Span
marked_at t at = cond (eqb (get_or t at 0) 0) missing (span_at t (at + 1))

unfoldable pub import_at : List ℕ → ℕ → YangImport
import_at t at = record { module_name = span_at t at; prefix = span_at t (at + 2); revision_date = marked_at t (at + 4) }

unfoldable pub include_at : List ℕ → ℕ → YangInclude
include_at t at = record { submodule_name = span_at t at; revision_date = marked_at t (at + 2) }

module _ {A : Type 0} where
  -- n rows of `size` words, from the word `at` on
  unfoldable pub rows_of : (ℕ → A) → ℕ → ℕ → ℕ → List A
  rows_of row size zero at = []
  rows_of row size (suc n) at = row at ∷ rows_of row size n (at + size)

unfoldable pub imports_in : List ℕ → ℕ → List YangImport
imports_in t n = rows_of (import_at t) import_size n 0

unfoldable pub includes_in : List ℕ → ℕ → List YangInclude
includes_in t n = rows_of (include_at t) include_size n 0
