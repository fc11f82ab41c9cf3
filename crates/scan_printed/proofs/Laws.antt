-- The pieces of each definition, in the order of the code, and what the code does with a value's place.
-- Assumes nothing.
use mathlib.Core.Path.{◌≡◌}
use mathlib.Core.Bool.{true, false}
use mathlib.Core.List.{List, [], ◌∷◌, ◌++◌, flatten}
use Prim.Native.Nat.{ℕ}
use Rattle.scan_line.specs.Line.{newline, decimal}
use Rattle.scan_line.proofs.Going.{Going, begin, begin_two}
use Rattle.scan_rows.specs.Span.{value_in}
use Rattle.scan_rows.specs.Rows.{import_size, include_size, import_at, include_at, imports_in, includes_in}
use Rattle.scan_rows.specs.declared.Span.{Span}
use Rattle.scan_rows.specs.declared.YangImport.{YangImport}
use Rattle.scan_rows.specs.declared.YangInclude.{YangInclude}
use Rattle.scan_rows.proofs.Laws.{rows_count}
use Rattle.scan_printed.specs.Pieces.{imports_head, includes_head, head_end, bullet, prefix_open, prefix_close, revision_sign}
use Rattle.scan_printed.specs.Printed.{heading, revision, import_line, include_line, import_lines, include_lines, printed}
use Rattle.scan_printed.proofs.Lines.{lines_from, lines_begin}

-- ---- the pieces of a heading, a line and the whole form

module _ (d : List ℕ) (at : ℕ) where
  pub heading_begin : (word : List ℕ) (n : ℕ) → Going d at (heading word n) d at (word ∷ decimal n ∷ head_end ∷ [])
  unfolding heading
  heading_begin word n = begin d at (word ∷ decimal n ∷ head_end ∷ [])

  pub import_begin : (store : List ℕ) (i : YangImport)
      → Going d at (import_line store i) d at (bullet ∷ value_in store i.module_name ∷ prefix_open ∷ value_in store i.prefix ∷ prefix_close
      ∷ revision store i.revision_date ∷ newline ∷ [])
  unfolding import_line
  import_begin store i = begin d at _

  pub include_begin : (store : List ℕ) (i : YangInclude)
      → Going d at (include_line store i) d at (bullet ∷ value_in store i.submodule_name ∷ revision store i.revision_date ∷ newline ∷ [])
  unfolding include_line
  include_begin store i = begin d at _

  pub imports_begin : (store t : List ℕ) (n : ℕ) → Going d at (import_lines store (imports_in t n)) d at
      (lines_from (import_at t) import_size (import_line store) n 0)
  unfolding import_lines imports_in
  imports_begin store t n = lines_begin (import_at t) import_size (import_line store) n d at

  pub includes_begin : (store t : List ℕ) (n : ℕ) → Going d at (include_lines store (includes_in t n)) d at
      (lines_from (include_at t) include_size (include_line store) n 0)
  unfolding include_lines includes_in
  includes_begin store t n = lines_begin (include_at t) include_size (include_line store) n d at

  -- the headings' counts are the numbers of rows
  pub printed_begin : (store t u : List ℕ) (m n : ℕ)
      → Going d at (printed store (imports_in t m) (includes_in u n)) d at
      (heading imports_head m ∷ import_lines store (imports_in t m) ∷ newline ∷ heading includes_head n ∷ include_lines store (includes_in u n) ∷ [])
  unfolding printed imports_in includes_in
  printed_begin store t u m n = rw (rows_count (import_at t) import_size m 0) (rw (rows_count (include_at u) include_size n 0) (begin d at _))

-- ---- the end of a line

module _ (store : List ℕ) (x : Span) where
  revision_there : x.present ≡ true → revision store x ≡ revision_sign ++ value_in store x
  unfolding revision
  revision_there t = rw t

  revision_none : x.present ≡ false → revision store x ≡ []
  unfolding revision
  revision_none f = rw f

  module _ (d : List ℕ) (at : ℕ) where
    pub end_there : x.present ≡ true → Going d at (revision store x ++ newline) d at ((revision_sign ++ value_in store x) ∷ newline ∷ [])
    end_there t = rw (revision_there t) (begin_two d at (revision_sign ++ value_in store x) newline)

    pub end_none : x.present ≡ false → Going d at (revision store x ++ newline) d at (newline ∷ [])
    unfolding flatten
    end_none f = rw (revision_none f) (begin d at (newline ∷ []))

-- ---- a value behind its label

-- v: its bytes
pub value_begin : (d : List ℕ) (at : ℕ) (label : List ℕ) {v w : List ℕ} → v ≡ w → Going d at (label ++ w) d at (label ∷ v ∷ [])
value_begin d at label {v} {w} e = rw e (begin_two d at label w)
