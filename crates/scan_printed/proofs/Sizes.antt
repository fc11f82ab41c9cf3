-- The printed form is at most 6,944 bytes longer than its values: 19 bytes go around an import's values, 8 around an include's, 32 into headings and
-- the empty line, and there are 256 rows of each kind at the most.
-- Assumes nothing.
use mathlib.Core.Bool.{Bool, true, false, cond}
use mathlib.Core.List.{List, [], ◌∷◌, ◌++◌, map, flatten}
use Prim.Native.Nat.{ℕ, ◌+◌, ◌*◌, ◌≤◌}
use native.Mathlib.Nat.{suc-mul}
use native.Mathlib.Omega.{arith}
use lib.ListN.{length, drop, length-append, length-take}
use Rattle.scan_line.specs.Line.{newline, decimal}
use Rattle.scan_line.proofs.Decimal.{decimal_size}
use Rattle.scan_line.proofs.Going.{sum, flatten_length}
use Rattle.scan_rows.specs.Span.{value_in}
use Rattle.scan_rows.specs.Rows.{most_rows}
use Rattle.scan_rows.specs.declared.Span.{Span}
use Rattle.scan_rows.specs.declared.YangImport.{YangImport}
use Rattle.scan_rows.specs.declared.YangInclude.{YangInclude}
use Rattle.scan_printed.specs.Pieces.{head_end, imports_head, includes_head, bullet, prefix_open, prefix_close, revision_sign}
use Rattle.scan_printed.specs.Printed.{heading, revision, import_line, include_line, import_lines, include_lines, printed}
use Rattle.scan_rows.specs.Sizes.{total, import_values, include_values, import_sizes, include_sizes}

pub value_size : (store : List ℕ) (x : Span) → length (value_in store x) ≤ x.size
unfolding value_in
value_size store x = omega (arith, length-take x.size (drop x.start store))

signed_size : (b : Bool) (v : List ℕ) → length (cond b (revision_sign ++ v) []) ≤ 3 + length v
signed_size true v = omega arith
signed_size false v = omega arith

revision_size : (store : List ℕ) (x : Span) → length (revision store x) ≤ 3 + x.size
unfolding revision
revision_size store x = omega (arith, signed_size x.present (value_in store x), value_size store x)

-- ---- pieces

heading_size : (word : List ℕ) (n : ℕ) → n ≤ most_rows → length (heading word n) ≤ length word + 6
unfolding heading sum
heading_size word n h = omega (arith, flatten_length (word ∷ decimal n ∷ head_end ∷ []), decimal_size 2 n (omega (arith, h)) (omega (arith, h)))

import_size : (store : List ℕ) (i : YangImport) → length (import_line store i) ≤ 19 + import_values i
unfolding import_line sum
import_size store i =
    omega (
      arith,
      flatten_length (bullet ∷ value_in store i.module_name ∷ prefix_open ∷ value_in store i.prefix ∷ prefix_close ∷ revision store i.revision_date
          ∷ newline ∷ []),
      value_size store i.module_name,
      value_size store i.prefix,
      revision_size store i.revision_date,
    )

include_size : (store : List ℕ) (i : YangInclude) → length (include_line store i) ≤ 8 + include_values i
unfolding include_line sum
include_size store i =
    omega (
      arith,
      flatten_length (bullet ∷ value_in store i.submodule_name ∷ revision store i.revision_date ∷ newline ∷ []),
      value_size store i.submodule_name,
      revision_size store i.revision_date,
    )

-- ---- lines of any kind, of which each has k bytes around its values

module _ {A : Type 0} (line : A → List ℕ) (k : ℕ) (values : A → ℕ) (size : (i : A) → length (line i) ≤ k + values i) where
  lines_size : (is : List A) → length (flatten (map line is)) ≤ length is * k + total values is
  unfolding flatten total
  lines_size [] = omega arith
  lines_size (i ∷ is) = omega (arith, length-append (line i) (flatten (map line is)), size i, lines_size is, suc-mul (length is) k)

imports_size : (store : List ℕ) (is : List YangImport) → length (import_lines store is) ≤ length is * 19 + import_sizes is
unfolding import_lines import_sizes
imports_size store is = lines_size (import_line store) 19 import_values (import_size store) is

includes_size : (store : List ℕ) (js : List YangInclude) → length (include_lines store js) ≤ length js * 8 + include_sizes js
unfolding include_lines include_sizes
includes_size store js = lines_size (include_line store) 8 include_values (include_size store) js

-- ---- the page

pub printed_size : (store : List ℕ) (is : List YangImport) (js : List YangInclude) → length is ≤ most_rows → length js ≤ most_rows
    → length (printed store is js) ≤ 6944 + (import_sizes is + include_sizes js)
unfolding printed sum
printed_size store is js h k =
    omega (
      arith,
      flatten_length (heading imports_head (length is) ∷ import_lines store is ∷ newline ∷ heading includes_head (length js) ∷ include_lines store js ∷ []),
      heading_size imports_head (length is) h,
      heading_size includes_head (length js) k,
      imports_size store is,
      includes_size store js,
    )
