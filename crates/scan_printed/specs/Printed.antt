-- The printed form of YangDependencies: `Imports (N):`; a line `  - NAME (prefix: PREFIX)` for each import; an empty line; `Includes (N):`; a line
-- `  - NAME` for each include. ` @ ` and revision only if present. A line break, byte 10, closes each line.
-- Assumes nothing.
use Rattle.std.specs.Prelude.{ℕ, cond, length}
use mathlib.Core.List.{List, [], ◌∷◌, ◌++◌, map, flatten}
use Rattle.scan_line.specs.Line.{newline, decimal}
use Rattle.scan_rows.specs.Rows.{imports_in, includes_in}
use Rattle.scan_rows.specs.Span.{value_in}
use Rattle.scan_rows.specs.declared.Span.{Span}
use Rattle.scan_rows.specs.declared.YangImport.{YangImport}
use Rattle.scan_rows.specs.declared.YangInclude.{YangInclude}
use Rattle.scan_printed.specs.Pieces.{imports_head, includes_head, head_end, bullet, prefix_open, prefix_close, revision_sign}

unfoldable pub heading : List ℕ → ℕ → List ℕ
heading word n = flatten (word ∷ decimal n ∷ head_end ∷ [])

unfoldable pub revision : List ℕ → Span → List ℕ
revision store x = cond x.present (revision_sign ++ value_in store x) []

unfoldable pub import_line : List ℕ → YangImport → List ℕ
import_line store i =
    flatten
    (bullet ∷ value_in store i.module_name ∷ prefix_open ∷ value_in store i.prefix ∷ prefix_close
    ∷ revision store i.revision_date ∷ newline ∷ [])

unfoldable pub include_line : List ℕ → YangInclude → List ℕ
include_line store i = flatten (bullet ∷ value_in store i.submodule_name ∷ revision store i.revision_date ∷ newline ∷ [])

unfoldable pub import_lines : List ℕ → List YangImport → List ℕ
import_lines store is = flatten (map (import_line store) is)

unfoldable pub include_lines : List ℕ → List YangInclude → List ℕ
include_lines store js = flatten (map (include_line store) js)

-- of the imports and includes whose values stand in the store
unfoldable pub printed : List ℕ → List YangImport → List YangInclude → List ℕ
printed store is js =
    flatten
    (heading imports_head (length is) ∷ import_lines store is ∷ newline
    ∷ heading includes_head (length js) ∷ include_lines store js ∷ [])

-- of m rows of imports and n rows of includes
abbrev pub printed_rows : List ℕ → List ℕ → ℕ → List ℕ → ℕ → List ℕ
printed_rows store imports m includes n = printed store (imports_in imports m) (includes_in includes n)
