-- How long the values of imports and includes are together.
-- Assumes nothing.
use Rattle.std.specs.Prelude.{ℕ, ◌+◌, List, [], ◌∷◌}
use Rattle.scan_rows.specs.declared.YangImport.{YangImport}
use Rattle.scan_rows.specs.declared.YangInclude.{YangInclude}

module _ {A : Type 0} where
  unfoldable pub total : (A → ℕ) → List A → ℕ
  total f [] = 0
  total f (i ∷ is) = f i + total f is

abbrev pub import_values : YangImport → ℕ
import_values i = i.module_name.size + i.prefix.size + i.revision_date.size

abbrev pub include_values : YangInclude → ℕ
include_values j = j.submodule_name.size + j.revision_date.size

unfoldable pub import_sizes : List YangImport → ℕ
import_sizes is = total import_values is

unfoldable pub include_sizes : List YangInclude → ℕ
include_sizes js = total include_values js
