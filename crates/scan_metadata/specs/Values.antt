-- The six values as the code holds them: an array in the order name, namespace, prefix, first revision, parent, newest. The value of a keyword takes its
-- place; the first revision stays, and a newer one takes the newest's place.
-- Assumes nothing.
use Rattle.std.specs.Prelude.{ℕ, cond, List, eqb, get_or, set}
use Rattle.text.specs.Words.{belongs_to_keyword, namespace_keyword, prefix_keyword, revision_keyword}
use Rattle.scan_rows.specs.Span.{missing}
use Rattle.scan_rows.specs.declared.Span.{Span}
use Rattle.scan_newest.specs.Newest.{comes_newer}
use Rattle.scan_metadata.specs.Metadata.{no_name, good_with, refused_with}
use Rattle.scan_metadata.specs.declared.YangModuleMetadata.{YangModuleMetadata}

abbrev pub name_value : ℕ
name_value = 0

abbrev pub namespace_value : ℕ
namespace_value = 1

abbrev pub prefix_value : ℕ
prefix_value = 2

abbrev pub first_value : ℕ
first_value = 3

abbrev pub parent_value : ℕ
parent_value = 4

abbrev pub newest_value : ℕ
newest_value = 5

-- where the value of a keyword stands
unfoldable pub value_of : ℕ → ℕ
value_of k = cond (eqb k belongs_to_keyword) parent_value (cond (eqb k namespace_keyword) namespace_value (cond (eqb k prefix_keyword) prefix_value name_value))

unfoldable pub first_kept : List Span → Span → List Span
first_kept vs x = cond (get_or vs first_value missing).present vs (set vs first_value x)

-- by the store that has both values' bytes
unfoldable pub newest_kept : List ℕ → List Span → Span → List Span
newest_kept store vs x = cond (comes_newer store (get_or vs newest_value missing) x) (set vs newest_value x) vs

unfoldable pub kept_in : List ℕ → List Span → ℕ → Span → List Span
kept_in store vs k x = cond (eqb k revision_keyword) (newest_kept store (first_kept vs x) x) (set vs (value_of k) x)

-- a name is required
unfoldable pub ended_with : List Span → ℕ → ℕ → YangModuleMetadata
ended_with vs n at = cond (get_or vs name_value missing).present (good_with vs n) (refused_with (record { number = no_name; keyword = 0; at = at }))
