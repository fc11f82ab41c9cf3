-- What there is under a name of a bundle: no text, a text whose scan is refused, or the names that it imports and includes. The scan enters the graph
-- through this definition alone.
-- Assumes nothing.
use Rattle.std.specs.Prelude.{ℕ, ◌*◌, ◌≤◌, ◌≡◌, false, List, map, length, take, drop, Err, Ok, None, Some, Result, Option}
use Rattle.scan_rows.specs.Span.{value_in}
use Rattle.scan_rows.specs.Rows.{import_size, include_size, most_rows, imports_in, includes_in}
use Rattle.scan_rows.specs.declared.YangImport.{YangImport}
use Rattle.scan_rows.specs.declared.YangInclude.{YangInclude}
use Rattle.yangparser.specs.Dependencies.{Scan, good, bad, dependencies}
use Rattle.library_image.specs.Library.{Name}
use Rattle.library_bundle.specs.Bundle.{look_up}
use Rattle.graph.specs.Graph.{Text, missing, refusing, deps}
use Rattle.text.specs.declared.Refusal.{Refusal}

-- ---- the names of rows, from the bytes that were stored

unfoldable pub import_names : List ℕ → List YangImport → List Name
import_names bytes is = map (λ (i : YangImport). value_in bytes i.module_name) is

unfoldable pub include_names : List ℕ → List YangInclude → List Name
include_names bytes is = map (λ (i : YangInclude). value_in bytes i.submodule_name) is

-- ---- a text, scanned with enough lent; a graph does not ask that its texts are whole (2026-07)

abbrev pub scan_seen : Scan → Text
scan_seen (good d) = deps (import_names d.bytes d.imports) (include_names d.bytes d.includes)
scan_seen (bad r d) = refusing r

unfoldable pub scan_text : List ℕ → Text
scan_text t = scan_seen (dependencies false t false)

-- ---- the text under a name

abbrev pub look_text : List ℕ → Result (Option (ℕ × ℕ)) ℕ → Text
look_text b (Err p) = missing
look_text b (Ok None) = missing
look_text b (Ok (Some (from, size))) = scan_text (take size (drop from b))

unfoldable pub text_of : (bundle : List ℕ) → Name → Text
text_of b u = look_text b (look_up b u)

-- ---- what the code answers and leaves; e, f and g: store, import table and include table at exit

abbrev pub text_seen : Result (Option (ℕ × ℕ)) Refusal → List ℕ → List ℕ → List ℕ → Text
text_seen (Ok None) e f g = missing
text_seen (Err r) e f g = refusing r
text_seen (Ok (Some (m, n))) e f g = deps (import_names e (imports_in f m)) (include_names e (includes_in g n))

abbrev pub FewRows : Result (Option (ℕ × ℕ)) Refusal → Type 0
FewRows (Ok None) = Unit {0}
FewRows (Err r) = Unit {0}
FewRows (Ok (Some (m, n))) = (m ≤ most_rows) × (n ≤ most_rows)

pub record SeenAs (t : Text) (d f₀ g₀ : List ℕ) (r : Result (Option (ℕ × ℕ)) Refusal) (e f g : List ℕ) : Type 0 where
  pub seen : text_seen r e f g ≡ t
  pub few : FewRows r
  pub kept_store : length e ≡ length d
  pub kept_imports : length f ≡ length f₀
  pub kept_includes : length g ≡ length g₀

-- room for a text of so many bytes
pub record ScanRoom (size : ℕ) (store imports includes : List ℕ) : Type 0 where
  pub store_room : size ≤ length store
  pub import_room : most_rows * import_size ≤ length imports
  pub include_room : most_rows * include_size ≤ length includes
