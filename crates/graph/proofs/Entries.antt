-- Where an entry comes from, and that its name is a node: a module and an import-only module with a revision each head a group.
-- Assumes nothing.
use mathlib.Core.Path.{◌≡◌, sym, ap}
use mathlib.Core.Logic.{◌⊎◌, inl, inr, ⊎_elim}
use mathlib.Core.Bool.{true}
use mathlib.Core.List.Memᴰ
use mathlib.Core.List.{map, Memᴰ}
use Rattle.library_image.specs.Library.{Name, PlainModule, PlainImportOnly, PlainSet, PlainLibrary, modules_of, import_only_of}
use Rattle.graph.specs.Nodes.{Mode, nodes_of, memb}
use Rattle.graph.specs.Graph.{Entry, module_entry, import_entry, set_entries, entries, entry_names}
use Rattle.graph.specs.Meaning.{Revised}
use Rattle.graph.proofs.Tests.{memb_mem, mem_memb, each_in, each_out}
use Rattle.graph.proofs.Sets.{module_in, module_out, import_only_in, import_only_out}
use Rattle.graph.proofs.Nodes.{entry_node}

pub module_entry_lem : (l : PlainLibrary) {m : PlainModule} → Memᴰ m (modules_of l) → Memᴰ (module_entry m) (entries l)
module_entry_lem l m = let r = module_out l m in each_in set_entries r.1 (Memᴰ.append_left _ (Memᴰ.map module_entry r.2))

pub import_entry_lem : (l : PlainLibrary) {i : PlainImportOnly} → Memᴰ i (import_only_of l) → Memᴰ (import_entry i) (entries l)
import_entry_lem l m = let r = import_only_out l m in each_in set_entries r.1 (Memᴰ.append_right (map module_entry r.0.modules) (Memᴰ.map import_entry r.2))

pub data Came (l : PlainLibrary) (e : Entry) : Type 0 where
  from_module : (m : PlainModule) → Memᴰ m (modules_of l) → module_entry m ≡ e → Came l e
  from_import : (i : PlainImportOnly) → Memᴰ i (import_only_of l) → import_entry i ≡ e → Came l e

pub came : (l : PlainLibrary) {e : Entry} → Memᴰ e (entries l) → Came l e
came l {e} m = let r = each_out set_entries l m in go r.0 r.1 (Memᴰ.append_cases (map module_entry r.0.modules) r.2)
  where
    go : (s : PlainSet) → Memᴰ s l → Memᴰ e (map module_entry s.modules) ⊎ Memᴰ e (map import_entry s.import_only) → Came l e
    go s k (inl n) = let q = Memᴰ.of_map module_entry s.modules n in from_module q.0 (module_in l k q.1) q.2
    go s k (inr n) = let q = Memᴰ.of_map import_entry s.import_only n in from_import q.0 (import_only_in l k q.1) q.2

-- ---- the name of an entry, and the entry of a name

abbrev pub module_name : PlainModule → Name
module_name m = m.name

abbrev pub import_name : PlainImportOnly → Name
import_name i = i.name

pub entry_name : (l : PlainLibrary) {e : Entry} → Came l e → Memᴰ e.name (entry_names l)
entry_name l (from_module m k q) = Memᴰ.cast (ap (λ (e : Entry). e.name) (sym q)) (Memᴰ.append_left _ (Memᴰ.map module_name k))
entry_name l (from_import i k q) = Memᴰ.cast (ap (λ (e : Entry). e.name) (sym q)) (Memᴰ.append_right (map module_name (modules_of l)) (Memᴰ.map import_name k))

pub name_entry : (l : PlainLibrary) {v : Name} → Memᴰ v (entry_names l) → (e : Entry) × Memᴰ e (entries l) × (e.name ≡ v)
name_entry l {v} m =
    ⊎_elim
    (λ n. let q = Memᴰ.of_map module_name (modules_of l) n in (module_entry q.0, module_entry_lem l q.1, q.2))
    (λ n. let q = Memᴰ.of_map import_name (import_only_of l) n in (import_entry q.0, import_entry_lem l q.1, q.2))
    (Memᴰ.append_cases (map module_name (modules_of l)) m)

-- ---- each entry's name and each known name is a node

module _ (mode : Mode) (l : PlainLibrary) (revised : Revised l) where
  pub entry_is_node : (e : Entry) → Memᴰ e (entries l) → Memᴰ e.name (nodes_of mode l)
  entry_is_node e m = entry_node mode l revised e.name (entry_name l (came l m))

  pub known_node : (u : Name) → memb u (entry_names l) ≡ true → Memᴰ u (nodes_of mode l)
  known_node u q = entry_node mode l revised u (memb_mem u (entry_names l) q)

  pub known_among : (u : Name) → memb u (entry_names l) ≡ true → memb u (nodes_of mode l) ≡ true
  known_among u q = mem_memb (known_node u q)
