-- Demand 3, as one list of statements about the graph of demand 2: what a built graph is, when it is built, why it is refused, and that it does not
-- depend on how a library is spread over its sets, nor on the order in them.
-- Assumes nothing.
use Rattle.std.specs.Prelude.{ℕ, ◌<◌, ◌≡◌, ◌↔◌, length}
use mathlib.Core.List.{List, [], ◌∷◌, map, flat_map, flatten, Memᴰ, Nodup, Perm}
use Rattle.library_image.specs.Library.{Name, PlainModule, PlainImportOnly, PlainLibrary, modules_of, import_only_of}
use Rattle.graph.specs.Nodes.{Mode, Group, groups, nodes_of}
use Rattle.graph.specs.Graph.{ScanAnswer, Text, Edge, edge, Graph, graph, fault, graph_of}
use Rattle.graph.specs.Numbers.{number_of, Row, row, row_of}
use Rattle.graph.specs.Meaning.{Revised, IsEdge, Sound, Cause}

-- every name that may become a node, as often as it stands there
abbrev pub group_names : {A : Type 0} → Group A → List A
group_names g = g.head ∷ g.subs

abbrev pub all_names : PlainLibrary → List Name
all_names l = flat_map group_names (groups l)

-- ---- two spreads of one library

-- each name is a module, an import-only module or a submodule only once, and each import-only module has one revision (differ counts an import-only name
-- once for each revision; single says that there is one)
pub record Once (l : PlainLibrary) : Type 0 where
  pub differ : Nodup (all_names l)
  pub single : (i : PlainImportOnly) → Memᴰ i (import_only_of l) → (subs : List Name) × (i.revisions ≡ (subs ∷ []))

-- the same module but for the order of its lists
pub record AlikeModule (m n : PlainModule) : Type 0 where
  pub name : m.name ≡ n.name
  pub submodules : Perm m.submodules n.submodules
  pub augmenting : Perm m.augmenting n.augmenting
  pub deviations : Perm m.deviations n.deviations

-- the same import-only module but for the order of its submodules; revisions are run together: with Once there is one, and in the mode `complete` it does not
-- matter how submodules are spread over them
pub record AlikeImport (i j : PlainImportOnly) : Type 0 where
  pub name : i.name ≡ j.name
  pub submodules : Perm (flatten i.revisions) (flatten j.revisions)

-- each entry of the one has its like in the other; ∥ .. ∥₁: there is one, whichever it is
pub record Within (l l₁ : PlainLibrary) : Type 0 where
  pub modules : (m : PlainModule) → Memᴰ m (modules_of l)
      → ∥ ((n : PlainModule) × Memᴰ n (modules_of l₁) × AlikeModule m n) ∥₁
  pub import_only : (i : PlainImportOnly) → Memᴰ i (import_only_of l)
      → ∥ ((j : PlainImportOnly) × Memᴰ j (import_only_of l₁) × AlikeImport i j) ∥₁

pub record SameEntries (l l₁ : PlainLibrary) : Type 0 where
  pub there : Within l l₁
  pub back : Within l₁ l

-- the plain case: the same modules and import-only modules, spread over the sets and ordered in another way
pub record Permuted (l l₁ : PlainLibrary) : Type 0 where
  pub modules : Perm (modules_of l) (modules_of l₁)
  pub import_only : Perm (import_only_of l) (import_only_of l₁)

-- both are refused, or both are built with the same names and the same edges between names
pub data Agree : Graph → Graph → Type 0 where
  both_refused : {n k n₁ k₁ : ℕ} {a a₁ : ScanAnswer} → Agree (fault n k a) (fault n₁ k₁ a₁)
  both_built : {ns ns₁ : List Name} {es es₁ : List Edge} → Perm ns ns₁ → Perm es es₁ → Agree (graph ns es) (graph ns₁ es₁)

-- ---- the demand

-- the rows of a built graph: each names two nodes, none stands twice, and there is one of u's and v's numbers exactly if there is an edge from u to v
pub record Rows (text : Name → Text) (l : PlainLibrary) (ns : List Name) (es : List Edge) : Type 0 where
  pub small : (r : Row) → Memᴰ r (map (row_of ns) es) → (r.from < length ns) × (r.to < length ns)
  pub differ : Nodup (map (row_of ns) es)
  pub exact : (u v : Name) → Memᴰ u ns → Memᴰ v ns
      → Memᴰ (row (number_of ns u) (number_of ns v)) (map (row_of ns) es) ↔ IsEdge text l u v

-- a graph that is built: its names differ, each edge stands once, and there is one from u to v exactly if the texts and lists say so
pub record Right (mode : Mode) (text : Name → Text) (l : PlainLibrary) (ns : List Name) (es : List Edge) : Type 0 where
  pub nodes : ns ≡ nodes_of mode l
  pub names_differ : Nodup ns
  pub names_all : Once l → (v : Name) → Memᴰ v ns ↔ Memᴰ v (all_names l)
  pub edges_differ : Nodup es
  pub exact : (u v : Name) → Memᴰ (edge u v) es ↔ IsEdge text l u v
  pub ends : Revised l → (u v : Name) → Memᴰ (edge u v) es → Memᴰ u ns × Memᴰ v ns
  pub rows : Revised l → Rows text l ns es

pub record Demand3 (mode : Mode) (node_limit edge_limit : ℕ) (text : Name → Text) : Type 0 where
  pub right : (l : PlainLibrary) (ns : List Name) (es : List Edge) → graph_of mode node_limit edge_limit text l ≡ graph ns es → Right mode text l ns es
  pub built : (l : PlainLibrary)
      → ((ns : List Name) × (es : List Edge) × (graph_of mode node_limit edge_limit text l ≡ graph ns es)) ↔ Sound mode text l node_limit edge_limit
  pub refused : (l : PlainLibrary) (n k : ℕ) (a : ScanAnswer) → graph_of mode node_limit edge_limit text l ≡ fault n k a
      → Cause mode text l node_limit edge_limit n k a
  pub spread : (l l₁ : PlainLibrary) → SameEntries l l₁ → Once l → Once l₁
      → Agree (graph_of mode node_limit edge_limit text l) (graph_of mode node_limit edge_limit text l₁)
  pub permuted : (l l₁ : PlainLibrary) → Permuted l l₁ → Once l
      → Agree (graph_of mode node_limit edge_limit text l) (graph_of mode node_limit edge_limit text l₁)
