-- What a node may be: one that is imported or listed (a module or import-only name), one that is included (a submodule of some module). Two words a
-- node, 1 or 0 for each.
-- Assumes nothing.
use Rattle.std.specs.Prelude.{ℕ, suc, ◌+◌, ◌*◌, ◌≤◌, ◌<◌, ◌≡◌, Bool, true, false, cond, List, [], ◌∷◌, length, get_or, None, Some, Option}
use Rattle.text.specs.Keyword.{same}
use Rattle.library_form.specs.Form.{Ans, good, bad, PlacedName}
use Rattle.library_image.specs.Image.{image_at}
use Rattle.library_image.specs.Library.{Name}
use Rattle.library_items.specs.Items.{ItemOf, items_at}
use Rattle.library_items.specs.Table.{item_in, items_in, ItemFits, Reads}
use Rattle.library_items.specs.declared.Kind.{Kind}
use Rattle.library_items.specs.declared.Kind.TheVariants.{Submodule}
use Rattle.library_index.specs.Names.{name_in_row, names_in, Indexed}
use Rattle.graph.specs.Graph.{entry_names, submodule_names, missing, World, world_over}
use Rattle.graph.specs.Nodes.{memb}
use Rattle.graph.specs.Numbers.{module_code, submodule_code}
use Rattle.graph.specs.Limits.{most_nodes}
use Rattle.graph_nodes.specs.Adding.{node_table, is_entry, plain_at, names_held, Holding}
use Rattle.graph_marks.specs.declared.Included.{Included}
use Rattle.graph_marks.specs.declared.Included.TheVariants.{NotFound, NotNode, Node as Below}
use Rattle.graph.specs.declared.NodeIndex.{NodeIndex}

abbrev pub mark_table : ℕ
mark_table = most_nodes * 2

abbrev pub is_submodule : Kind → Bool
is_submodule Submodule = true
is_submodule _ = false

-- a name is that of an item of such a kind
unfoldable pub among_kind : (Kind → Bool) → Name → List (ItemOf PlacedName) → Bool
among_kind kind u [] = false
among_kind kind u (x ∷ xs) = cond (kind x.kind) (cond (same x.name.text u) true (among_kind kind u xs)) (among_kind kind u xs)

abbrev pub bit : Bool → ℕ
bit b = cond b 1 0

-- ---- the marks of n nodes, from so many items

pub record Marked (s tab : List ℕ) (n : ℕ) (xs : List (ItemOf PlacedName)) (marks : List ℕ) : Type 0 where
  pub wide : mark_table ≤ length marks
  pub known : (i : ℕ) → i < n → get_or marks (i * 2) 0 ≡ bit (among_kind is_entry (name_in_row s tab i).text xs)
  pub listed : (i : ℕ) → i < n → get_or marks (i * 2 + 1) 0 ≡ bit (among_kind is_submodule (name_in_row s tab i).text xs)

-- what the marking by an item asks, those before it done
pub record Marking (s table : List ℕ) (i : ℕ) (tab : List ℕ) (n : ℕ) (marks : List ℕ) : Type 0 where
  pub there : i * 2 + 2 ≤ length table
  pub fits : ItemFits s (item_in table i)
  pub indexed : Indexed s tab n
  pub few : n ≤ most_nodes
  pub marked : Marked s tab n (items_in s table i) marks

-- all that a look-up of a node asks: an index in which each module and import-only module is a node, and the marks of its names
pub record Desk (s tab : List ℕ) (n : ℕ) (marks : List ℕ) : Type 0 where
  pub reads : Reads (image_at s)
  pub holding : Holding s tab n (names_in s tab n)
  pub entries : (u : Name) → memb u (entry_names (plain_at s)) ≡ true → memb u (names_held s tab n) ≡ true
  pub marked : Marked s tab n (items_at s) marks

-- an answer that is no refusal
abbrev pub is_good : {A : Type 0} → Ans A → Bool
is_good (good a n) = true
is_good (bad p) = false

-- the same as tests and numbers: what holds of the nodes that are handed to a look-up
pub record LooksUp (s tab : List ℕ) (n : ℕ) (marks : List ℕ) : Type 0 where
  pub read : is_good (image_at s) ≡ true
  pub indexed : Indexed s tab n
  pub few : n ≤ most_nodes
  pub space : node_table ≤ length tab
  pub entries : (u : Name) → memb u (entry_names (plain_at s)) ≡ true → memb u (names_held s tab n) ≡ true
  pub marked : Marked s tab n (items_at s) marks

-- ---- the look-ups

-- what a walk asks of an image and of its nodes' names: the same whatever the texts are
abbrev pub world_at : List ℕ → List Name → World
world_at s ns = world_over ns (λ u. missing) (plain_at s)

unfoldable pub known_at : List ℕ → List Name → Name → ℕ
known_at s ns u = module_code (world_at s ns) ns u

-- of a name that is no node: 1 if it is a submodule of some module
unfoldable pub listed_at : List ℕ → Name → ℕ
listed_at s u = bit (memb u (submodule_names (plain_at s)))

unfoldable pub included_at : List ℕ → List Name → Name → ℕ
included_at s ns u = submodule_code (world_at s ns) ns u

abbrev pub resolved_code : Option NodeIndex → ℕ
resolved_code None = 0
resolved_code (Some v) = suc v.0

abbrev pub included_code : Included → ℕ
included_code NotFound = 0
included_code NotNode = 1
included_code (Below v) = suc (suc v.0)

abbrev pub ResolvedNode : Option NodeIndex → ℕ → Type 0
ResolvedNode None n = Unit {0}
ResolvedNode (Some v) n = v.0 < n

abbrev pub IncludedNode : Included → ℕ → Type 0
IncludedNode NotFound n = Unit {0}
IncludedNode NotNode n = Unit {0}
IncludedNode (Below v) n = v.0 < n
