-- The nodes, made going through the items of an image: a module or an import-only module whose name is new is added and, as long as no other comes, so
-- are its submodules; of an import-only module those of its first revision, since for the next one its name is already a node. In the mode `complete` the
-- submodules of every listing and of every revision are added.
-- Assumes nothing.
use Rattle.std.specs.Prelude.{ℕ, ◌+◌, ◌*◌, ◌≤◌, ◌<◌, ◌≡◌, Bool, true, false, cond, ◌&&◌, List, [], ◌∷◌, ◌++◌, map, length, Some, None, Option}
use Rattle.library_form.specs.Form.{PlacedName, word_at}
use Rattle.library_image.specs.Library.{Name, PlainLibrary, plain_name, plain}
use Rattle.library_image.specs.Image.{most_image}
use Rattle.library_index.specs.Names.{among, names_in, Indexed}
use Rattle.library_items.specs.Items.{ItemOf, library_of}
use Rattle.library_items.specs.Table.{item_in, ItemFits}
use Rattle.library_items.specs.declared.Kind.{Kind}
use Rattle.library_items.specs.declared.Kind.TheVariants.{Module, Submodule, ImportOnly, FirstSub, LaterSub}
use Rattle.graph.specs.Graph.{too_many_nodes}
use Rattle.graph.specs.Limits.{most_nodes}
use Rattle.graph.specs.Nodes.{Mode, memb, word_nodes}

-- how many words the index of nodes has at the least: there is room for one too many
abbrev pub node_table : ℕ
node_table = 5123

-- ---- one item after another

abbrev pub is_entry : Kind → Bool
is_entry Module = true
is_entry ImportOnly = true
is_entry _ = false

abbrev pub is_sub : (complete : Bool) → Kind → Bool
is_sub complete Submodule = true
is_sub complete LaterSub = complete
is_sub complete FirstSub = true
is_sub complete _ = false

-- the nodes so far, and whether submodules that come now are added
pub record Adding : Type 0 where
  pub nodes : List PlacedName
  pub adding : Bool

abbrev pub so : List PlacedName → Bool → Adding
so ns b = record { nodes = ns; adding = b }

-- a name more, unless it is a node; `there`: whether submodules are added even then
unfoldable pub add_name : Adding → (there : Bool) → PlacedName → Adding
add_name a there w = cond (among plain_name w.text a.nodes) (so a.nodes there) (so (a.nodes ++ (w ∷ [])) true)

-- an entry that is a node hands on whether its submodules are added all the same
unfoldable pub add_item : (complete : Bool) → Adding → ItemOf PlacedName → Adding
add_item complete a x =
    cond (is_entry x.kind) (add_name a complete x.name) (cond (a.adding && is_sub complete x.kind) (add_name a true x.name) a)

unfoldable pub add_items : (complete : Bool) → Adding → List (ItemOf PlacedName) → Adding
add_items complete a [] = a
add_items complete a (x ∷ xs) = add_items complete (add_item complete a x) xs

-- ---- of an image

abbrev pub plain_at : List ℕ → PlainLibrary
plain_at s = plain (library_of s)

-- the nodes of an image, each with the place where it was added
unfoldable pub words_at : Mode → List ℕ → List PlacedName
words_at mode s = word_nodes mode (library_of s)

-- the names that an index of nodes holds, in the order of their numbers. All that goes on over the nodes speaks of these, in whatever mode they were made
unfoldable pub names_held : (s tab : List ℕ) → ℕ → List Name
names_held s tab n = map plain_name (names_in s tab n)

-- ---- what the code asks and does

-- an index that holds the nodes so far
pub record Holding (s tab : List ℕ) (n : ℕ) (ns : List PlacedName) : Type 0 where
  pub indexed : Indexed s tab n
  pub names : names_in s tab n ≡ ns
  pub few : n ≤ most_nodes
  pub space : node_table ≤ length tab

-- what the adding of a name asks, and that of an item
pub record Adds (s tab : List ℕ) (n place size : ℕ) : Type 0 where
  pub holding : Holding s tab n (names_in s tab n)
  pub inside : place + size ≤ length s
  pub short : length s ≤ most_image

pub record AddsItem (s table : List ℕ) (i : ℕ) (tab : List ℕ) (n : ℕ) : Type 0 where
  pub holding : Holding s tab n (names_in s tab n)
  pub there : i * 2 + 2 ≤ length table
  pub fits : ItemFits s (item_in table i)
  pub short : length s ≤ most_image

abbrev pub GrownAs : Option (ℕ × Bool) → List ℕ → List ℕ → Adding → Type 0
GrownAs (Some (n, adding)) s tab a = Holding s tab n a.nodes × (adding ≡ a.adding)
GrownAs None s tab a = most_nodes < length a.nodes

-- what was made of the nodes so far
pub record Grew (s tab : List ℕ) (a : Adding) (r : Option (ℕ × Bool)) (after : List ℕ) : Type 0 where
  pub answer : GrownAs r s after a
  pub kept : length after ≡ length tab

abbrev pub NodesAs : Mode → Option ℕ → List ℕ → List ℕ → Type 0
NodesAs mode (Some n) s tab = Holding s tab n (words_at mode s)
NodesAs mode None s tab = most_nodes < length (words_at mode s)

pub record Constructed (mode : Mode) (s tab : List ℕ) (r : Option ℕ) (after : List ℕ) : Type 0 where
  pub answer : NodesAs mode r s after
  pub kept : length after ≡ length tab

-- its refusal's number, or 0
unfoldable pub nodes_number : Option ℕ → ℕ
nodes_number (Some n) = 0
nodes_number None = too_many_nodes

-- ---- a node by its name, and a name by its node

-- a name that stands in the image and is a node; and the number of a node
pub record Stands (s tab : List ℕ) (n place size : ℕ) : Type 0 where
  pub holding : Holding s tab n (names_in s tab n)
  pub inside : place + size ≤ length s
  pub node : memb (word_at s place size).text (names_held s tab n) ≡ true

pub record Numbered (s tab : List ℕ) (n v : ℕ) : Type 0 where
  pub holding : Holding s tab n (names_in s tab n)
  pub low : v < n
