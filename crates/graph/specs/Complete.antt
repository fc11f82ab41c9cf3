-- Request 2026-02: a name that is a node is not added again, but its submodules are still gone through, those of every import-only revision too. What this mode
-- gives beyond `Demand3`, which holds in it too: all names are nodes, so no include is refused for want of a node, and no condition on the library is left.
-- Assumes nothing.
use Rattle.std.specs.Prelude.{ℕ, ◌<◌, ◌≡◌, ◌↔◌, length}
use mathlib.Core.List.{List, [], flat_map, Memᴰ, Nodup}
use Rattle.library_image.specs.Library.{Name, PlainLibrary, Library, plain_name, plain}
use Rattle.library_index.specs.Names.{add_all}
use Rattle.graph.specs.Nodes.{pass_over, complete, groups, itself, nodes_of, word_nodes}
use Rattle.graph.specs.Graph.{ScanAnswer, Text, no_node, too_many_nodes, Edge, graph, fault, graph_of}
use Rattle.graph.specs.Meaning.{Revised}
use Rattle.graph.specs.Demand3.{group_names, all_names, Once, SameEntries, Permuted, Agree, Right}

-- ws are the names of a list, each of them once
pub record EachOnce (ws all : List Name) : Type 0 where
  pub differ : Nodup ws
  pub same : (v : Name) → Memᴰ v ws ↔ Memᴰ v all

pub record CompleteDemand3 (node_limit edge_limit : ℕ) (text : Name → Text) : Type 0 where
  -- the nodes are all names in the library's order, each where it comes first, and with that place
  pub order : (l : PlainLibrary) → nodes_of complete l ≡ add_all itself [] (all_names l)
  pub placed : (l : Library) → word_nodes complete l ≡ add_all plain_name [] (flat_map group_names (groups l))
  -- so each name is one node, and nothing else is
  pub all_once : (l : PlainLibrary) → EachOnce (nodes_of complete l) (all_names l)
  -- a built graph is right, and its nodes are exactly all names
  pub right : (l : PlainLibrary) (ns : List Name) (es : List Edge) → graph_of complete node_limit edge_limit text l ≡ graph ns es
      → Right complete text l ns es × EachOnce ns (all_names l)
  -- never 28
  pub has_node : (l : PlainLibrary) (k : ℕ) (a : ScanAnswer) → ¬ (graph_of complete node_limit edge_limit text l ≡ fault no_node k a)
  -- 30 exactly where there are more names than the limit, each counted once
  pub too_many : (l : PlainLibrary) (ws : List Name) → EachOnce ws (all_names l)
      → ((k : ℕ) × (a : ScanAnswer) × (graph_of complete node_limit edge_limit text l ≡ fault too_many_nodes k a)) ↔ (node_limit < length ws)
  -- sets and order don't matter, whatever names are repeated. `Revised` holds in every image
  pub spread : (l l₁ : PlainLibrary) → SameEntries l l₁ → Revised l → Revised l₁
      → Agree (graph_of complete node_limit edge_limit text l) (graph_of complete node_limit edge_limit text l₁)
  pub permuted : (l l₁ : PlainLibrary) → Permuted l l₁
      → Agree (graph_of complete node_limit edge_limit text l) (graph_of complete node_limit edge_limit text l₁)
  -- where each name stands once and each import-only module has one revision, both modes give the same graph, and the nodes have the same places
  pub once : (l : PlainLibrary) → Once l → graph_of complete node_limit edge_limit text l ≡ graph_of pass_over node_limit edge_limit text l
  pub places : (l : Library) → Once (plain l) → word_nodes complete l ≡ word_nodes pass_over l
