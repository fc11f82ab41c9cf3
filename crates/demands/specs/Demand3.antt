-- Demand 3, from bytes to names, in each mode. `graphed mode s b k` (crate yanglib) is what to_graph promises for an image s, a bundle b and the lengths k of
-- what is lent: its answer, the rows of the node table and those of the edge table. What is an edge (`IsEdge`), and when two libraries are the same but for
-- their order (`Permuted`, `SameEntries`) and each name stands once (`Once`), is in crate graph: Meaning and Demand3. What the mode `complete` gives beyond it
-- is in Complete.
-- Assumes nothing.
use Rattle.std.specs.Prelude.{ℕ, zero, suc, ◌+◌, ◌*◌, ◌<◌, ◌≡◌, ◌↔◌, length, get_or, take, drop, Ok, Err, Result as Answer}
use mathlib.Core.List.{List, [], ◌∷◌, ◌++◌, map, Memᴰ, Nodup, Perm}
use Rattle.text.specs.declared.Refusal.{Refusal}
use Rattle.library_form.specs.Form.{PlacedName}
use Rattle.library_form.specs.Writer.{AllBytes}
use Rattle.library_image.specs.Image.{image_at}
use Rattle.library_image.specs.Library.{Name, PlainLibrary}
use Rattle.library_items.specs.Table.{Reads}
use Rattle.graph.specs.Nodes.{Mode, nodes_of}
use Rattle.graph.specs.Graph.{Text, Edge, edge}
use Rattle.graph.specs.Numbers.{Row, row}
use Rattle.graph.specs.Meaning.{IsEdge}
use Rattle.graph.specs.Demand3.{all_names, Once, SameEntries, Permuted}
use Rattle.graph_edges.specs.Edges.{rows_in}
use Rattle.graph_nodes.specs.Adding.{plain_at}
use Rattle.graph_texts.specs.Texts.{text_of}
use Rattle.graph_build.specs.Result.{Result}
use Rattle.yanglib.specs.ToGraph.{graphed, Graphs}
use Rattle.graph_tables.specs.Lengths.{Lengths, lengths_of}
use Rattle.graph_build.specs.declared.GraphRefusal.{GraphRefusal}

-- ---- names and edges, as a caller reads them

-- a node's name: so many bytes of the image, from its place on
abbrev pub name_of : (image : List ℕ) → PlacedName → Name
name_of s w = take w.size (drop w.place s)

abbrev pub names : (image : List ℕ) → Result → List Name
names s x = map (name_of s) x.nodes

-- the name with this number
abbrev pub named : List Name → ℕ → Name
named ns i = get_or ns i []

abbrev pub between : List Name → Row → Edge
between ns r = edge (named ns r.from) (named ns r.to)

abbrev pub edges : (image : List ℕ) → Result → List Edge
edges s x = map (between (names s x)) x.rows

-- the names again, from the words of a node table: place and length of each of so many nodes
unfoldable pub table_names : (image : List ℕ) → ℕ → List ℕ → List Name
table_names s zero w = []
table_names s (suc n) w = table_names s n w ++ (take (get_or w (n * 2 + 1) 0) (drop (get_or w (n * 2) 0) s) ∷ [])

-- the edges again, from the words of both tables: n nodes, m edges
abbrev pub table_edges : (image : List ℕ) → (n m : ℕ) → (nodes edges : List ℕ) → List Edge
table_edges s n m w x = map (between (table_names s n w)) (rows_in m x)

-- ---- first part: what a built graph is

-- n and m: the counts answered; ns: the names of the nodes; rs: the edges in numbers
pub record RightGraph (mode : Mode) (text : Name → Text) (l : PlainLibrary) (n m : ℕ) (ns : List Name) (rs : List Row) : Type 0 where
  pub nodes : ns ≡ nodes_of mode l
  pub node_count : n ≡ length ns
  pub edge_count : m ≡ length rs
  pub names_differ : Nodup ns
  -- no other name is a node; where each name stands once, each is one
  pub names_only : (v : Name) → Memᴰ v ns → Memᴰ v (all_names l)
  pub names_all : Once l → (v : Name) → Memᴰ v (all_names l) → Memᴰ v ns
  pub rows_small : (r : Row) → Memᴰ r rs → (r.from < n) × (r.to < n)
  pub rows_differ : Nodup rs
  -- there is a row from the i-th name to the j-th exactly if there is an edge between them
  pub exact : (i j : ℕ) → i < n → j < n → Memᴰ (row i j) rs ↔ IsEdge text l (named ns i) (named ns j)
  -- no edge is lost because an end is no node
  pub ends : (u v : Name) → IsEdge text l u v → Memᴰ u ns × Memᴰ v ns

-- ---- second part: sets and order don't matter

-- bytes that are a well-formed image
pub record WellFormed (s : List ℕ) : Type 0 where
  pub bytes : AllBytes s
  pub reads : Reads (image_at s)

-- both are refused, or both are built with the same counts, the same names and the same edges between names, but for their order
pub data Alike (s s₁ : List ℕ) (x x₁ : Result) : Type 0 where
  both_refused : {number entry place number₁ entry₁ place₁ : ℕ} {a a₁ : Refusal}
      → x.answer ≡ Err (record { number = number; entry = entry; scan = a; place = place }) → x₁.answer ≡ Err (record { number = number₁; entry = entry₁; scan = a₁; place = place₁ }) → Alike s s₁ x x₁
  both_built : {n m : ℕ} → x.answer ≡ Ok (n, m) → x₁.answer ≡ Ok (n, m) → Perm (names s x) (names s₁ x₁)
      → Perm (edges s x) (edges s₁ x₁) → Alike s s₁ x x₁

-- the same of what two calls answer and leave in their node tables and edge tables
pub data AlikeCalls (s s₁ : List ℕ) : (r : Answer (ℕ × ℕ) GraphRefusal) (nodes edges : List ℕ) (r₁ : Answer (ℕ × ℕ) GraphRefusal) (nodes₁ edges₁ : List ℕ) → Type 0 where
  both_refused : {number entry place number₁ entry₁ place₁ : ℕ} {a a₁ : Refusal} {w x w₁ x₁ : List ℕ}
      → AlikeCalls s s₁ (Err (record { number = number; entry = entry; scan = a; place = place })) w x (Err (record { number = number₁; entry = entry₁; scan = a₁; place = place₁ })) w₁ x₁
  both_built : {n m : ℕ} {w x w₁ x₁ : List ℕ} → Perm (table_names s n w) (table_names s₁ n w₁) → Perm (table_edges s n m w x) (table_edges s₁ n m w₁ x₁)
      → AlikeCalls s s₁ (Ok (n, m)) w x (Ok (n, m)) w₁ x₁

-- ---- the demand; whatever a slice of bytes lends fulfils AllBytes

pub record BytesDemand3 (mode : Mode) : Type 0 where
  pub right : (s b : List ℕ) (k : Lengths) (n m : ℕ) → AllBytes s → (graphed mode s b k).answer ≡ Ok (n, m)
      → RightGraph mode (text_of b) (plain_at s) n m (names s (graphed mode s b k)) (graphed mode s b k).rows
  -- the same of the tables that a call leaves: n₁ with the nodes, e₁ with the edges
  pub called : (s b n e d f g l : List ℕ) (i j : ℕ) {n₁ e₁ d₁ f₁ g₁ l₁ : List ℕ} → AllBytes s
      → Graphs mode s b n e d f g l (Ok (i, j)) n₁ e₁ d₁ f₁ g₁ l₁ → RightGraph mode (text_of b) (plain_at s) i j (table_names s i n₁) (rows_in j e₁)
  -- the same modules and import-only modules in other sets and another order
  pub permuted : (s s₁ b : List ℕ) (k : Lengths) → WellFormed s → WellFormed s₁ → Permuted (plain_at s) (plain_at s₁) → Once (plain_at s)
      → Alike s s₁ (graphed mode s b k) (graphed mode s₁ b k)
  -- the stronger one: the names in their lists may stand in another order too
  pub spread : (s s₁ b : List ℕ) (k : Lengths) → WellFormed s → WellFormed s₁ → SameEntries (plain_at s) (plain_at s₁) → Once (plain_at s)
      → Once (plain_at s₁) → Alike s s₁ (graphed mode s b k) (graphed mode s₁ b k)
  -- and with either of these the tables that two calls leave are alike too, whatever they held, if the same lengths are lent; the second call has an accent
  pub called_alike : (s s₁ b n e d f g l n' e' d' f' g' l' : List ℕ) → lengths_of n e d f g l ≡ lengths_of n' e' d' f' g' l' → WellFormed s → WellFormed s₁
      → Alike s s₁ (graphed mode s b (lengths_of n e d f g l)) (graphed mode s₁ b (lengths_of n e d f g l))
      → {r r' : Answer (ℕ × ℕ) GraphRefusal} {n₁ e₁ d₁ f₁ g₁ l₁ n₁' e₁' d₁' f₁' g₁' l₁' : List ℕ} → Graphs mode s b n e d f g l r n₁ e₁ d₁ f₁ g₁ l₁
      → Graphs mode s₁ b n' e' d' f' g' l' r' n₁' e₁' d₁' f₁' g₁' l₁' → AlikeCalls s s₁ r n₁ e₁ r' n₁' e₁'
