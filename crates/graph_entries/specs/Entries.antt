-- The walk of the entries, going through the items of an image: a module or an import-only module is an entry, whose text is walked; then what a module
-- lists is linked. Entries are numbered from 1.
-- Assumes nothing.
use Rattle.std.specs.Prelude.{ℕ, ◌+◌, ◌<◌, ◌≡◌, Bool, true, false, cond, List, [], ◌∷◌, length, Ok, Err, Result}
use Rattle.library_form.specs.Form.{PlacedName, word_at}
use Rattle.library_image.specs.Library.{Name}
use Rattle.library_index.specs.Names.{names_in}
use Rattle.library_items.specs.declared.Item.{Item}
use Rattle.library_items.specs.declared.Kind.{Kind}
use Rattle.library_items.specs.declared.Kind.TheVariants.{Augmenting, Deviation}
use Rattle.library_items.specs.Table.{item_word, ItemFits}
use Rattle.library_items.specs.Items.{ItemOf, items_at}
use Rattle.graph.specs.Graph.{no_entry_text, deepest, Out, built, on_out}
use Rattle.graph.specs.Nodes.{memb}
use Rattle.graph.specs.Numbers.{Row, Codes, number_of, given_code, walk_codes, Drawing, drawn, faulty}
use Rattle.graph.specs.Once.{Between}
use Rattle.graph.specs.Limits.{most_edges}
use Rattle.graph_edges.specs.Edges.{rows_in, Filed}
use Rattle.graph_nodes.specs.Adding.{is_entry, names_held, Holding}
use Rattle.graph_marks.specs.Marks.{known_at}
use Rattle.graph_memory.specs.Memory.{remembered}
use Rattle.graph_link.specs.Link.{all_levels}
use Rattle.graph_visit.specs.Visit.{codes_here, Kept}
use Rattle.graph_link.specs.declared.Stopped.{Stopped}

abbrev pub is_listed : Kind → Bool
is_listed Augmenting = true
is_listed Deviation = true
is_listed _ = false

-- the node of an item's name; ns: the names of the nodes
abbrev pub item_node : List Name → ItemOf PlacedName → ℕ
item_node ns x = number_of ns x.name.text

-- what one item asks; v: the node of the entry that it belongs to
unfoldable pub item_walk : (image bundle : List ℕ) → (ns : List Name) → ItemOf PlacedName → (v : ℕ) → List Row → Out Row
item_walk s b ns x v rs =
    cond (is_entry x.kind) (walk_codes (codes_here s b ns) most_edges deepest no_entry_text (item_node ns x) rs)
    (cond (is_listed x.kind) (given_code most_edges v (known_at s ns x.name.text) rs) (built rs))

abbrev pub next_node : List Name → ItemOf PlacedName → ℕ → ℕ
next_node ns x v = cond (is_entry x.kind) (item_node ns x) v

abbrev pub next_entry : ItemOf PlacedName → ℕ → ℕ
next_entry x k = cond (is_entry x.kind) (k + 1) k

-- k: the entries so far
unfoldable pub draw_items : (image bundle : List ℕ) → (ns : List Name) → (k v : ℕ) → List Row → List (ItemOf PlacedName) → Drawing
draw_items s b ns k v rs [] = drawn rs
draw_items s b ns k v rs (x ∷ xs) =
    on_out (item_walk s b ns x v rs) (λ rs₁. draw_items s b ns (next_entry x k) (next_node ns x v) rs₁ xs) (λ n a. faulty n (next_entry x k) a)

abbrev pub drawn_seen : Result ℕ (ℕ × Stopped) → List ℕ → Drawing
drawn_seen (Ok n) edges = drawn (rows_in n edges)
drawn_seen (Err (entry, w)) edges = faulty w.number entry w.scan

abbrev pub DrawnFiled : Result ℕ (ℕ × Stopped) → List ℕ → List ℕ → Type 0
DrawnFiled (Ok n) edges chains = Filed edges chains n
DrawnFiled (Err (entry, w)) edges chains = Unit {0}

-- ---- what the code asks and does

-- an item and the node before it: an entry's name is a node, and what is no entry stands behind one
pub record Next (s tab : List ℕ) (n : ℕ) (x : Item) (v : ℕ) : Type 0 where
  pub holding : Holding s tab n (names_in s tab n)
  pub fits : ItemFits s x
  pub node : is_entry x.kind ≡ true → memb (word_at s x.place x.size).text (names_held s tab n) ≡ true
  pub behind : is_entry x.kind ≡ false → v < n

-- an item with the node of its entry
pub record Placed (s : List ℕ) (ns : List Name) (n : ℕ) (x : Item) (v : ℕ) : Type 0 where
  pub fits : ItemFits s x
  pub low : v < n
  pub own : is_entry x.kind ≡ true → v ≡ item_node ns (item_word s x)

-- behind an item what is remembered of the texts is true, and none is being walked; so the walk of the next entry's text is the plain walk
abbrev pub WalkBetween : (at : ℕ → Codes) → Result ℕ Stopped → (levels edges : List ℕ) → Type 0
WalkBetween at (Ok n) levels edges = Between at most_edges (remembered levels) (rows_in n edges)
WalkBetween at (Err w) levels edges = Unit {0}

-- all items were walked, or up to the first refusal; the tables are as long as before
pub record Walks (s b : List ℕ) (ns : List Name) (store imports includes levels edges chains : List ℕ) (r : Result ℕ (ℕ × Stopped))
    (store₁ imports₁ includes₁ levels₁ edges₁ chains₁ : List ℕ) : Type 0 where
  pub seen : drawn_seen r edges₁ ≡ draw_items s b ns 0 0 [] (items_at s)
  pub filed : DrawnFiled r edges₁ chains₁
  pub kept_edges : length edges₁ ≡ length edges
  pub kept_chains : length chains₁ ≡ length chains
  pub kept : Kept all_levels store imports includes levels store₁ imports₁ includes₁ levels₁
