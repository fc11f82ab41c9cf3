-- What the drawing of the edges asks and leaves: an image and a bundle that were read, tables that are long enough, the edge table zero at first; and at the
-- end the rows of all entries, or none.
-- Assumes nothing.
use Rattle.std.specs.Prelude.{ℕ, ◌≤◌, ◌≡◌, true, List, [], length, Ok, Err, Result}
use Rattle.text_lent.specs.Padded.{zeros, padded}
use Rattle.library_image.specs.Image.{image_at}
use Rattle.library_image.specs.Library.{Name}
use Rattle.library_index.specs.Names.{names_in}
use Rattle.library_bundle.specs.Reading.{Held, longest_text}
use Rattle.library_items.specs.Items.{items_at}
use Rattle.library_items.specs.Table.{Reads, Itemized}
use Rattle.graph.specs.Nodes.{memb}
use Rattle.graph.specs.Graph.{entry_names}
use Rattle.graph.specs.Numbers.{Row}
use Rattle.graph_edges.specs.Edges.{edge_table, rows_in}
use Rattle.graph_nodes.specs.Adding.{plain_at, names_held, Holding}
use Rattle.graph_texts.specs.Texts.{ScanRoom}
use Rattle.graph_link.specs.Link.{all_levels}
use Rattle.graph_visit.specs.Visit.{AsLong}
use Rattle.graph_tables.specs.Tables.{row_words}
use Rattle.graph_entries.specs.Entries.{draw_items, drawn_seen}
use Rattle.graph_link.specs.declared.Stopped.{Stopped}

-- an image and a bundle that were read
pub record BothRead (s b btab : List ℕ) (texts : ℕ) : Type 0 where
  pub reads : Reads (image_at s)
  pub held : Held b btab texts

-- and the nodes and items of the image: each module and import-only module is a node
pub record Prepared (s b btab : List ℕ) (texts : ℕ) (ntab : List ℕ) (n : ℕ) (table : List ℕ) (count : ℕ) : Type 0 where
  pub opened : BothRead s b btab texts
  pub holding : Holding s ntab n (names_in s ntab n)
  pub entries : (u : Name) → memb u (entry_names (plain_at s)) ≡ true → memb u (names_held s ntab n) ≡ true
  pub itemized : Itemized s count table

-- enough is lent for the edges, whose table is zero
pub record Lent (b store imports includes levels edges : List ℕ) : Type 0 where
  pub scan : ScanRoom (longest_text b) store imports includes
  pub levels_room : all_levels ≤ length levels
  pub edges_room : edge_table ≤ length edges
  pub edges_zero : edges ≡ zeros (length edges)

-- the edges that there are; a refusal leaves none
abbrev pub rows_left : Result ℕ (ℕ × Stopped) → List ℕ → List Row
rows_left (Ok m) edges = rows_in m edges
rows_left (Err (entry, w)) edges = []

-- ns: the names of the nodes
pub record Edged (s b : List ℕ) (ns : List Name) (store imports includes levels edges : List ℕ) (r : Result ℕ (ℕ × Stopped))
    (store₁ imports₁ includes₁ levels₁ edges₁ : List ℕ) : Type 0 where
  pub seen : drawn_seen r edges₁ ≡ draw_items s b ns 0 0 [] (items_at s)
  pub table : edges₁ ≡ padded (length edges) (row_words (rows_left r edges₁))
  pub kept : AsLong store imports includes levels store₁ imports₁ includes₁ levels₁
