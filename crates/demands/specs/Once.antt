-- Request 2026-10 from bytes: the walk that remembers each text draws what the plain walk draws, reads no text twice, and reads no more texts than there are
-- nodes. That a call answers as before is no statement of its own: its promise (yanglib/ToGraph) is the same to the letter, and is about the plain walk.
-- Assumes nothing.
use Rattle.std.specs.Prelude.{ℕ, ◌≤◌, ◌≡◌, length, Ok}
use mathlib.Core.List.{List, [], ◌∷◌, map, Nodup}
use Rattle.graph.specs.Graph.{entries, world, walk_of}
use Rattle.graph.specs.Limits.{most_edges}
use Rattle.graph.specs.Nodes.{Mode, pass_over, nodes_of}
use Rattle.graph.specs.Numbers.{Codes, EntryCode, codes_at, entry_code, numbered}
use Rattle.graph.specs.Once.{nothing_read, draw_once, entries_read, OnceDemand}
use Rattle.graph_nodes.specs.Adding.{plain_at}
use Rattle.graph_texts.specs.Texts.{text_of}
use Rattle.yanglib.specs.ToGraph.{graphed}
use Rattle.demands.specs.Demand3.{WellFormed}
use Rattle.demands.specs.Demand3Needs.{lent, full_first, includes}

-- what there is under the name of each node, and the entries; by the numbers of nodes
abbrev pub codes_in : Mode → (image bundle : List ℕ) → ℕ → Codes
codes_in mode s b v = codes_at (world mode (text_of b) (plain_at s)) (nodes_of mode (plain_at s)) v

abbrev pub entries_in : Mode → (image bundle : List ℕ) → List EntryCode
entries_in mode s b = map (entry_code (world mode (text_of b) (plain_at s)) (nodes_of mode (plain_at s))) (entries (plain_at s))

-- the nodes whose texts the walk reads, in order; before the walk, where 20, 21, 22 and 30 are told, no text is read
unfoldable pub texts_read : Mode → (image bundle : List ℕ) → List ℕ
texts_read mode s b = entries_read (codes_in mode s b) most_edges [] nothing_read (entries_in mode s b)

pub record BytesOnce (mode : Mode) : Type 0 where
  -- the walk of an entry by itself: crate graph's list of statements holds of these codes
  pub walks : (s b : List ℕ) → OnceDemand (codes_in mode s b) most_edges (entries_in mode s b)
  -- the drawing of all entries is that of the plain walk between names
  pub same : (s b : List ℕ) → WellFormed s
      → draw_once (codes_in mode s b) most_edges 1 [] nothing_read (entries_in mode s b) ≡ numbered (walk_of mode most_edges (text_of b) (plain_at s))
  -- no text is read twice (the last statement of `walks`, by its name)
  pub once : (s b : List ℕ) → Nodup (texts_read mode s b)
  -- and no more are read than there are nodes
  pub few : (s b : List ℕ) → WellFormed s → length (texts_read mode s b) ≤ length (nodes_of mode (plain_at s))

-- not empty: m, whose text includes s, is a module of two sets and so two entries; the graph is built, and each of the two texts is read once
pub record ReadOnce : Type 0 where
  pub read : texts_read pass_over full_first includes ≡ 0 ∷ 1 ∷ []
  pub built : (graphed pass_over full_first includes lent).answer ≡ Ok (2, 1)
