-- Request 2026-02 from bytes: what the mode `complete` gives beyond demand 3, which holds in it too (BytesDemand3). All names of the library are nodes, and
-- nothing is asked of the images but that they are well formed. That 28 never comes is a field of Demand1, that there is one outcome one of OneOutcome.
-- Assumes nothing.
use Rattle.std.specs.Prelude.{ℕ, ◌<◌, ◌≡◌, false, ◌↔◌, List, length, Ok, Err}
use Rattle.text.specs.declared.Refusal.{Refusal}
use Rattle.library_form.specs.Writer.{AllBytes}
use Rattle.library_image.specs.Image.{image_at}
use Rattle.library_image.specs.Library.{Name}
use Rattle.library_bundle.specs.Bundle.{bundle_at}
use Rattle.library_bundle.specs.Reading.{longest_text}
use Rattle.library_items.specs.Table.{Reads}
use Rattle.graph.specs.Nodes.{pass_over, complete}
use Rattle.graph.specs.Demand3.{all_names, Once, SameEntries, Permuted}
use Rattle.graph.specs.Complete.{EachOnce}
use Rattle.graph_edges.specs.Edges.{rows_in}
use Rattle.graph_nodes.specs.Adding.{plain_at}
use Rattle.graph_texts.specs.Texts.{text_of}
use Rattle.graph_tables.specs.Lengths.{Lengths, is_too_short}
use Rattle.yanglib.specs.ToGraph.{graphed, Graphs}
use Rattle.demands.specs.Demand3.{names, table_names, RightGraph, WellFormed, Alike}
use Rattle.demands.specs.Demand3Needs.{lent, empty_first, full_first, includes, s_first, t_first, alone}

pub record BytesComplete : Type 0 where
  -- a built graph is right, and its nodes are exactly all names of the library
  pub right : (s b : List ℕ) (k : Lengths) (n m : ℕ) → AllBytes s → (graphed complete s b k).answer ≡ Ok (n, m)
      → RightGraph complete (text_of b) (plain_at s) n m (names s (graphed complete s b k)) (graphed complete s b k).rows
      × EachOnce (names s (graphed complete s b k)) (all_names (plain_at s))
  -- the same of the tables that a call leaves: n₁ with the nodes, e₁ with the edges
  pub called : (s b n e d f g l : List ℕ) (i j : ℕ) {n₁ e₁ d₁ f₁ g₁ l₁ : List ℕ} → AllBytes s
      → Graphs complete s b n e d f g l (Ok (i, j)) n₁ e₁ d₁ f₁ g₁ l₁
      → RightGraph complete (text_of b) (plain_at s) i j (table_names s i n₁) (rows_in j e₁) × EachOnce (table_names s i n₁) (all_names (plain_at s))
  -- 30 exactly where 20, 21 and 22 do not come and there are more than 1,024 names, each counted once
  pub too_many : (s b : List ℕ) (k : Lengths) (ws : List Name) → EachOnce ws (all_names (plain_at s))
      → ((entry place : ℕ) × (a : Refusal) × ((graphed complete s b k).answer ≡ Err (record { number = 30; entry = entry; scan = a; place = place })))
      ↔ (Reads (image_at s) × Reads (bundle_at b) × (is_too_short (longest_text b) k ≡ false) × (1024 < length ws))
  -- sets and order don't matter, whatever names are repeated
  pub permuted : (s s₁ b : List ℕ) (k : Lengths) → WellFormed s → WellFormed s₁ → Permuted (plain_at s) (plain_at s₁)
      → Alike s s₁ (graphed complete s b k) (graphed complete s₁ b k)
  pub spread : (s s₁ b : List ℕ) (k : Lengths) → WellFormed s → WellFormed s₁ → SameEntries (plain_at s) (plain_at s₁)
      → Alike s s₁ (graphed complete s b k) (graphed complete s₁ b k)
  -- where each name stands once and each import-only module has one revision, both modes give the same answer, the same nodes with their places and the same edges
  pub once : (s b : List ℕ) (k : Lengths) → Once (plain_at s) → graphed complete s b k ≡ graphed pass_over s b k

-- the images of Demand3Needs, whose graphs are not alike in the mode `pass_over`: now they are, and they are built
pub record NowAlike : Type 0 where
  pub once : Alike empty_first full_first (graphed complete empty_first includes lent) (graphed complete full_first includes lent)
  pub once_built : (graphed complete empty_first includes lent).answer ≡ Ok (2, 1)
  pub single : Alike s_first t_first (graphed complete s_first alone lent) (graphed complete t_first alone lent)
  pub single_built : (graphed complete s_first alone lent).answer ≡ Ok (3, 0)
