-- Request 2026-10 from bytes: what crate graph says of codes, for those of an image and a bundle.
-- Assumes nothing.
use mathlib.Core.Path.{◌≡◌, sym, ◌∙◌}
use mathlib.Core.List.{List, []}
use Prim.Native.Nat.{ℕ}
use Rattle.graph.specs.Graph.{walk_of}
use Rattle.graph.specs.Limits.{most_edges}
use Rattle.graph.specs.Nodes.{Mode}
use Rattle.graph.specs.Numbers.{drawing_in, drawing_of, numbered}
use Rattle.graph.specs.Once.{nothing_read, draw_once}
use Rattle.graph.proofs.Drawing.{drawing}
use Rattle.graph.proofs.ReadOnce.{once_demand}
use Rattle.graph.proofs.ReadFew.{library_nodes, read_few}
use Rattle.graph_nodes.specs.Adding.{plain_at}
use Rattle.graph_texts.specs.Texts.{text_of}
use Rattle.graph_build.proofs.Outcome.{revised_here}
use Rattle.demands.specs.Demand3.{WellFormed}
use Rattle.demands.specs.Once.{codes_in, entries_in, texts_read, BytesOnce, ReadOnce}
use Rattle.demands.proofs.Needs.{computed}

same_drawing : (mode : Mode) (s b : List ℕ) → WellFormed s
    → draw_once (codes_in mode s b) most_edges 1 [] nothing_read (entries_in mode s b) ≡ numbered (walk_of mode most_edges (text_of b) (plain_at s))
unfolding drawing_of drawing_in
same_drawing mode s b f =
    (once_demand (codes_in mode s b) most_edges (entries_in mode s b)).same
    ∙ sym (drawing mode most_edges (text_of b) (plain_at s) (revised_here s f.reads f.bytes))

pub bytes_once : (mode : Mode) → BytesOnce mode
unfolding texts_read
bytes_once mode = record {
  walks = λ s b. once_demand (codes_in mode s b) most_edges (entries_in mode s b);
  same = same_drawing mode;
  once = λ s b. (once_demand (codes_in mode s b) most_edges (entries_in mode s b)).once;
  few = λ s b f.
      read_few (codes_in mode s b) most_edges _ (entries_in mode s b) (library_nodes mode (text_of b) (plain_at s) (revised_here s f.reads f.bytes));
}

pub read_once : ReadOnce
read_once = record { read = computed.read_once; built = computed.full }
