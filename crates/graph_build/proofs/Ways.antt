-- The result of an image and a bundle that were read, with enough lent, by what came of the nodes and of the drawing: one law for each way out.
-- Assumes nothing.
use Rattle.std.specs.Prelude.{Ok, Err, Result as Answer}
use mathlib.Core.Path.{◌≡◌, sym, ap, ap₂, ◌∙◌}
use mathlib.Core.Bool.{Bool, cond}
use mathlib.Core.List.{List, []}
use Prim.Native.Nat.{ℕ, ◌≤◌, ◌<◌}
use native.Mathlib.Omega.{arith}
use lib.ListN.{length}
use lib.Dec.{ltb}
use borrow.Author.Tests.{lt-ltb, le-ltb}
use Rattle.graph_link.specs.declared.Stopped.{Stopped}
use Rattle.text_lent.specs.Padded.{zeros, padded}
use Rattle.library_form.specs.Writer.{AllBytes}
use Rattle.library_index.proofs.Chain.{length_names}
use Rattle.library_image.specs.Library.{Name}
use Rattle.library_image.specs.Image.{image_at}
use Rattle.library_image.proofs.ImageLaws.{accepted}
use Rattle.library_items.specs.Items.{items_at}
use Rattle.library_items.specs.Table.{Reads}
use Rattle.graph.specs.Nodes.{Mode, nodes_of}
use Rattle.text.specs.Refusal.{no_refusal}
use Rattle.graph.specs.Graph.{too_many_nodes}
use Rattle.graph.specs.Numbers.{Drawing}
use Rattle.graph_edges.specs.Edges.{rows_in}
use Rattle.graph_edges.proofs.Rows.{rows_length}
use Rattle.graph.specs.Limits.{most_nodes}
use Rattle.graph_nodes.specs.Adding.{plain_at, words_at, names_held, Holding}
use Rattle.graph_nodes.proofs.Looking.{held_names}
use Rattle.graph_entries.specs.Entries.{draw_items, drawn_seen}
use Rattle.graph_tables.specs.Tables.{Puts, Named, node_words}
use Rattle.graph_build.specs.Result.{Result, refusal, draw_result}
use Rattle.graph_build.proofs.Outcome.{drawing_result, graph_result}

-- what is promised once all is read and enough is lent
pub record Ready (mode : Mode) (s b : List ℕ) (x : Result) : Type 0 where
  pub reads : Reads (image_at s)
  pub bytes : AllBytes s
  pub result : x ≡ draw_result mode s b

module _ {mode : Mode} (s b : List ℕ) (x : Result) (g : Ready mode s b x) where
  abbrev items : (ns : List Name) → Drawing
  items ns = draw_items s b ns 0 0 [] (items_at s)

  by_nodes : {t : Bool} → ltb most_nodes (length (words_at mode s)) ≡ t
      → x ≡ cond t (refusal too_many_nodes 0 no_refusal 0) (drawing_result (words_at mode s) (items (nodes_of mode (plain_at s))))
  by_nodes e =
      g.result
      ∙ (graph_result mode s b g.reads g.bytes
      ∙ ap (λ t. cond t (refusal too_many_nodes 0 no_refusal 0) (drawing_result (words_at mode s) (items (nodes_of mode (plain_at s))))) e)

  pub too_many : most_nodes < length (words_at mode s) → x ≡ refusal too_many_nodes 0 no_refusal 0
  too_many h = by_nodes (lt-ltb most_nodes (length (words_at mode s)) h)

  module _ (tab : List ℕ) (n : ℕ) (h : Holding s tab n (words_at mode s)) where
    nodes_many : length (words_at mode s) ≡ n
    nodes_many = ap length (sym h.names) ∙ length_names s tab n

    drawn_as : x ≡ drawing_result (words_at mode s) (items (names_held s tab n))
    drawn_as =
        by_nodes (le-ltb most_nodes (length (words_at mode s)) (omega (arith, nodes_many, h.few)))
        ∙ ap (λ (ns : List Name). drawing_result (words_at mode s) (items ns)) (sym (held_names mode h))

    module _ (r : Answer ℕ (ℕ × Stopped)) (edges : List ℕ) where
      pub draw_refused : {entry : ℕ} {y : Stopped} → r ≡ Err (entry, y) → drawn_seen r edges ≡ items (names_held s tab n)
          → x ≡ refusal y.number entry y.scan 0
      draw_refused e f = drawn_as ∙ ap (drawing_result (words_at mode s)) (sym f ∙ ap (λ (q : Answer ℕ (ℕ × Stopped)). drawn_seen q edges) e)

      pub draw_built : {m : ℕ} → r ≡ Ok m → drawn_seen r edges ≡ items (names_held s tab n)
          → x ≡ record { answer = Ok (n, m); nodes = words_at mode s; rows = rows_in m edges }
      draw_built {m} e f =
          drawn_as
          ∙ (ap (drawing_result (words_at mode s)) (sym f ∙ ap (λ (q : Answer ℕ (ℕ × Stopped)). drawn_seen q edges) e)
          ∙ ap₂ (λ (i j : ℕ). record { answer = Ok (i, j); nodes = words_at mode s; rows = rows_in m edges }) nodes_many (rows_length m edges))

-- ---- the node table of the nodes that an index holds

module _ (mode : Mode) (s tab : List ℕ) (n : ℕ) (nodes : List ℕ) (h : Holding s tab n (words_at mode s)) where
  pub nodes_asked : Reads (image_at s) → 2048 ≤ length nodes → nodes ≡ zeros (length nodes) → Puts tab n nodes
  nodes_asked reads long z = record {
    few = h.few;
    rows = h.indexed.long;
    small = λ i l. omega (arith, h.indexed.inside i l, (accepted s reads.read).short);
    room = omega (arith, h.few);
    cleared = z;
  }

  pub nodes_laid : {after : List ℕ} → Named tab n nodes after → after ≡ padded (length nodes) (node_words (words_at mode s))
  nodes_laid p = p.words s ∙ ap (λ ws. padded (length nodes) (node_words ws)) h.names
