-- The graph of an image in numbers is the drawing of its items: there are as many nodes with places as names, and every row joins two of them.
-- Assumes nothing.
use Rattle.std.specs.Prelude.{Ok}
use Prim.Native.Nat.{ℕ}
use mathlib.Core.Path.{◌≡◌, refl, sym, ap, ap₂, ◌∙◌, subst}
use mathlib.Core.Bool.{Bool, true, false, cond}
use mathlib.Core.List.{List, [], map}
use lib.ListN.{length, length-map}
use lib.Dec.{ltb}
use Rattle.library_form.specs.Form.{PlacedName}
use Rattle.library_form.specs.Writer.{AllBytes}
use Rattle.library_image.specs.Library.{Name, plain_name, plain}
use Rattle.library_image.specs.Image.{image_at}
use Rattle.library_lists.specs.Lists.{on_ans}
use Rattle.library_items.specs.Items.{library_of, items_at}
use Rattle.library_items.specs.Table.{Reads}
use Rattle.graph.specs.Nodes.{Mode, nodes_of}
use Rattle.text.specs.Refusal.{no_refusal}
use Rattle.graph.specs.Graph.{too_many_nodes, Edge, entries, entry_steps, world, Graph, graph, fault, walk_of, graph_of}
use Rattle.graph.specs.Numbers.{row_of, Drawing, drawn, faulty, drawing_of, numbered}
use Rattle.graph.specs.Meaning.{Revised}
use Rattle.graph.proofs.WordNodes.{node_names}
use Rattle.graph.proofs.Revised.{image_revised}
use Rattle.graph.proofs.Runs.{walk_run}
use Rattle.graph.proofs.Drawing.{drawing}
use Rattle.graph.specs.Limits.{most_edges, most_nodes}
use Rattle.graph_nodes.specs.Adding.{plain_at, words_at}
use Rattle.graph_texts.specs.Texts.{text_of}
use Rattle.graph_visit.specs.Visit.{world_of}
use Rattle.graph_entries.specs.Entries.{draw_items}
use Rattle.graph_build.specs.Result.{Result, refusal, result_of, draw_result}
use Rattle.graph_entries.proofs.Drawing.{items_drawn}

-- what is answered and left for a drawing between these nodes
abbrev pub drawing_result : List PlacedName → Drawing → Result
drawing_result ws (drawn rs) = record { answer = Ok ((length ws), (length rs)); nodes = ws; rows = rs }
drawing_result ws (faulty number entry a) = refusal number entry a 0

module _ (mode : Mode) (s : List ℕ) where
  pub nodes_named : map plain_name (words_at mode s) ≡ nodes_of mode (plain_at s)
  unfolding words_at
  nodes_named = node_names mode (library_of s)

  nodes_long : length (nodes_of mode (plain_at s)) ≡ length (words_at mode s)
  nodes_long = ap length (sym nodes_named) ∙ length-map (words_at mode s) plain_name

module _ (s : List ℕ) where
  pub image_here : (h : Reads (image_at s)) → library_of s ≡ h.value
  unfolding library_of
  image_here h = ap (λ r. on_ans r (λ l n. l) (λ p. [])) h.read

  pub revised_here : Reads (image_at s) → AllBytes s → Revised (plain_at s)
  revised_here h bytes = subst (λ l. Revised (plain l)) (sym (image_here h)) (image_revised s h.read bytes)

module _ (mode : Mode) (s b : List ℕ) (reads : Reads (image_at s)) (bytes : AllBytes s) where
  abbrev items : Drawing
  items = draw_items s b (nodes_of mode (plain_at s)) 0 0 [] (items_at s)

  abbrev walked : Graph
  walked = walk_of mode most_edges (text_of b) (plain_at s)

  drawing_items : drawing_of mode most_edges (text_of b) (plain_at s) ≡ items
  unfolding drawing_of world_of
  drawing_items = sym (items_drawn s b (nodes_of mode (plain_at s)))

  walk_drawn : numbered walked ≡ items
  walk_drawn = drawing mode most_edges (text_of b) (plain_at s) (revised_here s reads bytes) ∙ drawing_items

  walk_nodes : (ns : List Name) (es : List Edge) → walked ≡ graph ns es → nodes_of mode (plain_at s) ≡ ns
  walk_nodes ns es h =
      (walk_run (entry_steps (world mode (text_of b) (plain_at s))) most_edges (nodes_of mode (plain_at s)) (entries (plain_at s)) 1 [] h).0

  walk_result : (g : Graph) → walked ≡ g → result_of (words_at mode s) g ≡ drawing_result (words_at mode s) (numbered g)
  walk_result (graph ns es) h =
      let p : length ns ≡ length (words_at mode s) = ap length (sym (walk_nodes ns es h)) ∙ nodes_long mode s in
      let q : length es ≡ length (map (row_of ns) es) = sym (length-map es (row_of ns)) in
      ap₂ (λ n e. record { answer = Ok (n, e); nodes = words_at mode s; rows = map (row_of ns) es }) p q
  walk_result (fault n k a) h = refl

  pub graph_result : draw_result mode s b
      ≡ cond (ltb most_nodes (length (words_at mode s))) (refusal too_many_nodes 0 no_refusal 0) (drawing_result (words_at mode s) items)
  unfolding graph_of
  graph_result =
      go (ltb most_nodes (length (nodes_of mode (plain_at s))))
      ∙ ap (λ n. cond (ltb most_nodes n) (refusal too_many_nodes 0 no_refusal 0) (drawing_result (words_at mode s) items)) (nodes_long mode s)
    where
      go : (t : Bool) → result_of (words_at mode s) (cond t (fault too_many_nodes 0 no_refusal) walked)
          ≡ cond t (refusal too_many_nodes 0 no_refusal 0) (drawing_result (words_at mode s) items)
      go true = refl
      go false = walk_result walked refl ∙ ap (drawing_result (words_at mode s)) walk_drawn
