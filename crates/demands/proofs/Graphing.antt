-- Demand 3 from bytes to names: a built answer is the graph of the image's library, whose names are read from the bytes, and its rows are its edges in
-- numbers, which lead back to the names. What comes before the graph (21, 22) hangs on the bundle and the lengths lent alone.
-- Assumes nothing.
use Rattle.std.specs.Prelude.{Ok, Result as Answer}
use Prim.Native.Nat.{ℕ}
use mathlib.Core.Path.{◌≡◌, refl, sym, ap, ap₂, ◌∙◌, subst, subst₂}
use mathlib.Core.Logic.{◌↔◌}
use mathlib.Core.Bool.{Bool, true, false, cond}
use mathlib.Core.List.{List, [], ◌∷◌, map, Memᴰ, Perm}
use native.Mathlib.Omega.{arith}
use lib.ListN.{length, length-map}
use Rattle.text.proofs.Here.{ok_pair_parts}
use Rattle.library_form.specs.Form.{Ans, good, bad}
use Rattle.library_form.specs.Writer.{AllBytes}
use Rattle.library_image.specs.Image.{image_broken, image_at}
use Rattle.library_image.specs.Library.{Name, Library}
use Rattle.library_bundle.specs.Bundle.{Text as BundleText, bundle_broken, bundle_at}
use Rattle.library_bundle.specs.Reading.{longest_text}
use Rattle.library_items.specs.Table.{Reads}
use Rattle.graph.specs.Nodes.{Mode}
use Rattle.text.specs.Refusal.{no_refusal}
use Rattle.graph.specs.Graph.{Edge, edge, Graph, graph, fault, graph_of}
use Rattle.graph.specs.Numbers.{row, row_of}
use Rattle.graph.specs.Meaning.{Revised, IsEdge}
use Rattle.graph.specs.Demand3.{Right, Agree, both_refused as graphs-refused, both_built as graphs-built}
use Rattle.graph.proofs.Numbers.{at_mem, number_at, number_of_at}
use Rattle.graph.proofs.Nodes.{nodes_only}
use Rattle.graph.proofs.Spread.{perm_length}
use Rattle.graph.proofs.Demand.{demand3}
use Rattle.graph_edges.specs.Edges.{rows_in}
use Rattle.graph.specs.Limits.{most_edges, most_nodes}
use Rattle.graph_nodes.specs.Adding.{plain_at, words_at}
use Rattle.graph_texts.specs.Texts.{text_of}
use Rattle.graph_build.specs.Result.{Result, refusal, result_of}
use Rattle.yanglib.specs.ToGraph.{lent_too_short, on_read, graphed, Graphs}
use Rattle.graph_tables.specs.Lengths.{Lengths, is_too_short, lengths_of}
use Rattle.graph_build.specs.declared.GraphRefusal.{GraphRefusal}
use Rattle.graph_build.proofs.Outcome.{revised_here}
use Rattle.demands.specs.Demand3.{name_of, names, table_names, table_edges, named, between, edges, RightGraph, WellFormed, Alike, both_refused, both_built}
use Rattle.demands.specs.Demand3.{AlikeCalls, BytesDemand3}
use Rattle.demands.proofs.Standing.{names_read}
use Rattle.demands.proofs.TablesRead.{edges_read, nodes_read}

abbrev pub graph_here : Mode → (image bundle : List ℕ) → Graph
graph_here mode s b = graph_of mode most_nodes most_edges (text_of b) (plain_at s)

abbrev pub result_here : Mode → (image bundle : List ℕ) → Result
result_here mode s b = result_of (words_at mode s) (graph_here mode s b)

-- ---- the ways to an answer

-- what comes before the graph, by the readings of bundle and image and whether too little is lent
abbrev unless_short : Ans (List BundleText) → Bool → Result → Result
unless_short y short r = on_read y (refusal bundle_broken 0 no_refusal) (cond short (refusal lent_too_short 0 no_refusal 0) r)

abbrev pub before : Ans Library → Ans (List BundleText) → Bool → Result → Result
before x y short r = on_read x (refusal image_broken 0 no_refusal) (unless_short y short r)

module _ (mode : Mode) (s b : List ℕ) (k : Lengths) where
  well_formed : Reads (image_at s) → graphed mode s b k ≡ unless_short (bundle_at b) (is_too_short (longest_text b) k) (result_here mode s b)
  unfolding graphed
  well_formed reads = ap (λ x. before x (bundle_at b) (is_too_short (longest_text b) k) (result_here mode s b)) reads.read

  pub graph_reached : Reads (image_at s) → Reads (bundle_at b) → is_too_short (longest_text b) k ≡ false → graphed mode s b k ≡ result_here mode s b
  graph_reached reads o t =
      well_formed reads
      ∙ ap (λ y. unless_short y (is_too_short (longest_text b) k) (result_here mode s b)) o.read
      ∙ ap (λ f. cond f (refusal lent_too_short 0 no_refusal 0) (result_here mode s b)) t

  -- a graph is built only where all is read and enough is lent, and then it is the graph of the image's library
  pub record Drawn : Type 0 where
    pub reads : Reads (image_at s)
    pub bundle : Reads (bundle_at b)
    pub long : is_too_short (longest_text b) k ≡ false
    pub ns : List Name
    pub es : List Edge
    pub graph_is : graph_here mode s b ≡ graph ns es

  pub drawn : (n m : ℕ) → (graphed mode s b k).answer ≡ Ok (n, m) → Drawn
  unfolding graphed
  drawn n m h = go (image_at s) (bundle_at b) (is_too_short (longest_text b) k) (graph_here mode s b) refl refl refl refl h
    where
      go : (x : Ans Library) (y : Ans (List BundleText)) (short : Bool) (g : Graph) → image_at s ≡ x → bundle_at b ≡ y → is_too_short (longest_text b) k ≡ short
          → graph_here mode s b ≡ g → (before x y short (result_of (words_at mode s) g)).answer ≡ Ok (n, m) → Drawn
      go (bad p) y short g e f t q h = let z : ◌≡◌ {A = ℕ} 0 1 = cc in absurd (omega arith)
      go (good l i) (bad p) short g e f t q h = let z : ◌≡◌ {A = ℕ} 0 1 = cc in absurd (omega arith)
      go (good l i) (good o j) true g e f t q h = let z : ◌≡◌ {A = ℕ} 0 1 = cc in absurd (omega arith)
      go (good l i) (good o j) false (fault c d a) e f t q h = let z : ◌≡◌ {A = ℕ} 0 1 = cc in absurd (omega arith)
      go (good l i) (good o j) false (graph ns es) e f t q h = record {
        reads = record { value = l; end = i; read = e };
        bundle = record { value = o; end = j; read = f };
        long = t;
        ns = ns;
        es = es;
        graph_is = q;
      }

-- ---- names and edges of a result

module _ (mode : Mode) (s b : List ℕ) (bytes : AllBytes s) (reads : Reads (image_at s)) {ns : List Name} {es : List Edge}
    (e : graph_here mode s b ≡ graph ns es) where
  right : Right mode (text_of b) (plain_at s) ns es
  right = (demand3 mode most_nodes most_edges (text_of b)).right (plain_at s) ns es e

  revised : Revised (plain_at s)
  revised = revised_here s reads bytes

  abbrev result : Result
  result = result_of (words_at mode s) (graph ns es)

  names_are : names s result ≡ ns
  names_are = names_read s bytes reads mode ∙ sym right.nodes

  edge_back : (d : Edge) → Memᴰ d es → between ns (row_of ns d) ≡ d
  edge_back d m =
      let k = right.ends revised d.from d.to m in
      ap₂ edge (number_at ns d.from [] k.0) (number_at ns d.to [] k.1)

  edges_back : (ds : List Edge) → ((d : Edge) → Memᴰ d ds → Memᴰ d es) → map (between ns) (map (row_of ns) ds) ≡ ds
  edges_back [] f = refl
  edges_back (d ∷ ds) f = ap₂ ◌∷◌ (edge_back d (f d (Memᴰ.head refl))) (edges_back ds (λ c m. f c (Memᴰ.tail m)))

  edges_are : edges s result ≡ es
  edges_are = ap (λ l. map (between l) (map (row_of ns) es)) names_are ∙ edges_back es (λ d m. m)

  right_here : RightGraph mode (text_of b) (plain_at s) (length ns) (length es) ns (map (row_of ns) es)
  right_here = record {
    nodes = right.nodes;
    node_count = refl;
    edge_count = sym (length-map es (row_of ns));
    names_differ = right.names_differ;
    names_only = λ v m. nodes_only mode (plain_at s) v (subst (λ l. Memᴰ v l) right.nodes m);
    names_all = λ o v m. (right.names_all o v).1 m;
    rows_small = (right.rows revised).small;
    rows_differ = (right.rows revised).differ;
    exact = λ i j h k.
        let p = number_of_at ns i [] right.names_differ h in
        let q = number_of_at ns j [] right.names_differ k in
        subst₂ (λ x y. Memᴰ (row x y) (map (row_of ns) es) ↔ IsEdge (text_of b) (plain_at s) (named ns i) (named ns j)) p q
        ((right.rows revised).exact (named ns i) (named ns j) (at_mem ns i [] h) (at_mem ns j [] k));
    ends = λ u v h. right.ends revised u v ((right.exact u v).1 h);
  }

-- ---- first part

right_graph : (mode : Mode) (s b : List ℕ) (k : Lengths) (n m : ℕ) → AllBytes s → (graphed mode s b k).answer ≡ Ok (n, m)
    → RightGraph mode (text_of b) (plain_at s) n m (names s (graphed mode s b k)) (graphed mode s b k).rows
right_graph mode s b k n m bytes h =
    let d = drawn mode s b k n m h in
    let q : graphed mode s b k ≡ result_of (words_at mode s) (graph d.ns d.es)
    = graph_reached mode s b k d.reads d.bundle d.long ∙ ap (result_of (words_at mode s)) d.graph_is in
    let a = ok_pair_parts (length d.ns) n (length d.es) m (sym (ap (λ (x : Result). x.answer) q) ∙ h) in
    let i = a.0 in
    let j = a.1 in
    let e = names_are mode s b bytes d.reads d.graph_is in
    subst (λ (x : Result). RightGraph mode (text_of b) (plain_at s) n m (names s x) x.rows) (sym q)
    (subst (λ l. RightGraph mode (text_of b) (plain_at s) n m l (map (row_of d.ns) d.es)) (sym e)
    (subst₂ (λ x y. RightGraph mode (text_of b) (plain_at s) x y d.ns (map (row_of d.ns) d.es)) i j (right_here mode s b bytes d.reads d.graph_is)))

-- and of what a call leaves
module _ (mode : Mode) (s b n e d f g l : List ℕ) {r : Answer (ℕ × ℕ) GraphRefusal} {n₁ e₁ d₁ f₁ g₁ l₁ : List ℕ} (bytes : AllBytes s)
    (h : Graphs mode s b n e d f g l r n₁ e₁ d₁ f₁ g₁ l₁) where
  abbrev left : Result
  left = graphed mode s b (lengths_of n e d f g l)

  module _ (i j : ℕ) (a : left.answer ≡ Ok (i, j)) where
    right_left : RightGraph mode (text_of b) (plain_at s) i j (names s left) left.rows
    right_left = right_graph mode s b (lengths_of n e d f g l) i j bytes a

    names_left : table_names s i n₁ ≡ names s left
    names_left =
        ap₂ (table_names s) (right_left.node_count ∙ length-map left.nodes (name_of s)) h.nodes ∙ nodes_read s (length n) left.nodes

    rows_left : rows_in j e₁ ≡ left.rows
    rows_left = ap₂ rows_in right_left.edge_count h.edges ∙ edges_read (length e) left.rows

    edges_left : table_edges s i j n₁ e₁ ≡ edges s left
    edges_left = ap₂ (λ ns rs. map (between ns) rs) names_left rows_left

    right_tables : RightGraph mode (text_of b) (plain_at s) i j (table_names s i n₁) (rows_in j e₁)
    right_tables = subst₂ (λ ns rs. RightGraph mode (text_of b) (plain_at s) i j ns rs) (sym names_left) (sym rows_left) right_left

-- ---- second part

module _ (mode : Mode) (s s₁ b : List ℕ) (k : Lengths) (f : WellFormed s) (f₁ : WellFormed s₁) where
  graphs_alike : (g g₁ : Graph) → graph_here mode s b ≡ g → graph_here mode s₁ b ≡ g₁ → Agree g g₁
      → Alike s s₁ (result_of (words_at mode s) g) (result_of (words_at mode s₁) g₁)
  graphs_alike (graph ns es) (graph ns₁ es₁) e e₁ (graphs-built p q) =
      both_built refl (ap₂ (λ x y. Ok (x, y)) (sym (perm_length p)) (sym (perm_length q)))
      (subst₂ Perm (sym (names_are mode s b f.bytes f.reads e)) (sym (names_are mode s₁ b f₁.bytes f₁.reads e₁)) p)
      (subst₂ Perm (sym (edges_are mode s b f.bytes f.reads e)) (sym (edges_are mode s₁ b f₁.bytes f₁.reads e₁)) q)
  graphs_alike (fault n j a) (fault n₁ j₁ a₁) e e₁ graphs-refused = both_refused refl refl
  graphs_alike (graph ns es) (fault n₁ j₁ a₁) e e₁ agree = elim agree [ ]
  graphs_alike (fault n j a) (graph ns₁ es₁) e e₁ agree = elim agree [ ]

  alike_behind : (y : Ans (List BundleText)) (short : Bool) → Alike s s₁ (result_here mode s b) (result_here mode s₁ b)
      → Alike s s₁ (unless_short y short (result_here mode s b)) (unless_short y short (result_here mode s₁ b))
  alike_behind (good es n) true h = both_refused refl refl
  alike_behind (good es n) false h = h
  alike_behind (bad p) short h = both_refused refl refl

  pub alike : Agree (graph_here mode s b) (graph_here mode s₁ b) → Alike s s₁ (graphed mode s b k) (graphed mode s₁ b k)
  alike h =
      subst₂ (Alike s s₁) (sym (well_formed mode s b k f.reads)) (sym (well_formed mode s₁ b k f₁.reads))
      (alike_behind (bundle_at b) (is_too_short (longest_text b) k) (graphs_alike (graph_here mode s b) (graph_here mode s₁ b) refl refl h))

-- and of what two calls leave
module _ (mode : Mode) (s s₁ b n e d f g l n' e' d' f' g' l' : List ℕ) (ks : lengths_of n e d f g l ≡ lengths_of n' e' d' f' g' l')
    (w : WellFormed s) (w₁ : WellFormed s₁) {r r' : Answer (ℕ × ℕ) GraphRefusal} {n₁ e₁ d₁ f₁ g₁ l₁ n₁' e₁' d₁' f₁' g₁' l₁' : List ℕ} (h : Graphs mode s b n e d f g l r n₁ e₁ d₁ f₁ g₁ l₁)
    (h₁ : Graphs mode s₁ b n' e' d' f' g' l' r' n₁' e₁' d₁' f₁' g₁' l₁') where
  abbrev Calls : Answer (ℕ × ℕ) GraphRefusal → Answer (ℕ × ℕ) GraphRefusal → Type 0
  Calls x y = AlikeCalls s s₁ x n₁ e₁ y n₁' e₁'

  tables_alike : Alike s s₁ (left mode s b n e d f g l w.bytes h) (left mode s₁ b n' e' d' f' g' l' w₁.bytes h₁) → Calls r r'
  tables_alike (both_refused a a₁) = subst₂ Calls (sym (h.answer ∙ a)) (sym (h₁.answer ∙ a₁)) both_refused
  tables_alike (both_built {n = i} {m = j} a a₁ p q) =
      subst₂ Calls (sym (h.answer ∙ a)) (sym (h₁.answer ∙ a₁)) (both_built
      (subst₂ Perm (sym (names_left mode s b n e d f g l w.bytes h i j a)) (sym (names_left mode s₁ b n' e' d' f' g' l' w₁.bytes h₁ i j a₁)) p)
      (subst₂ Perm (sym (edges_left mode s b n e d f g l w.bytes h i j a)) (sym (edges_left mode s₁ b n' e' d' f' g' l' w₁.bytes h₁ i j a₁)) q))

pub bytes_demand3 : (mode : Mode) → BytesDemand3 mode
bytes_demand3 mode = record {
  right = right_graph mode;
  called = λ s b n e d f g l i j bytes h. right_tables mode s b n e d f g l bytes h i j (sym h.answer);
  permuted = λ s s₁ b k f f₁ p o. alike mode s s₁ b k f f₁ ((demand3 mode most_nodes most_edges (text_of b)).permuted (plain_at s) (plain_at s₁) p o);
  spread = λ s s₁ b k f f₁ p o o₁. alike mode s s₁ b k f f₁ ((demand3 mode most_nodes most_edges (text_of b)).spread (plain_at s) (plain_at s₁) p o o₁);
  called_alike = λ s s₁ b n e d f g l n' e' d' f' g' l' ks w w₁ a h h₁.
      tables_alike mode s s₁ b n e d f g l n' e' d' f' g' l' ks w w₁ h h₁ (subst (λ k. Alike s s₁ (graphed mode s b (lengths_of n e d f g l))
      (graphed mode s₁ b k)) ks a);
}
