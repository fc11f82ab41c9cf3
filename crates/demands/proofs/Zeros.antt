-- A refusal leaves zeros: what an entry keeps of a refusal is nothing, and what is good or built has the number 0.
-- Assumes nothing.
use Rattle.std.specs.Prelude.{Ok, Err, Result as Answer}
use Prim.Native.Nat.{ℕ}
use mathlib.Core.Path.{◌≡◌, refl, sym, ap, ap₂, ◌∙◌}
use mathlib.Core.Bool.{Bool, true, false}
use mathlib.Core.List.{List, [], ◌∷◌, ◌++◌}
use native.Mathlib.Omega.{arith}
use lib.ListN.{length, drop, get_or}
use Rattle.text.specs.declared.Refusal.{Refusal}
use Rattle.text_lent.specs.Padded.{zeros, padded}
use Rattle.text_lent.proofs.Clears.{padded_none}
use Rattle.scan_rows.specs.Rows.{table, import_table, include_table}
use Rattle.yangparser.specs.Dependencies.{Scan, good, bad, none, import_words_of, include_words_of, parsed_of, kept_of}
use Rattle.yangparser.specs.Promises.{Leaves}
use Rattle.yangparser.specs.declared.Rows.{Rows}
use Rattle.scan_page.specs.Page.{page_of}
use Rattle.scan_metadata.specs.Metadata as Metadata
use Rattle.scan_metadata.specs.declared.YangModuleMetadata.{YangModuleMetadata}
use Rattle.library_form.specs.Form.{Ans, good as read, bad as wrong}
use Rattle.library_image.specs.Image.{image_at}
use Rattle.library_image.specs.Library.{Library}
use Rattle.library_bundle.specs.Bundle.{Text, bundle_at}
use Rattle.library_bundle.specs.Reading.{longest_text}
use Rattle.graph.specs.Nodes.{Mode}
use Rattle.graph.specs.Graph.{Graph, graph, fault}
use Rattle.graph_nodes.specs.Adding.{words_at}
use Rattle.graph_tables.specs.Tables.{node_words, row_words}
use Rattle.graph_tables.specs.Lengths.{Lengths, lengths_of, is_too_short}
use Rattle.graph_build.specs.Result.{Result, result_of}
use Rattle.yanglib.specs.ToGraph.{graphed, Leaves as GraphLeft}
use Rattle.graph_build.specs.declared.GraphRefusal.{GraphRefusal}
use Rattle.host_words.specs.Words.{record_words}
use Rattle.nuvaleta.specs.Words.{number_of, answer_words, graph_words}
use Rattle.demands.specs.Demand1.{Zeroed, ZeroedGraph, Zeros}
use Rattle.demands.proofs.Graphing.{graph_here, before}

-- a slice that holds nothing of x
emptied : {X : Type 0} (of : X → List ℕ) {x y : X} → x ≡ y → of y ≡ [] → (d : List ℕ) {e : List ℕ} → e ≡ padded (length d) (of x) → Zeroed d e
emptied of q n d h = h ∙ ap (λ z. padded (length d) (of z)) q ∙ ap (padded (length d)) n ∙ sym (padded_none (length d))

-- ---- dependencies

-- a scan that answers a refusal keeps nothing and prints nothing
record Nothing (x : Scan) : Type 0 where
  kept : kept_of x ≡ none
  page : page_of x ≡ []

nothing_kept : (x : Scan) (r : Refusal) → parsed_of x ≡ Err r → Nothing x
unfolding parsed_of kept_of page_of
nothing_kept (good d) r h = let z : ◌≡◌ {A = ℕ} 0 1 = cc in absurd (omega arith)
nothing_kept (bad a d) r h = record { kept = refl; page = refl }

-- a number that is not 0 is a refusal's
refused_scan : (p : Answer Rows Refusal) → (number_of p ≡ 0 → ⊥) → (r : Refusal) × (p ≡ Err r)
unfolding number_of
refused_scan (Ok r) h = let record { imports = m; includes = n; used = u } = r in absurd (h refl)
refused_scan (Err r) h = (r, refl)

module _ {x : Scan} {d t u : List ℕ} {p : Answer Rows Refusal} {e f g : List ℕ} (h : Leaves x d t u p e f g) (n : Nothing x) where
  scan_zero : Zeroed d e × Zeroed t f × Zeroed u g
  unfolding import_words_of include_words_of import_table include_table table
  scan_zero = (
    emptied (λ k. k.bytes) n.kept refl d h.stored,
    emptied import_words_of n.kept refl t h.imports,
    emptied include_words_of n.kept refl u h.includes,
  )

page_zero : {x : Scan} → Nothing x → (p : List ℕ) {q : List ℕ} → q ≡ padded (length p) (page_of x) → Zeroed p q
page_zero n p h = emptied (λ z. z) n.page refl p h

-- behind number, keyword and position
behind : (r : Refusal) → drop 3 (answer_words (Err r)) ≡ zeros 3
unfolding answer_words
behind r = refl

behind_page : (r : Refusal) → drop 3 (answer_words (Err r) ++ (0 ∷ [])) ≡ zeros 4
unfolding answer_words
behind_page r = refl

-- ---- metadata

record Missing (x : Metadata.Scan) : Type 0 where
  values : (Metadata.answer_of x).values ≡ Metadata.no_values
  used : (Metadata.answer_of x).used ≡ 0
  kept : Metadata.kept_of x ≡ []

missing_all : (x : Metadata.Scan) → ((Metadata.answer_of x).answer.number ≡ 0 → ⊥) → Missing x
unfolding Metadata.answer_of Metadata.kept_of Metadata.refused_with
missing_all (Metadata.good m) h = absurd (h refl)
missing_all (Metadata.bad r bs) h = record { values = refl; used = refl; kept = refl }

no_words : record_words Metadata.no_values ≡ zeros 18
unfolding record_words
no_words = refl

-- ---- graphs

record Undrawn (x : Result) : Type 0 where
  nodes : x.nodes ≡ []
  rows : x.rows ≡ []

undrawn : (mode : Mode) (s b : List ℕ) (k : Lengths) (number entry : ℕ) (a : Refusal) (place : ℕ)
    → (graphed mode s b k).answer ≡ Err (record { number = number; entry = entry; scan = a; place = place }) → Undrawn (graphed mode s b k)
unfolding graphed
undrawn mode s b k number entry a place h = go (image_at s) (bundle_at b) (is_too_short (longest_text b) k) (graph_here mode s b) h
  where
    go : (x : Ans Library) (y : Ans (List Text)) (short : Bool) (g : Graph)
        → (before x y short (result_of (words_at mode s) g)).answer ≡ Err (record { number = number; entry = entry; scan = a; place = place })
        → Undrawn (before x y short (result_of (words_at mode s) g))
    go (wrong p) y short g h = record { nodes = refl; rows = refl }
    go (read l i) (wrong p) short g h = record { nodes = refl; rows = refl }
    go (read l i) (read o j) true g h = record { nodes = refl; rows = refl }
    go (read l i) (read o j) false (fault n m c) h = record { nodes = refl; rows = refl }
    go (read l i) (read o j) false (graph ns es) h = let z : ◌≡◌ {A = ℕ} 0 1 = cc in absurd (omega arith)

module _ {x : Result} {n e d f g l : List ℕ} {r : Answer (ℕ × ℕ) GraphRefusal} {n₁ e₁ d₁ f₁ g₁ l₁ : List ℕ} (h : GraphLeft x n e d f g l r n₁ e₁ d₁ f₁ g₁ l₁)
    (u : Undrawn x) where
  graph_left : ZeroedGraph n e d f g l n₁ e₁ d₁ f₁ g₁ l₁
  unfolding node_words row_words
  graph_left = record {
    nodes = emptied node_words u.nodes refl n h.nodes;
    edges = emptied row_words u.rows refl e h.edges;
    store = h.store;
    imports = h.imports;
    includes = h.includes;
    levels = h.levels;
  }

-- a number that is not 0 is a refusal's, and behind its words the answer is 0
record Told (x : Answer (ℕ × ℕ) GraphRefusal) : Type 0 where
  number : ℕ
  entry : ℕ
  scan : Refusal
  place : ℕ
  refused : x ≡ Err (record { number = number; entry = entry; scan = scan; place = place })
  behind : drop 6 (graph_words x) ≡ zeros 2

told : (x : Answer (ℕ × ℕ) GraphRefusal) → (get_or (graph_words x) 0 0 ≡ 0 → ⊥) → Told x
unfolding graph_words
told (Ok (n, m)) h = absurd (h refl)
told (Err r) h = let record { number = n; entry = e; scan = a; place = p } = r in record { number = n; entry = e; scan = a; place = p; refused = refl; behind = refl }

-- ---- all of them

pub zeros_left : Zeros
zeros_left = record {
  dependencies = λ whole s short d t u {r} h. scan_zero h (nothing_kept _ r (sym h.answer));
  printed = λ whole s d t u p {x} {r} h q.
      let n = nothing_kept _ r (sym h.scan.answer ∙ q) in
      let z = scan_zero h.scan n in
      (h.length_is ∙ ap length n.page, z.0, z.1, z.2, page_zero n p h.page);
  metadata = λ whole s d {x} h f.
      let m = missing_all _ (λ z. f (ap (λ (y : YangModuleMetadata). y.answer.number) h.answer ∙ z)) in (
        ap (λ (y : YangModuleMetadata). y.values) h.answer ∙ m.values,
        ap (λ (y : YangModuleMetadata). y.used) h.answer ∙ m.used,
        emptied (λ z. z) m.kept refl d h.stored,
      );
  graph = λ mode s b n e d f g l {number} {entry} {place} {a} h.
      graph_left h (undrawn mode s b (lengths_of n e d f g l) number entry a place (sym h.answer));
  host_dependencies = λ whole s d t u h f.
      let r = refused_scan _ (λ z. f (h.number ∙ z)) in
      let z = scan_zero h.scan (nothing_kept _ r.0 r.1) in
      (z.0, z.1, z.2, ap (drop 3) (h.answer ∙ ap answer_words r.1) ∙ behind r.0);
  host_printed = λ whole s d t u p h f.
      let r = refused_scan _ (λ z. f (h.number ∙ z)) in
      let n = nothing_kept _ r.0 r.1 in
      let z = scan_zero h.scan n in (
        z.0,
        z.1,
        z.2,
        page_zero n p h.page,
        ap (drop 3) (h.answer ∙ ap₂ (λ w q. answer_words w ++ (length q ∷ [])) r.1 n.page) ∙ behind_page r.0,
      );
  host_metadata = λ whole s d h f.
      let m = missing_all _ (λ z. f (h.number ∙ z)) in (
        emptied (λ z. z) m.kept refl d h.stored,
        h.words ∙ ap record_words m.values ∙ no_words,
        ap (drop 3) h.answer ∙ ap (λ n. n ∷ []) m.used,
      );
  host_graph = λ mode s b n e d f g l h q.
      let t = told _ (λ z. q (h.told.number ∙ z)) in (
        graph_left h.graph (undrawn mode s b (lengths_of n e d f g l) t.number t.entry t.scan t.place t.refused),
        ap (drop 6) h.told.answered ∙ t.behind,
      );
}
