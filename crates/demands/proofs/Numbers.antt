-- Which refusals the calls can give. The answer of a graph goes through four ways out, and behind them a refusal of the graph has its cause; the number,
-- entry and scan answer of each cause are read off.
-- Assumes nothing.
use Rattle.std.specs.Prelude.{Some, None, Err, Ok, Option, Result as Answer}
use Prim.Native.Nat.{ℕ, ◌+◌}
use mathlib.Core.Path.{◌≡◌, refl, sym, ap, ◌∙◌, subst, subst₃}
use mathlib.Core.Bool.{Bool, true, false, cond}
use mathlib.Core.Logic.{◌↔◌, ◌⊎◌, inl, inr}
use mathlib.Core.List.{List, [], ◌∷◌, Memᴰ}
use native.Mathlib.Omega.{arith}
use lib.ListN.{length, get_or, take, drop}
use Rattle.text.specs.Keyword.{same}
use Rattle.text.proofs.Here.{never}
use Rattle.text.specs.declared.Refusal.{Refusal}
use Rattle.library_form.specs.Form.{Ans, good, bad, PlacedName}
use Rattle.library_index.specs.Names.{first_by}
use Rattle.library_image.specs.Image.{image_at}
use Rattle.library_image.specs.Library.{Name, Module, ImportOnly, Library, modules_of, submodules_of, import_only_of}
use Rattle.library_lists.specs.Lists.{on_ans}
use Rattle.library_find.specs.Find.{first_module, first_submodule, first_import_only, find_in, find_module, find_submodule, find_import_module}
use Rattle.library_bundle.specs.Bundle.{Text, bundle_at, place_of, looked, look_in, look_up, part_of, text_under}
use Rattle.library_bundle.specs.Reading.{longest_text}
use Rattle.graph.specs.Nodes.{Mode, complete}
use Rattle.text.specs.Refusal.{no_refusal}
use Rattle.graph.specs.Graph.{ScanAnswer, refusing, Entry, Graph, graph as drawing, fault}
use Rattle.graph.specs.Meaning.{Fault, entry_missing, include_missing, scan_refused_lem, import_unknown, listed_unknown, include_unknown, include_no_node, too_deep_lem}
use Rattle.graph.specs.Meaning.{Cause, names, by_fault, edges}
use Rattle.graph.proofs.Demand.{demand3}
use Rattle.graph.proofs.Complete.{cause_has_node}
use Rattle.graph_nodes.specs.Adding.{plain_at, words_at}
use Rattle.graph_texts.specs.Texts.{scan_seen, scan_text, look_text, text_of}
use Rattle.yangparser.specs.Dependencies.{Dependencies, Scan, good as scanGood, bad as scanBad, dependencies}
use Rattle.graph_build.specs.Result.{Result, result_of}
use Rattle.yanglib.specs.ToGraph.{graphed}
use Rattle.graph_tables.specs.Lengths.{Lengths, lengths_of, is_too_short}
use Rattle.graph_build.specs.declared.GraphRefusal.{GraphRefusal}
use Rattle.nuvaleta.specs.Words.{graph_words}
use Rattle.demands.specs.Demand1.{GraphCause, image, bundle, lent, graph, GraphNumbers, Buildable, Demand1}
use Rattle.demands_scans.proofs.ScanNumbers.{is_one, one_of, is_one_lem, dependencies_first}
use Rattle.demands.proofs.Graphing.{graph_here, before, graph_reached, drawn}
use Rattle.demands_scans.proofs.MetadataNumbers.{metadata_first}
use Rattle.demands_scans.proofs.WholeNumbers.{dependencies_mode_refused, metadata_mode_refused}
use Rattle.demands.proofs.Zeros.{zeros_left}

-- ---- finds and texts

-- a search for a place is never broken
abbrev found : {A : Type 0} (name : A → PlacedName) (place count : A → ℕ) → List ℕ → List A → Answer (Option (ℕ × ℕ)) ℕ
found {A} name place count t l = first_by {A = A} {B = Answer (Option (ℕ × ℕ)) ℕ} name (λ a. Ok (Some (place a, count a))) t l (Ok None)

never_broken : {A : Type 0} (name : A → PlacedName) (place count : A → ℕ) (t : List ℕ) (l : List A) (p : ℕ)
    → found name place count t l ≡ Err p → ⊥
never_broken name place count t [] p e = let z : ◌≡◌ {A = ℕ} 0 1 = cc in omega arith
never_broken name place count t (a ∷ l) p e = go (same (name a).text t) (never_broken name place count t l p) e
  where
    go : (b : Bool) → (found name place count t l ≡ Err p → ⊥)
        → cond {A = Answer (Option (ℕ × ℕ)) ℕ} b (Ok (Some (place a, count a))) (found name place count t l) ≡ Err p → ⊥
    go true f e = let z : ◌≡◌ {A = ℕ} 0 1 = cc in omega arith
    go false f e = f e

find_broken : (f : Library → Answer (Option (ℕ × ℕ)) ℕ) → ((l : Library) (p : ℕ) → f l ≡ Err p → ⊥) → (s : List ℕ) (p : ℕ) → (find_in f s ≡ Err p) ↔ (image_at s ≡ bad p)
find_broken f never s p = (λ e. go (image_at s) e, λ e. ap (λ r. on_ans r (λ l n. f l) (λ q. Err q)) e)
  where
    go : (r : Ans Library) → on_ans r (λ l n. f l) (λ q. Err q) ≡ Err p → r ≡ bad p
    go (good l n) e = absurd (never l p e)
    go (bad q) e = let k : q ≡ p = cc in ap bad k

text_broken : (s t : List ℕ) (p : ℕ) → (look_up s t ≡ Err p) ↔ (bundle_at s ≡ bad p)
unfolding look_up
text_broken s t p = (λ e. go (bundle_at s) e, λ e. ap (look_in t) e)
  where
    place : (x : Option (ℕ × ℕ)) → looked x ≡ Err p → ⊥
    place (Some (a, b)) e = let z : ◌≡◌ {A = ℕ} 0 1 = cc in omega arith
    place None e = let z : ◌≡◌ {A = ℕ} 0 1 = cc in omega arith

    go : (r : Ans (List Text)) → look_in t r ≡ Err p → r ≡ bad p
    go (good es n) e = absurd (place (place_of t es) e)
    go (bad q) e = let k : q ≡ p = cc in ap bad k

-- ---- the numbers of a graph's causes

abbrev every : List ℕ
every = 20 ∷ 21 ∷ 22 ∷ 23 ∷ 24 ∷ 25 ∷ 26 ∷ 27 ∷ 28 ∷ 29 ∷ 30 ∷ 31 ∷ []

abbrev early : List ℕ
early = 20 ∷ 21 ∷ 22 ∷ 30 ∷ []

-- before the walk, and at an entry of it
before_walk : (n place : ℕ) → is_one n every ≡ true → is_one n early ≡ true → (place ≡ 0) ⊎ Memᴰ n (20 ∷ 21 ∷ []) → GraphNumbers n 0 no_refusal place
before_walk n place h i j = record { number_in = one_of n every h; entry_none = (λ e. one_of n early i, λ m. refl); scan_none = inl refl; place_none = j }

at_entry : (n e : ℕ) (a : ScanAnswer) (k : ℕ) → e ≡ k + 1 → is_one n every ≡ true → is_one n early ≡ false → (a ≡ no_refusal) ⊎ (n ≡ 25) → GraphNumbers n e a 0
at_entry n e a k q h i j = record {
  number_in = one_of n every h;
  entry_none = (λ z. absurd (omega (arith, q, z)), λ m. absurd (never i (is_one_lem m)));
  scan_none = j;
  place_none = inl refl;
}

module _ (mode : Mode) (s b : List ℕ) where
  fault_numbers : (x : Entry) (e k : ℕ) → e ≡ k + 1 → {n : ℕ} {a : ScanAnswer} → Fault mode (text_of b) (plain_at s) x n a → GraphNumbers n e a 0
  unfolding is_one
  fault_numbers x e k q (entry_missing h) = at_entry 23 e no_refusal k q refl refl (inl refl)
  fault_numbers x e k q (include_missing r f h) = at_entry 24 e no_refusal k q refl refl (inl refl)
  fault_numbers x e k q (scan_refused_lem {a = a} r h) = at_entry 25 e a k q refl refl (inr refl)
  fault_numbers x e k q (import_unknown r i u) = at_entry 26 e no_refusal k q refl refl (inl refl)
  fault_numbers x e k q (listed_unknown m u) = at_entry 26 e no_refusal k q refl refl (inl refl)
  fault_numbers x e k q (include_unknown r i u) = at_entry 27 e no_refusal k q refl refl (inl refl)
  fault_numbers x e k q (include_no_node r i m u) = at_entry 28 e no_refusal k q refl refl (inl refl)
  fault_numbers x e k q (too_deep_lem r f) = at_entry 29 e no_refusal k q refl refl (inl refl)

  cause_numbers : {n e : ℕ} {a : ScanAnswer} → Cause mode (text_of b) (plain_at s) 1024 8192 n e a → GraphNumbers n e a 0
  unfolding is_one
  cause_numbers (names h) = before_walk 30 0 refl refl (inl refl)
  cause_numbers (by_fault {k = e} x f g) = fault_numbers x e (length f.before) f.number g
  cause_numbers (edges {k = e} x f w es d m h) = at_entry 31 e no_refusal (length f.before) f.number refl refl (inl refl)

  numbers : (k : Lengths) {n e place : ℕ} {a : Refusal} → GraphCause mode s b k n e a place → GraphNumbers n e a place
  unfolding is_one
  numbers k (image {p = p} h) = before_walk 20 p refl refl (inr (one_of 20 (20 ∷ 21 ∷ []) refl))
  numbers k (bundle {p = p} r h) = before_walk 21 p refl refl (inr (one_of 21 (20 ∷ 21 ∷ []) refl))
  numbers k (lent r o h) = before_walk 22 0 refl refl (inl refl)
  numbers k (graph r o h c) = cause_numbers c

-- ---- 25

-- a text that is refused stands in the bundle, and its scan is refused so
refused_scan : (b : List ℕ) (v : Name) (a : Refusal) → text_of b v ≡ refusing a → (d : Dependencies) × (dependencies false (text_under b v) false ≡ scanBad a d)
unfolding text_of scan_text text_under
refused_scan b v a e = look (look_up b v) e
  where
    scan : (x : Scan) → scan_seen x ≡ refusing a → (d : Dependencies) × (x ≡ scanBad a d)
    scan (scanGood d) h = let z : ◌≡◌ {A = ℕ} 0 1 = cc in absurd (omega arith)
    scan (scanBad r d) h = (d, cc)

    look : (x : Answer (Option (ℕ × ℕ)) ℕ) → look_text b x ≡ refusing a → (d : Dependencies) × (dependencies false (part_of b x) false ≡ scanBad a d)
    look (Err p) h = let z : ◌≡◌ {A = ℕ} 0 1 = cc in absurd (omega arith)
    look (Ok None) h = let z : ◌≡◌ {A = ℕ} 0 1 = cc in absurd (omega arith)
    look (Ok (Some (from, size))) h = scan (dependencies false (take size (drop from b)) false) h

module _ (mode : Mode) (s b : List ℕ) where
  abbrev RefusedText : ScanAnswer → Type 0
  RefusedText a = (v : Name) × (text_of b v ≡ refusing a)

  fault_scan : (x : Entry) {n : ℕ} {a : ScanAnswer} → Fault mode (text_of b) (plain_at s) x n a → n ≡ 25 → RefusedText a
  fault_scan x (entry_missing h) e = absurd (omega (arith, e))
  fault_scan x (include_missing r f h) e = absurd (omega (arith, e))
  fault_scan x (scan_refused_lem {v = v} r h) e = (v, h)
  fault_scan x (import_unknown r i u) e = absurd (omega (arith, e))
  fault_scan x (listed_unknown m u) e = absurd (omega (arith, e))
  fault_scan x (include_unknown r i u) e = absurd (omega (arith, e))
  fault_scan x (include_no_node r i m u) e = absurd (omega (arith, e))
  fault_scan x (too_deep_lem r f) e = absurd (omega (arith, e))

  cause_scan : {n e : ℕ} {a : ScanAnswer} → Cause mode (text_of b) (plain_at s) 1024 8192 n e a → n ≡ 25 → RefusedText a
  cause_scan (names h) q = absurd (omega (arith, q))
  cause_scan (by_fault x f g) q = fault_scan x g q
  cause_scan (edges x f w es d m h) q = absurd (omega (arith, q))

  carried : (k : Lengths) {n e place : ℕ} {a : Refusal} → GraphCause mode s b k n e a place → n ≡ 25 → RefusedText a
  carried k (image h) q = absurd (omega (arith, q))
  carried k (bundle r h) q = absurd (omega (arith, q))
  carried k (lent r o h) q = absurd (omega (arith, q))
  carried k (graph r o h c) q = cause_scan c q

-- ---- the ways out

-- a cause of the very refusal
moved : {mode : Mode} {s b : List ℕ} {k : Lengths} {n e p n₁ e₁ p₁ : ℕ} {a a₁ : Refusal} → GraphCause mode s b k n e a p
    → ◌≡◌ {A = Answer (ℕ × ℕ) GraphRefusal} (Err (record { number = n; entry = e; scan = a; place = p }))
    (Err (record { number = n₁; entry = e₁; scan = a₁; place = p₁ }))
    → GraphCause mode s b k n₁ e₁ a₁ p₁
moved {mode} {s} {b} {k} {n} {e} {p} {n₁} {e₁} {p₁} {a} {a₁} c h =
    let q : ◌≡◌ {A = GraphRefusal} (record { number = n; entry = e; scan = a; place = p }) (record { number = n₁; entry = e₁; scan = a₁; place = p₁ }) = cc in
    subst (λ (x : GraphRefusal). GraphCause mode s b k x.number x.entry x.scan x.place) q c

module _ (mode : Mode) (s b : List ℕ) (k : Lengths) where
  pub caused : (number entry place : ℕ) (a : Refusal) → (graphed mode s b k).answer ≡ Err (record { number = number; entry = entry; scan = a; place = place }) → GraphCause mode s b k number entry a place
  unfolding graphed
  caused number entry place a h = go (image_at s) (bundle_at b) (is_too_short (longest_text b) k) (graph_here mode s b) refl refl refl refl h
    where
      go : (x : Ans Library) (y : Ans (List Text)) (short : Bool) (g : Graph) → image_at s ≡ x → bundle_at b ≡ y → is_too_short (longest_text b) k ≡ short
          → graph_here mode s b ≡ g → (before x y short (result_of (words_at mode s) g)).answer ≡ Err (record { number = number; entry = entry; scan = a; place = place })
          → GraphCause mode s b k number entry a place
      go (bad p) y short g e f t q h = moved (image e) h
      go (good l i) (bad p) short g e f t q h = moved (bundle (record { value = l; end = i; read = e }) f) h
      go (good l i) (good o j) true g e f t q h = moved (lent (record { value = l; end = i; read = e }) (record { value = o; end = j; read = f }) t) h
      go (good l i) (good o j) false (drawing ns es) e f t q h = let z : ◌≡◌ {A = ℕ} 0 1 = cc in absurd (omega arith)
      go (good l i) (good o j) false (fault n m c) e f t q h =
          let d = (demand3 mode 1024 8192 (text_of b)).refused (plain_at s) n m c q in
          moved (graph (record { value = l; end = i; read = e }) (record { value = o; end = j; read = f }) t d) h

  buildable : (n m : ℕ) → (graphed mode s b k).answer ≡ Ok (n, m) → Buildable mode s b k
  buildable n m h =
      let d = drawn mode s b k n m h in
      let o = ((demand3 mode 1024 8192 (text_of b)).built (plain_at s)).0 (d.ns, d.es, d.graph_is) in
      record { image = d.reads; bundle = d.bundle; lent = d.long; sound = o }

  built : Buildable mode s b k → (n : ℕ) × (m : ℕ) × ((graphed mode s b k).answer ≡ Ok (n, m))
  built c =
      let g = ((demand3 mode 1024 8192 (text_of b)).built (plain_at s)).1 c.sound in
      let e = graph_reached mode s b k c.image c.bundle c.lent ∙ ap (result_of (words_at mode s)) g.2 in
      (length g.0, length g.1, ap (λ (x : Result). x.answer) e)

-- ---- 28

-- the words of a graph's answer begin with its number, or with 0
begun : (x : Answer (ℕ × ℕ) GraphRefusal) → get_or (graph_words x) 0 0 ≡ 28 → (entry place : ℕ) × (a : Refusal) × (x ≡ Err (record { number = 28; entry = entry; scan = a; place = place }))
unfolding graph_words
begun (Ok (n, m)) h = absurd (omega (arith, h))
begun (Err r) h = let record { number = number; entry = entry; scan = a; place = place } = r in (entry, place, a, ap (λ n. Err (record { number = n; entry = entry; scan = a; place = place })) h)

pub never_28 : (s b : List ℕ) (k : Lengths) {number entry place : ℕ} {a : Refusal} → GraphCause complete s b k number entry a place → number ≡ 28 → ⊥
never_28 s b k (image h) q = omega (arith, q)
never_28 s b k (bundle r h) q = omega (arith, q)
never_28 s b k (lent r o h) q = omega (arith, q)
never_28 s b k (graph r o h c) q = cause_has_node (text_of b) (plain_at s) 1024 8192 c q

never_begun : (s b : List ℕ) (k : Lengths) → get_or (graph_words (graphed complete s b k).answer) 0 0 ≡ 28 → ⊥
never_begun s b k h =
    let r = begun (graphed complete s b k).answer h in
    never_28 s b k (caused complete s b k 28 r.0 r.1 r.2 r.3) refl

pub demand1 : Demand1
unfolding find_module find_submodule find_import_module
demand1 = record {
  dependencies = λ whole s short r d h. dependencies_mode_refused s short r d whole h;
  metadata = λ whole s short r bs h. metadata_mode_refused s short r bs whole h;
  first_refused = λ whole s short r f. (dependencies_first s short whole r f, metadata_first s short whole r f);
  module_found = λ s t p.
      find_broken (first_module t) (λ l. never_broken (λ (m : Module). m.name) (λ m. m.name.place) (λ m. 0) t (modules_of l)) s p;
  submodule_found = λ s t p.
      find_broken (first_submodule t) (λ l. never_broken (λ (w : PlacedName). w) (λ w. w.place) (λ w. 0) t (submodules_of (modules_of l))) s p;
  import_found = λ s t p. find_broken (first_import_only t)
      (λ l. never_broken (λ (m : ImportOnly). m.name) (λ m. m.name.place) (λ m. length m.revisions) t (import_only_of l)) s p;
  text_found = text_broken;
  graph_refused = λ mode s b k number entry place a h. let c = caused mode s b k number entry place a h in (c, numbers mode s b k c);
  scan_carried = λ mode s b k entry place a h.
      let x = carried mode s b k (caused mode s b k 25 entry place a h) refl in
      let d = refused_scan b x.0 a x.1 in
      (x.0, d.0, d.1);
  graph_built = λ mode s b k. (λ x. buildable mode s b k x.0 x.1 x.2, built mode s b k);
  has_node = λ s b n e d f g l h.
      let q = never_begun s b (lengths_of n e d f g l) in
      (λ z. q (sym h.told.number ∙ z), λ z. q (ap (λ w. get_or w 0 0) (sym h.told.answered) ∙ z));
  zeros = zeros_left;
}
