-- How large an answer is at the most: nodes and edges are within their limits, an entry that is refused is one of the image, of which there are at most
-- 16 times 1,024, a scan is refused within its text, which is a part of the bundle, and image and bundle are wrong within their limits.
-- Assumes nothing.
use Rattle.std.specs.Prelude.{Err, Ok, None, Some, Result as Answer, Option}
use mathlib.Core.Path.{◌≡◌, refl, sym, ap, ◌∙◌, subst}
use mathlib.Core.Bool.{Bool, true, false, cond}
use mathlib.Core.List.{List, [], ◌∷◌, ◌++◌, map, flat_map}
use Prim.Native.Nat.{ℕ, ◌+◌, ◌*◌, ◌≤◌}
use native.Mathlib.Omega.{arith}
use lib.ListN.{length, length-append, length-map, take, drop, length-drop}
use lib.Seq.{length-take-le}
use Rattle.text.specs.declared.Refusal.{Refusal}
use Rattle.library_form.specs.Form.{Ans, good, bad}
use Rattle.library_form.specs.Writer.{AllBytes}
use Rattle.yangparser.specs.Dependencies.{Scan, good as scanGood, bad as scanBad, dependencies}
use Rattle.yangparser.proofs.KeptLaws.{entry_refusal}
use Rattle.library_image.specs.Library.{Name, Library, PlainSet, PlainLibrary, plain}
use Rattle.library_image.specs.Image.{image_broken, image_at}
use Rattle.library_image.specs.ImageWriter.{EachOf, FormedSet}
use Rattle.library_image.proofs.ImageLaws.{image_formed}
use Rattle.library_find.specs.Find.{first_module, find_module}
use Rattle.library_find.proofs.FindBounds.{module_in}
use Rattle.library_lists.specs.Lists.{on_ans}
use Rattle.library_bundle.specs.Bundle.{Text, bundle_broken, bundle_at, look_in, look_up}
use Rattle.library_bundle.specs.Reading.{longest_text}
use Rattle.library_bundle.proofs.LookBounds.{broken_in, stands_in}
use Rattle.graph.specs.Nodes.{Mode, nodes_of}
use Rattle.text.specs.Refusal.{no_refusal}
use Rattle.graph.specs.Graph.{ScanAnswer, Text as Words, refusing, Entry, module_entry, import_entry, set_entries, entries, Graph, graph, fault, graph_of}
use Rattle.graph.specs.Meaning.{FirstAt, Fault, entry_missing, include_missing, scan_refused_lem, import_unknown, listed_unknown, include_unknown, include_no_node}
use Rattle.graph.specs.Meaning.{too_deep_lem, Cause, names, by_fault, edges}
use Rattle.graph.proofs.Demand.{demand3}
use Rattle.library_items.specs.Table.{Reads}
use Rattle.graph.specs.Limits.{most_edges, most_nodes}
use Rattle.graph_nodes.specs.Adding.{plain_at, words_at}
use Rattle.graph_texts.specs.Texts.{scan_seen, scan_text, look_text, text_of}
use Rattle.graph_build.specs.Result.{Result, refusal, result_of, draw_result}
use Rattle.yanglib.specs.ToGraph.{lent_too_short, on_read, graphed, AnswerFits}
use Rattle.graph_tables.specs.Lengths.{Lengths, is_too_short}
use Rattle.graph_build.proofs.Outcome.{image_here}

-- ---- where an image and a bundle are wrong

image_low : (s : List ℕ) (p : ℕ) → image_at s ≡ bad p → p ≤ 65536
unfolding find_module
image_low s p e = ((module_in s []).broken p (ap (λ r. on_ans r (λ l n. first_module [] l) (λ q. Err q)) e)).1

bundle_low : (b : List ℕ) (p : ℕ) → bundle_at b ≡ bad p → p ≤ 16777216
unfolding look_up
bundle_low b p e = broken_in b [] p (ap (look_in []) e)

-- ---- where a scan is refused

scan_low : (t : List ℕ) (a : Refusal) → scan_text t ≡ refusing a → a.at ≤ length t
unfolding scan_text
scan_low t a e = go (dependencies false t false) refl e
  where
    go : (x : Scan) → dependencies false t false ≡ x → scan_seen x ≡ refusing a → a.at ≤ length t
    go (scanGood d) h k = let z : ◌≡◌ {A = ℕ} 0 1 = cc in absurd (omega arith)
    go (scanBad r d) h k = let z : r.at ≡ a.at = cc in omega (arith, entry_refusal false t false r d h)

text_low : (b : List ℕ) (v : Name) (a : Refusal) → text_of b v ≡ refusing a → a.at ≤ 16777216
unfolding text_of
text_low b v a e = go (look_up b v) refl e
  where
    go : (x : Answer (Option (ℕ × ℕ)) ℕ) → look_up b v ≡ x → look_text b x ≡ refusing a → a.at ≤ 16777216
    go (Err p) h k = let z : ◌≡◌ {A = ℕ} 0 1 = cc in absurd (omega arith)
    go (Ok None) h k = let z : ◌≡◌ {A = ℕ} 0 1 = cc in absurd (omega arith)
    go (Ok (Some (from, size))) h k =
        let r = stands_in b v from size h in
        let i : from + size ≤ length b = r.0 in
        let j : length b ≤ 16777216 = r.1 in
        let q : size ≤ length (drop from b) = rw length-drop (omega arith) in
        let n : length (take size (drop from b)) ≡ size = length-take-le size (drop from b) q in
        omega (arith, scan_low (take size (drop from b)) a k)

-- ---- how many entries there are

set_few : (before : List PlainSet) (x : PlainSet) → FormedSet before x → length (set_entries x) ≤ 1024
set_few before x f =
    omega (
      arith,
      length-append (map module_entry x.modules) (map import_entry x.import_only),
      length-map x.modules module_entry,
      length-map
          x.import_only import_entry,
      f.modules.few,
      f.import_only.few,
    )

sets_few : (before l : List PlainSet) → EachOf FormedSet before l → length (entries l) ≤ length l * 1024
unfolding EachOf flat_map
sets_few before [] f = omega arith
sets_few before (x ∷ l) f =
    omega (arith, length-append (set_entries x) (entries l), set_few before x f.0, sets_few (before ++ (x ∷ [])) l f.1)

entries_few : (s : List ℕ) → AllBytes s → Reads (image_at s) → length (entries (plain_at s)) ≤ 65536
entries_few s bytes h = subst (λ l. length (entries (plain l)) ≤ 65536) (sym (image_here s h)) few
  where
    few : length (entries (plain h.value)) ≤ 65536
    few =
        let f = image_formed s h.read bytes in
        omega (arith, f.sets.few, sets_few [] (plain h.value) f.sets.each)

-- ---- the graph

module _ (mode : Mode) (text : Name → Words) (l : PlainLibrary) where
  first_low : (k : ℕ) (x : Entry) → FirstAt mode text l k x → k ≤ length (entries l)
  first_low k x f =
      let n : length (entries l) ≡ length f.before + length (x ∷ f.after) = ap length f.order ∙ length-append f.before (x ∷ f.after) in
      omega (arith, f.number)

  module _ (low : (v : Name) (a : Refusal) → text v ≡ refusing a → a.at ≤ 16777216) where
    fault_low : (x : Entry) {n : ℕ} {a : ScanAnswer} → Fault mode text l x n a → a.at ≤ 16777216
    fault_low x (entry_missing e) = omega arith
    fault_low x (include_missing r f e) = omega arith
    fault_low x (scan_refused_lem {v = v} {a = a} r e) = low v a e
    fault_low x (import_unknown r i u) = omega arith
    fault_low x (listed_unknown m u) = omega arith
    fault_low x (include_unknown r i u) = omega arith
    fault_low x (include_no_node r i m u) = omega arith
    fault_low x (too_deep_lem r f) = omega arith

    cause_low : {n k : ℕ} {a : ScanAnswer} → Cause mode text l most_nodes most_edges n k a → (k ≤ length (entries l)) × (a.at ≤ 16777216)
    cause_low (names h) = (omega arith, omega arith)
    cause_low (by_fault {k = k} x f g) = (first_low k x f, fault_low x g)
    cause_low (edges {k = k} x f w es d m h) = (first_low k x f, omega arith)

module _ (mode : Mode) (s b : List ℕ) (bytes : AllBytes s) (reads : Reads (image_at s)) where
  abbrev whole : Graph
  whole = graph_of mode most_nodes most_edges (text_of b) (plain_at s)

  graph_fits : (g : Graph) → whole ≡ g → AnswerFits (result_of (words_at mode s) g).answer
  unfolding AnswerFits
  graph_fits (graph ns es) h =
      let d = demand3 mode most_nodes most_edges (text_of b) in
      let r = d.right (plain_at s) ns es h in
      let o = (d.built (plain_at s)).0 (ns, es, h) in
      let n : length ns ≡ length (nodes_of mode (plain_at s)) = ap length r.nodes in
      (omega (arith, o.nodes), o.edges es r.edges_differ (λ e m. (r.exact e.from e.to).0 m))
  graph_fits (fault n k a) h =
      let c = cause_low mode (text_of b) (plain_at s) (text_low b) ((demand3 mode most_nodes most_edges (text_of b)).refused (plain_at s) n k a h) in
      (omega (arith, c.0, entries_few s bytes reads), c.1, omega arith)

pub answer_fits : (mode : Mode) (s b : List ℕ) → AllBytes s → (k : Lengths) → AnswerFits (graphed mode s b k).answer
unfolding graphed AnswerFits
answer_fits mode s b bytes k = image (image_at s) refl
  where
    tail : Result
    tail = draw_result mode s b

    lent : Reads (image_at s) → (t : Bool) → AnswerFits (cond t (refusal lent_too_short 0 no_refusal 0) tail).answer
    lent h true = (omega arith, omega arith, omega arith)
    lent h false = graph_fits mode s b bytes h (graph_of mode most_nodes most_edges (text_of b) (plain_at s)) refl

    bundle : Reads (image_at s) → (y : Ans (List Text)) → bundle_at b ≡ y
        → AnswerFits (on_read y (refusal bundle_broken 0 no_refusal) (cond (is_too_short (longest_text b) k)
        (refusal lent_too_short 0 no_refusal 0) tail)).answer
    bundle h (good es n) e = lent h (is_too_short (longest_text b) k)
    bundle h (bad p) e = (omega arith, omega arith, bundle_low b p e)

    image : (x : Ans Library) → image_at s ≡ x
        → AnswerFits (on_read x (refusal image_broken 0 no_refusal) (on_read (bundle_at b) (refusal bundle_broken 0 no_refusal)
        (cond (is_too_short (longest_text b) k) (refusal lent_too_short 0 no_refusal 0) tail))).answer
    image (good l n) e = bundle (record { value = l; end = n; read = e }) (bundle_at b) refl
    image (bad p) e = (omega arith, omega arith, omega (arith, image_low s p e))
