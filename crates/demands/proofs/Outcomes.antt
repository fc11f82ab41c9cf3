-- Two outcomes of one promise are equal: each part of either equals one definition of the text and of the lengths lent.
-- Assumes nothing.
use Rattle.std.specs.Prelude.{Ok, Err, Some, None, Result as Answer}
use Prim.Native.Nat.{ℕ}
use mathlib.Core.Path.{◌≡◌, refl, sym, ap, ap₂, ◌∙◌}
use mathlib.Core.Bool.{Bool}
use mathlib.Core.List.{List, [], ◌∷◌, ◌++◌}
use native.Mathlib.Omega.{arith}
use lib.Dec.{ltb}
use lib.ListN.{length, get_or}
use Rattle.text_lent.specs.Padded.{zeros, padded}
use Rattle.yangparser.specs.Dependencies.{Scan, import_words_of, include_words_of, page_short, dependencies, parsed_of, kept_of}
use Rattle.scan_rows.specs.Short.{is_too_short}
use Rattle.yangparser.specs.Promises.{Leaves}
use Rattle.yangparser.specs.declared.Rows.{Rows}
use Rattle.scan_page.specs.Page.{page_of}
use Rattle.scan_metadata.specs.Metadata as Metadata
use Rattle.host_words.specs.Words.{record_words}
use Rattle.nuvaleta.specs.Words.{number_of, answer_words, graph_words}
use Rattle.nuvaleta.specs.Finds.{Told}
use Rattle.nuvaleta.specs.Graphs.{Drawn}
use Rattle.nuvaleta.specs.Orders.{order_words}
use Rattle.order.specs.declared.Ordered.{Ordered}
use Rattle.order.specs.Order.{order_of}
use Rattle.graph_build.specs.Result.{Result}
use Rattle.yanglib.specs.ToGraph.{graphed, Leaves as GraphLeft}
use Rattle.graph_tables.specs.Tables.{node_words, row_words}
use Rattle.library_index.specs.Names.{names_in}
use Rattle.graph_tables.specs.Lengths.{Lengths, lengths_of}
use Rattle.graph_build.specs.declared.GraphRefusal.{GraphRefusal}
use Rattle.library_form.specs.Form.{PlacedName, word_at, number_seen, name_seen}
use Rattle.library_lists.specs.Lists.{read_seen}
use Rattle.library_bundle.specs.Bundle.{looked}
use Rattle.graph.specs.declared.NodeIndex.{NodeIndex}
use Rattle.graph_marks.specs.Marks.{resolved_code, included_code}
use Rattle.graph_marks.specs.declared.Included.TheVariants.{NotFound, NotNode, Node as Below}
use Rattle.demands.specs.OneOutcome.{LosesNothing, OneOutcome}
use Rattle.text.specs.declared.Refusal.{Refusal}

-- ---- dependencies

-- the lengths lent decide whether something is too short
scans : (whole : Bool) (s : List ℕ) {b b' : Bool} (d t u d' t' u' : List ℕ) → b ≡ b' → length d ≡ length d' → length t ≡ length t' → length u ≡ length u'
    → dependencies whole s (is_too_short b (length s) (length d) (length t) (length u))
    ≡ dependencies whole s (is_too_short b' (length s) (length d') (length t') (length u'))
scans whole s {b} {b'} d t u d' t' u' bs ds ts us =
    ap (λ z. dependencies whole s (is_too_short z (length s) (length d) (length t) (length u))) bs
    ∙ ap (λ n. dependencies whole s (is_too_short b' (length s) n (length t) (length u))) ds
    ∙ ap (λ n. dependencies whole s (is_too_short b' (length s) (length d') n (length u))) ts
    ∙ ap (λ n. dependencies whole s (is_too_short b' (length s) (length d') (length t') n)) us

-- a buffer holds what a definition gives of the scan
module _ {X : Type 0} (of : X → List ℕ) {x x' : X} (xe : x ≡ x') where
  pub filled : {m n : ℕ} → m ≡ n → {e e' : List ℕ} → e ≡ padded m (of x) → e' ≡ padded n (of x') → e ≡ e'
  filled {m} {n} l h h' = h ∙ ap (λ k. padded k (of x)) l ∙ ap (λ y. padded n (of y)) xe ∙ sym h'

pub equals : {X Y : Type 0} (of : X → Y) {x x' : X} → x ≡ x' → {a a' : Y} → a ≡ of x → a' ≡ of x' → a ≡ a'
equals of xe h h' = h ∙ ap of xe ∙ sym h'

pub leaves_one : {x x' : Scan} → x ≡ x' → {d t u d' t' u' : List ℕ} → length d ≡ length d' → length t ≡ length t' → length u ≡ length u'
    → {r r' : Answer Rows Refusal} {e f g e' f' g' : List ℕ} → Leaves x d t u r e f g → Leaves x' d' t' u' r' e' f' g' → (r ≡ r') × (e ≡ e') × (f ≡ f') × (g ≡ g')
leaves_one xe ds ts us a b = (
  equals parsed_of xe a.answer b.answer,
  filled (λ x. (kept_of x).bytes) xe ds a.stored b.stored,
  filled (λ x. import_words_of (kept_of x)) xe ts a.imports b.imports,
  filled (λ x. include_words_of (kept_of x)) xe us a.includes b.includes,
)

page_scans : (whole : Bool) (s d t u p d' t' u' p' : List ℕ) → length d ≡ length d' → length t ≡ length t' → length u ≡ length u' → length p ≡ length p'
    → dependencies whole s (is_too_short (page_short (length s) (length p)) (length s) (length d) (length t) (length u))
    ≡ dependencies whole s (is_too_short (page_short (length s) (length p')) (length s) (length d') (length t') (length u'))
page_scans whole s d t u p d' t' u' p' ds ts us ps = scans whole s d t u d' t' u' (ap (page_short (length s)) ps) ds ts us

-- ---- metadata

records : (whole : Bool) (s d d' : List ℕ) → length d ≡ length d' → Metadata.metadata whole s (ltb (length d) (length s))
    ≡ Metadata.metadata whole s (ltb (length d') (length s))
records whole s d d' ds = ap (λ n. Metadata.metadata whole s (ltb n (length s))) ds

-- ---- views

seen_number : LosesNothing number_seen
seen_number (Ok (v, c)) (Ok (w, d)) e = let i : v ≡ w = cc in let j : c.at ≡ d.at = cc in λ k. Ok (i k, record { at = j k })
seen_number (Ok (v, c)) (Err q) e = let z : ◌≡◌ {A = ℕ} 0 1 = cc in absurd (omega arith)
seen_number (Err p) (Ok (w, d)) e = let z : ◌≡◌ {A = ℕ} 0 1 = cc in absurd (omega arith)
seen_number (Err p) (Err q) e = let k : p ≡ q = cc in ap Err k

seen_name : (s : List ℕ) → LosesNothing (name_seen s)
seen_name s (Ok (a, m)) (Ok (b, n)) e =
    let h : word_at s a m ≡ word_at s b n = cc in
    ap₂ (λ x y. Ok (x, y)) (ap (λ (w : PlacedName). w.place) h) (ap (λ (w : PlacedName). w.size) h)
seen_name s (Ok (a, m)) (Err q) e = let z : ◌≡◌ {A = ℕ} 0 1 = cc in absurd (omega arith)
seen_name s (Err p) (Ok (b, n)) e = let z : ◌≡◌ {A = ℕ} 0 1 = cc in absurd (omega arith)
seen_name s (Err p) (Err q) e = let k : p ≡ q = cc in ap Err k

seen_read : LosesNothing read_seen
seen_read (Ok n) (Ok m) e = let k : n ≡ m = cc in ap Ok k
seen_read (Ok n) (Err q) e = let z : ◌≡◌ {A = ℕ} 0 1 = cc in absurd (omega arith)
seen_read (Err p) (Ok m) e = let z : ◌≡◌ {A = ℕ} 0 1 = cc in absurd (omega arith)
seen_read (Err p) (Err q) e = let k : p ≡ q = cc in ap Err k

seen_place : LosesNothing looked
seen_place (Some (a, m)) (Some (b, n)) e = let q : ◌≡◌ {A = ℕ × ℕ} (a, m) (b, n) = cc in ap Some q
seen_place (Some (a, m)) None e = let z : ◌≡◌ {A = ℕ} 0 1 = cc in absurd (omega arith)
seen_place None (Some (b, n)) e = let z : ◌≡◌ {A = ℕ} 0 1 = cc in absurd (omega arith)
seen_place None None e = refl

seen_node : LosesNothing (λ (v : NodeIndex). v.0)
seen_node v w e = λ i. record { 0 = e i }

seen_known : LosesNothing resolved_code
seen_known None None e = refl
seen_known None (Some w) e = absurd (omega (arith, e))
seen_known (Some v) None e = absurd (omega (arith, e))
seen_known (Some v) (Some w) e = ap Some (seen_node v w (omega (arith, e)))

seen_included : LosesNothing included_code
seen_included NotFound NotFound e = refl
seen_included NotFound NotNode e = absurd (omega (arith, e))
seen_included NotFound (Below w) e = absurd (omega (arith, e))
seen_included NotNode NotFound e = absurd (omega (arith, e))
seen_included NotNode NotNode e = refl
seen_included NotNode (Below w) e = absurd (omega (arith, e))
seen_included (Below v) NotFound e = absurd (omega (arith, e))
seen_included (Below v) NotNode e = absurd (omega (arith, e))
seen_included (Below v) (Below w) e = ap Below (seen_node v w (omega (arith, e)))

-- ---- finds

told_one : {w : List ℕ} {n n' : ℕ} {a a' : List ℕ} → Told w n a → Told w n' a' → (n ≡ n') × (a ≡ a')
told_one x y = (x.number ∙ sym y.number, x.answered ∙ sym y.answered)

-- ---- graphs

-- scratch that is zero, as long as it was
cleared : {m n : ℕ} → m ≡ n → {y y' : List ℕ} → y ≡ zeros m → y' ≡ zeros n → y ≡ y'
cleared e h h' = h ∙ ap zeros e ∙ sym h'

module _ {x x' : Result} (xe : x ≡ x') {n e d f g l n' e' d' f' g' l' : List ℕ} (ks : lengths_of n e d f g l ≡ lengths_of n' e' d' f' g' l') where
  graph_one : {r r' : Answer (ℕ × ℕ) GraphRefusal} {n₁ e₁ d₁ f₁ g₁ l₁ n₁' e₁' d₁' f₁' g₁' l₁' : List ℕ}
      → GraphLeft x n e d f g l r n₁ e₁ d₁ f₁ g₁ l₁ → GraphLeft x' n' e' d' f' g' l' r' n₁' e₁' d₁' f₁' g₁' l₁'
      → (r ≡ r') × (n₁ ≡ n₁') × (e₁ ≡ e₁') × (d₁ ≡ d₁') × (f₁ ≡ f₁') × (g₁ ≡ g₁') × (l₁ ≡ l₁')
  graph_one a b = (
    equals (λ x. x.answer) xe a.answer b.answer,
    filled (λ x. node_words x.nodes) xe (ap (λ (k : Lengths). k.nodes) ks) a.nodes b.nodes,
    filled (λ x. row_words x.rows) xe (ap (λ (k : Lengths). k.edges) ks) a.edges b.edges,
    cleared (ap (λ (k : Lengths). k.store) ks) a.store b.store,
    cleared (ap (λ (k : Lengths). k.imports) ks) a.imports b.imports,
    cleared (ap (λ (k : Lengths). k.includes) ks) a.includes b.includes,
    cleared (ap (λ (k : Lengths). k.levels) ks) a.levels b.levels,
  )

  drawn_one : {r r' : ℕ} {n₁ e₁ d₁ f₁ g₁ l₁ a n₁' e₁' d₁' f₁' g₁' l₁' a' : List ℕ}
      → Drawn x n e d f g l r n₁ e₁ d₁ f₁ g₁ l₁ a → Drawn x' n' e' d' f' g' l' r' n₁' e₁' d₁' f₁' g₁' l₁' a'
      → (r ≡ r') × (n₁ ≡ n₁') × (e₁ ≡ e₁') × (d₁ ≡ d₁') × (f₁ ≡ f₁') × (g₁ ≡ g₁') × (l₁ ≡ l₁') × (a ≡ a')
  drawn_one a b =
      let k = graph_one a.graph b.graph in (
        equals (λ x. get_or (graph_words x.answer) 0 0) xe a.told.number b.told.number,
        k.1,
        k.2,
        k.3,
        k.4,
        k.5,
        k.6,
        equals (λ x. graph_words x.answer) xe a.told.answered b.told.answered,
      )

-- ---- orders

ordered_as : (r r' : Ordered) → r.number ≡ r'.number → r.length ≡ r'.length → r ≡ r'
ordered_as r r' p q = λ i. record { number = p i; length = q i }

pub one_outcome : OneOutcome
one_outcome = record {
  equal = λ a b. a ∙ sym b;
  viewed = λ view f a b. f _ _ (a ∙ sym b);
  views = record {
    number = seen_number;
    name = seen_name;
    read = seen_read;
    place = seen_place;
    known = seen_known;
    included = seen_included;
    node = seen_node;
    cursor = λ c d e i. record { at = e i };
  };
  dependencies = λ whole s short d t u d' t' u' ds ts us a b. leaves_one (scans whole s d t u d' t' u' refl ds ts us) ds ts us a b;
  over = λ whole s short d t u a b. (
    a.answer ∙ sym b.answer,
    a.holds.stored ∙ sym b.holds.stored,
    a.holds.imports ∙ sym b.holds.imports,
    a.holds.includes ∙ sym b.holds.includes,
  );
  wrote = λ d at bs a b. (a.left ∙ sym b.left, a.next ∙ sym b.next);
  printed = λ whole s d t u p d' t' u' p' ds ts us ps a b.
      let xe = page_scans whole s d t u p d' t' u' p' ds ts us ps in
      let k = leaves_one xe ds ts us a.scan b.scan in
      (k.0, equals (λ x. length (page_of x)) xe a.length_is b.length_is, k.1, k.2, k.3, filled page_of xe ps a.page b.page);
  metadata = λ whole s d d' ds a b.
      let xe = records whole s d d' ds in
      (equals Metadata.answer_of xe a.answer b.answer, filled Metadata.kept_of xe ds a.stored b.stored);
  host_dependencies = λ whole s d t u d' t' u' ds ts us a b.
      let xe = scans whole s d t u d' t' u' refl ds ts us in
      let k = leaves_one xe ds ts us a.scan b.scan in
      (equals (λ x. number_of (parsed_of x)) xe a.number b.number, k.1, k.2, k.3, equals (λ x. answer_words (parsed_of x)) xe a.answer b.answer);
  host_printed = λ whole s d t u p d' t' u' p' ds ts us ps a b.
      let xe = page_scans whole s d t u p d' t' u' p' ds ts us ps in
      let k = leaves_one xe ds ts us a.scan b.scan in (
        equals (λ x. number_of (parsed_of x)) xe a.number b.number,
        k.1,
        k.2,
        k.3,
        filled page_of xe ps a.page b.page,
        equals (λ x. answer_words (parsed_of x) ++ (length (page_of x) ∷ [])) xe a.answer b.answer,
      );
  host_metadata = λ whole s d d' ds a b.
      let xe = records whole s d d' ds in (
        equals (λ x. (Metadata.answer_of x).answer.number) xe a.number b.number,
        filled Metadata.kept_of xe ds a.stored b.stored,
        equals (λ x. record_words (Metadata.answer_of x).values) xe a.words b.words,
        equals (λ x. (Metadata.answer_of x).answer.number ∷ (Metadata.answer_of x).answer.keyword ∷ (Metadata.answer_of x).answer.at ∷ (Metadata.answer_of x).used
            ∷ []) xe a.answer b.answer,
      );
  host_module = λ s t a b. told_one a b;
  host_submodule = λ s t a b. told_one a b;
  host_import = λ s t a b. told_one a b;
  host_text = λ s t a b. told_one a b;
  put = λ x n t t' l a b. a.words [] ∙ ap (λ k. padded k (node_words (names_in [] x n))) l ∙ sym (b.words []);
  graph = λ mode s b n e d f g l n' e' d' f' g' l' ks h k. graph_one (ap (graphed mode s b) ks) ks h k;
  host_graph = λ mode s b n e d f g l n' e' d' f' g' l' ks h k. drawn_one (ap (graphed mode s b) ks) ks h k;
  order = λ x i w j t t' ts {r} {r'} h k.
      let xe = ap (order_of (length x) i w j) ts in (
        ordered_as r r' (equals (λ o. o.number) xe h.number k.number) (equals (λ o. length o.nodes) xe h.count k.count),
        filled (λ o. o.nodes) xe ts h.written k.written,
      );
  host_order = λ x i w j t t' ts h k.
      let xe = ap (order_of (length x) i w j) ts in (
        equals (λ o. o.number) xe h.told.number k.told.number,
        filled (λ o. o.nodes) xe ts h.written k.written,
        equals order_words xe h.told.answered k.told.answered,
      );
  host_check = λ x i w j l a b. told_one a b;
}
