-- One law for each way out of `is_entry`, `is_sub`, `add_name`, `add_item` and `construct_nodes`: the index answers whether a name is a node, the loop
-- holds what the items so far add, and one node too many on the way is one too many in the end.
-- Assumes nothing.
use Rattle.std.specs.Prelude.{Some, None, Option}
use Prim.Native.Nat.{ℕ, ◌+◌, ◌-◌, ◌≤◌, ◌<◌}
use mathlib.Core.Path.{◌≡◌, refl, sym, ap, ◌∙◌, subst}
use mathlib.Core.Bool.{Bool, true, false, cond, ◌&&◌}
use mathlib.Core.List.{List, [], ◌∷◌, ◌++◌}
use native.Mathlib.Omega.{arith}
use native.Mathlib.Numerals.{add-one}
use lib.ListN.{length, length-append}
use Rattle.library_form.specs.Form.{PlacedName, word_at}
use Rattle.library_image.specs.Library.{plain_name}
use Rattle.library_index.specs.Names.{among, names_in, Cleared, Added}
use Rattle.library_index.proofs.First.{not_among, is_among}
use Rattle.library_index.proofs.Chain.{length_names}
use Rattle.library_index.proofs.Insert.{none_yet}
use Rattle.library_items.specs.Items.{ItemOf, library_of, kind_of, number_of as kind_number}
use Rattle.library_items.specs.Table.{item_in, item_word, items_in, items_from, Itemized}
use Rattle.library_items.specs.declared.Item.{Item}
use Rattle.library_items.specs.declared.Kind.{Kind}
use Rattle.library_items.proofs.OfNumber.{kind_back}
use Rattle.library_items.proofs.Through.{items_from_lem}
use Rattle.graph.specs.Limits.{most_nodes}
use Rattle.graph.specs.Nodes.{mode_of}
use Rattle.graph_nodes.specs.Adding.{is_entry, is_sub, Adding, so, add_name, add_item, add_items, words_at, Holding, Adds, AddsItem, GrownAs, Grew, Constructed}
use Rattle.graph_nodes.proofs.Gathering.{items_append, items_grow, added}
use Rattle.graph_nodes.proofs.Looking.{Bytes, revised_at}

-- ---- a name

module _ (s tab after : List ℕ) (n place size : ℕ) (there : Bool) where
  abbrev nodes : List PlacedName
  nodes = names_in s tab n

  abbrev name : PlacedName
  name = word_at s place size

  abbrev grown : Adding
  grown = add_name (so nodes false) there name

  is_there : {b : Bool} → among plain_name name.text nodes ≡ b → grown ≡ cond b (so nodes there) (so (nodes ++ (name ∷ [])) true)
  unfolding add_name
  is_there e = ap (λ (b : Bool). cond b (so nodes there) (so (nodes ++ (name ∷ [])) true)) e

  pub name_there : {r : Option ℕ} {i : ℕ} → r ≡ Some i → Added s tab n place size r after → Adds s tab n place size → Grew s tab grown (Some (n, there)) after
  name_there {r} {i} q a h =
      let e : grown ≡ so nodes there = is_there (is_among 0 name.text nodes (sym a.answer ∙ q)) in
      record {
        answer = subst (λ (x : Adding). GrownAs (Some (n, there)) s after x) (sym e)
            (subst (λ (t : List ℕ). Holding s t n nodes) (sym (a.there i q)) h.holding, refl);
        kept = a.kept;
      }

  is_new : {r : Option ℕ} → r ≡ None → Added s tab n place size r after → grown ≡ so (nodes ++ (name ∷ [])) true
  is_new q a = is_there (not_among 0 name.text nodes (sym a.answer ∙ q))

  pub name_full : {r : Option ℕ} → r ≡ None → Added s tab n place size r after → 1024 ≤ n → Grew s tab grown None after
  name_full q a l =
      let o : most_nodes < length (nodes ++ (name ∷ [])) = omega (arith, length-append nodes (name ∷ []), length_names s tab n) in
      record { answer = subst (λ (x : Adding). GrownAs None s after x) (sym (is_new q a)) o; kept = a.kept }

  pub name_new : {r : Option ℕ} → r ≡ None → Added s tab n place size r after → Adds s tab n place size → n < 1024
      → Grew s tab grown (Some ((n + 1), true)) after
  name_new q a h l =
      let k : Holding s after (n + 1) (nodes ++ (name ∷ [])) =
      record { indexed = a.indexed q; names = a.names q; few = omega arith; space = omega (arith, a.kept, h.holding.space) } in
      record { answer = subst (λ (x : Adding). GrownAs (Some ((n + 1), true)) s after x) (sym (is_new q a)) (k, refl); kept = a.kept }

-- ---- an item

-- an entry, by the number of its kind
pub entry_told : {b : Bool} {m : ℕ} (k : Kind) → b ≡ is_entry (kind_of m) → m ≡ kind_number k → b ≡ is_entry k
entry_told k e z = e ∙ ap (λ j. is_entry (kind_of j)) z ∙ ap is_entry (kind_back k)

pub item_asks : (s table tab : List ℕ) (i n : ℕ) {x : Item} → x ≡ item_in table i → AddsItem s table i tab n → Adds s tab n x.place x.size
item_asks s table tab i n {x} e h = subst (λ (y : Item). Adds s tab n y.place y.size) (sym e)
    (record { holding = h.holding; inside = h.fits.inside; short = h.short })

module _ (complete : Bool) (s table tab : List ℕ) (i n : ℕ) (adding : Bool) {x : Item} (e : x ≡ item_in table i) where
  abbrev before : List PlacedName
  before = names_in s tab n

  abbrev more : Adding
  more = add_item complete (so before adding) (item_word s (item_in table i))

  chosen : {b c d : Bool} → b ≡ is_entry x.kind → b ≡ c → (adding && is_sub complete x.kind) ≡ d
      → cond c (add_name (so before false) complete (word_at s x.place x.size))
      (cond d (add_name (so before false) true (word_at s x.place x.size)) (so before adding)) ≡ more
  unfolding add_item add_name
  chosen p q k = rw (← q, p, ← k, e)

  pub item_entry : {b : Bool} {r : Option (ℕ × Bool)} {after : List ℕ} → b ≡ is_entry x.kind → b ≡ true
      → Grew s tab (add_name (so before false) complete (word_at s x.place x.size)) r after → Grew s tab more r after
  item_entry {b} {r} {after} p q g = subst (λ (y : Adding). Grew s tab y r after) (chosen p q refl) g

  pub item_sub : {b c : Bool} {r : Option (ℕ × Bool)} {after : List ℕ} → b ≡ is_entry x.kind → b ≡ false → adding ≡ true → c ≡ is_sub complete x.kind → c ≡ true
      → Grew s tab (add_name (so before false) true (word_at s x.place x.size)) r after → Grew s tab more r after
  item_sub {b} {c} {r} {after} p q a k l g =
      let o : (adding && is_sub complete x.kind) ≡ true = rw (a, ← k, l) in
      subst (λ (y : Adding). Grew s tab y r after) (chosen p q o) g

  item_kept : {b : Bool} → b ≡ is_entry x.kind → b ≡ false → (adding && is_sub complete x.kind) ≡ false → AddsItem s table i tab n
      → Grew s tab more (Some (n, adding)) tab
  item_kept p q k h = record { answer = subst (λ (y : Adding). GrownAs (Some (n, adding)) s tab y) (chosen p q k) (h.holding, refl); kept = refl }

  pub item_other : {b c : Bool} → b ≡ is_entry x.kind → b ≡ false → adding ≡ true → c ≡ is_sub complete x.kind → c ≡ false → AddsItem s table i tab n
      → Grew s tab more (Some (n, adding)) tab
  item_other p q a k l h = item_kept p q (rw (a, ← k, l)) h

  pub item_passed : {b : Bool} → b ≡ is_entry x.kind → b ≡ false → adding ≡ false → AddsItem s table i tab n → Grew s tab more (Some (n, adding)) tab
  item_passed p q a h = item_kept p q (rw a) h

-- ---- all items

abbrev so_far : Bool → List ℕ → List ℕ → ℕ → Adding
so_far c s table i = add_items c (so [] false) (items_in s table i)

pub record Building (c : Bool) (s table before : List ℕ) (count : ℕ) (tab : List ℕ) (n : ℕ) (b : Bool) (i : ℕ) : Type 0 where
  pub holding : Holding s tab n (add_items c (so [] false) (items_in s table i)).nodes
  pub adding : b ≡ (add_items c (so [] false) (items_in s table i)).adding
  pub kept : length tab ≡ length before
  pub room : i ≤ count

-- what the items say when all are there
all_nodes : (c : Bool) {s table : List ℕ} {count : ℕ} → Itemized s count table → Bytes s → (so_far c s table count).nodes ≡ words_at (mode_of c) s
unfolding words_at
all_nodes c {s} m b = ap (λ (xs : List (ItemOf PlacedName)). (add_items c (so [] false) xs).nodes) m.items ∙ added c (library_of s) (revised_at s b)

module _ (c : Bool) (s table before : List ℕ) (count : ℕ) where
  pub build_begun : {entry : List ℕ} → Cleared entry before → 5123 ≤ length entry → Building c s table before count before 0 false 0
  unfolding items_in add_items names_in
  build_begun {entry} k l = record {
    holding = record { indexed = none_yet s entry before k; names = refl; few = omega arith; space = omega (arith, k.kept) };
    adding = refl;
    kept = refl;
    room = omega arith;
  }

  module _ {tab : List ℕ} {n : ℕ} {b : Bool} {i : ℕ} (g : Building c s table before count tab n b i) where
    pub build_asks : Itemized s count table → i < count → length s ≤ 65536 → AddsItem s table i tab n
    build_asks m l k = record {
      holding = record { indexed = g.holding.indexed; names = refl; few = g.holding.few; space = g.holding.space };
      there = omega (arith, m.long);
      fits = m.fits i l;
      short = k;
    }

    next_items : items_in s table (i + 1) ≡ items_in s table i ++ (item_word s (item_in table i) ∷ [])
    unfolding items_in
    next_items = ap (items_in s table) (add-one i)

    next_so_far : add_item c (so (names_in s tab n) b) (item_word s (item_in table i)) ≡ so_far c s table (i + 1)
    unfolding add_items
    next_so_far =
        let p : so (names_in s tab n) b ≡ so_far c s table i = λ j. record { nodes = g.holding.names j; adding = g.adding j } in
        ap (λ (a : Adding). add_item c a (item_word s (item_in table i))) p
        ∙ sym (items_append c (items_in s table i) (item_word s (item_in table i) ∷ []) (so [] false))
        ∙ ap (add_items c (so [] false)) (sym next_items)

    module _ {r : Option (ℕ × Bool)} {after : List ℕ} where
      pub build_on : {m : ℕ} {d : Bool} → r ≡ Some (m, d) → Grew s tab (add_item c (so (names_in s tab n) b) (item_word s (item_in table i))) r after
          → i < count
          → Building c s table before count after m d (i + 1)
      build_on {m} {d} q w l =
          let k : GrownAs (Some (m, d)) s after (so_far c s table (i + 1)) =
          subst (λ (x : Adding). GrownAs (Some (m, d)) s after x) next_so_far
          (subst (λ (u : Option (ℕ × Bool)). GrownAs u s after (add_item c (so (names_in s tab n) b) (item_word s (item_in table i)))) q w.answer) in
          record { holding = k.0; adding = k.1; kept = w.kept ∙ g.kept; room = omega arith }

      pub build_full : r ≡ None → Grew s tab (add_item c (so (names_in s tab n) b) (item_word s (item_in table i))) r after → {entry : List ℕ}
          → Cleared entry before → Itemized s count table → Bytes s → i < count → Constructed (mode_of c) s entry None after
      build_full q w k₀ m bytes l =
          let k : most_nodes < length (so_far c s table (i + 1)).nodes =
          subst (λ (x : Adding). GrownAs None s after x) next_so_far (subst
          (λ (u : Option (ℕ × Bool)). GrownAs u s after (add_item c (so (names_in s tab n) b) (item_word s (item_in table i)))) q w.answer) in
          let e : i + 1 + (count - (i + 1)) ≡ count = omega arith in
          let o : so_far c s table count ≡ add_items c (so_far c s table (i + 1)) (items_from s table (i + 1) (count - (i + 1))) =
          ap (so_far c s table) (sym e)
          ∙ ap (add_items c (so [] false)) (items_from_lem s table (count - (i + 1)) (i + 1))
          ∙ items_append c (items_in s table (i + 1)) (items_from s table (i + 1) (count - (i + 1))) (so [] false) in
          let p : length (add_items c (so_far c s table (i + 1)) (items_from s table (i + 1) (count - (i + 1)))).nodes ≡ length (words_at (mode_of c) s) =
          ap (λ (a : Adding). length a.nodes) (sym o) ∙ ap (λ (ns : List PlacedName). length ns) (all_nodes c m bytes) in
          let u : most_nodes < length (words_at (mode_of c) s) = omega (
            arith,
            k,
            p,
            items_grow c (items_from s table (i + 1) (count - (i + 1)))
                (so_far c s table (i + 1)),
          ) in
          record { answer = u; kept = w.kept ∙ g.kept ∙ k₀.kept }

    pub build_done : {entry : List ℕ} → Cleared entry before → Itemized s count table → Bytes s → count ≤ i → Constructed (mode_of c) s entry (Some n) tab
    build_done k₀ m bytes l =
        let e : i ≡ count = omega (arith, g.room) in
        let p : (so_far c s table i).nodes ≡ words_at (mode_of c) s = ap (λ (j : ℕ). (so_far c s table j).nodes) e ∙ all_nodes c m bytes in
        record { answer = subst (λ (ns : List PlacedName). Holding s tab n ns) p g.holding; kept = g.kept ∙ k₀.kept }
