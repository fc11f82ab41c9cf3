-- What the index says of a name: the number that it answers is the node's number, and a name that it does not find is no node.
-- Assumes nothing.
use Rattle.std.specs.Prelude.{Some, None, Option}
use Rattle.std.specs.Option.{unwrap_or}
use Prim.Native.Nat.{ℕ, zero, suc, ◌+◌, ◌-◌, ◌^◌, ◌≤◌, ◌<◌}
use mathlib.Core.Path.{◌≡◌, refl, sym, ap, ap₂, ◌∙◌}
use mathlib.Core.Logic.{⊎_elim}
use mathlib.Core.Bool.{Bool, true, false, cond}
use mathlib.Core.List.Memᴰ
use mathlib.Core.List.{List, [], ◌∷◌, map, map-append}
use native.Mathlib.Omega.{arith}
use native.Mathlib.Nat.{eq-or-lt_of_le}
use lib.ListN.{length, get_or, take, drop, length-map, get_or-append}
use lib.Seq.{get_or_at}
use mir.Syntax.{w8, w64}
use mir.Val.{Fits}
use Rattle.text.specs.Keyword.{same}
use Rattle.text.proofs.KeywordLaws.{same_eq}
use Rattle.library_form.specs.Form.{Ans, good, bad, PlacedName, word_at}
use Rattle.library_form.proofs.Bounds.{part_word}
use Rattle.library_index.specs.Names.{first_from, first_of, first_by, among, row_of, name_in_row, names_in}
use Rattle.library_index.proofs.First.{not_among, is_among, the_hit, hit_low}
use Rattle.library_index.proofs.Chain.{length_names}
use Rattle.library_image.specs.Library.{Name, Library, plain_name, plain, import_only_of}
use Rattle.library_image.specs.Image.{image_at}
use Rattle.library_lists.specs.Lists.{on_ans}
use Rattle.library_items.specs.Items.{library_of}
use Rattle.graph.specs.Nodes.{Mode, nodes_of, memb}
use Rattle.graph.specs.Limits.{most_nodes}
use Rattle.graph.specs.Graph.{entry_names}
use Rattle.graph.specs.Numbers.{number_of}
use Rattle.graph.specs.Meaning.{Revised}
use Rattle.graph.proofs.Tests.{both_bools}
use Rattle.graph.proofs.WordNodes.{among_names, node_names}
use Rattle.graph.proofs.Entries.{known_among}
use Rattle.graph.proofs.Revised.{image_revised}
use Rattle.graph_nodes.specs.Adding.{plain_at, words_at, names_held, Holding, Stands, Numbered}

-- ---- the answer of a search through words

number_first : (ws : List PlacedName) (t : Name) (j : ℕ) {i : ℕ} → first_from j t ws ≡ Some i → i ≡ j + number_of (map plain_name ws) t
unfolding first_from number_of
number_first [] t j e = let z : ◌≡◌ {A = ℕ} 0 1 = cc in absurd (omega arith)
number_first (w ∷ ws) t j {i} e = go (same w.text t) (number_first ws t (suc j)) e
  where
    go : (b : Bool) → (first_from (suc j) t ws ≡ Some i → i ≡ suc j + number_of (map plain_name ws) t) → cond b (Some j) (first_from (suc j) t ws) ≡ Some i
        → i ≡ j + cond b 0 (suc (number_of (map plain_name ws) t))
    go true ih e = let x : j ≡ i = cc in omega arith
    go false ih e = let x = ih e in omega arith

abbrev pub word : PlacedName → PlacedName
word w = w

text_of : (t : Name) (ws : List PlacedName) → first_by word plain_name t ws t ≡ t
text_of t [] = refl
text_of t (w ∷ ws) = go (same w.text t) refl (text_of t ws)
  where
    go : (b : Bool) → same w.text t ≡ b → first_by word plain_name t ws t ≡ t → cond b w.text (first_by word plain_name t ws t) ≡ t
    go true q ih = same_eq w.text t q
    go false q ih = ih

-- the name of the number that is answered has the bytes that are sought
pub hit_text : (s tab t : List ℕ) (n : ℕ) {k : ℕ} → first_of t (names_in s tab n) ≡ Some k → (name_in_row s tab k).text ≡ t
hit_text s tab t n e = sym (the_hit plain_name t s tab t n e) ∙ text_of t (names_in s tab n)

-- ---- nodes in an index

module _ (s tab : List ℕ) (n : ℕ) (t : Name) where
  held_among : memb t (names_held s tab n) ≡ among plain_name t (names_in s tab n)
  unfolding names_held
  held_among = sym (among_names t (names_in s tab n))

  pub node_number : {k : ℕ} → first_of t (names_in s tab n) ≡ Some k → number_of (names_held s tab n) t ≡ k
  unfolding names_held
  node_number e = omega (arith, number_first (names_in s tab n) t 0 e)

  pub node_hit : {k : ℕ} → first_of t (names_in s tab n) ≡ Some k → memb t (names_held s tab n) ≡ true
  node_hit e = held_among ∙ is_among 0 t (names_in s tab n) e

  pub node_missed : first_of t (names_in s tab n) ≡ None → memb t (names_held s tab n) ≡ false
  node_missed e = held_among ∙ not_among 0 t (names_in s tab n) e

-- ---- each import-only module of what is read has a revision

-- what a slice of bytes is known to hold
abbrev pub Bytes : List ℕ → Type 0
Bytes s = (k : ℕ) → Fits w8 (get_or s k 0)

pub revised_at : (s : List ℕ) → Bytes s → Revised (plain_at s)
unfolding library_of import_only_of
revised_at s b = go (image_at s) refl
  where
    go : (r : Ans Library) → image_at s ≡ r → Revised (plain (on_ans r (λ l n. l) (λ p. [])))
    go (good l n) e = image_revised s e (λ k. omega (arith, b k))
    go (bad p) e = λ i m. absurd (Memᴰ.not-nil m)

-- ---- an index that holds the nodes of an image, in whatever mode

module _ (mode : Mode) {s tab : List ℕ} {n : ℕ} (h : Holding s tab n (words_at mode s)) where
  pub as_held : Holding s tab n (names_in s tab n)
  as_held = record { indexed = h.indexed; names = refl; few = h.few; space = h.space }

  pub held_names : names_held s tab n ≡ nodes_of mode (plain_at s)
  unfolding names_held words_at
  held_names = ap (map plain_name) h.names ∙ node_names mode (library_of s)

  pub held_entries : Bytes s → (u : Name) → memb u (entry_names (plain_at s)) ≡ true → memb u (names_held s tab n) ≡ true
  held_entries b u k = ap (memb u) held_names ∙ known_among mode (plain_at s) (revised_at s b) u k

-- ---- the ways out of `node_at`

module _ (s tab : List ℕ) (n place size : ℕ) (h : Stands s tab n place size) {r : Option ℕ}
    (e : r ≡ first_of (take (place + size - place) (drop place s)) (names_in s tab n)) where
  sought : first_of (word_at s place size).text (names_in s tab n) ≡ r
  sought = ap (λ (t : Name). first_of t (names_in s tab n)) (sym (part_word s place size)) ∙ sym e

  must_hit : r ≡ None → ⊥
  must_hit q = both_bools h.node (node_missed s tab n (word_at s place size).text (sought ∙ q))

  -- the row of the name
  hit : {k : ℕ} → k ≡ unwrap_or r 0 → first_of (word_at s place size).text (names_in s tab n) ≡ Some k
  hit {k} z = go r refl z
    where
      go : (o : Option ℕ) → r ≡ o → k ≡ unwrap_or o 0 → first_of (word_at s place size).text (names_in s tab n) ≡ Some k
      go None q z = absurd (must_hit q)
      go (Some i) q z = sought ∙ q ∙ ap Some (sym z)

  pub row_low : {k : ℕ} → k ≡ unwrap_or r 0 → k < most_nodes
  row_low z = omega (arith, hit_low s tab (word_at s place size).text n (hit z), h.holding.few)

  pub node_low : {k u : ℕ} → k ≡ unwrap_or r 0 → u ≡ k → u < n
  node_low z w = omega (arith, hit_low s tab (word_at s place size).text n (hit z))

  pub node_is : {k u : ℕ} → k ≡ unwrap_or r 0 → u ≡ k → u ≡ number_of (names_held s tab n) (word_at s place size).text
  node_is z w = w ∙ sym (node_number s tab n (word_at s place size).text (hit z))

-- ---- the ways out of `name_of`

name_nth : (s tab : List ℕ) (n i : ℕ) → i < n → get_or (map plain_name (names_in s tab n)) i [] ≡ (name_in_row s tab i).text
unfolding names_in
name_nth s tab zero i l = absurd (omega arith)
name_nth s tab (suc n) i l =
    ap (λ (ns : List Name). get_or ns i []) (map-append plain_name (names_in s tab n) (name_in_row s tab n ∷ []))
    ∙ ⊎_elim
    (λ e. rw e (get_or_at (map plain_name (names_in s tab n)) (name_in_row s tab n).text [] [] n (names_long n)))
    (λ k. get_or-append (map plain_name (names_in s tab n)) ((name_in_row s tab n).text ∷ []) [] i (rw (names_long n) k) ∙ name_nth s tab n i k)
    (eq-or-lt_of_le {n = i} {m = n} (omega arith))
  where
    names_long : (m : ℕ) → length (map plain_name (names_in s tab m)) ≡ m
    names_long m = length-map (names_in s tab m) plain_name ∙ length_names s tab m

-- i: the node's row
module _ (s tab : List ℕ) (n v i place size : ℕ) (h : Numbered s tab n v) (e : i ≡ v) (p : place ≡ get_or tab (row_of i) 0)
    (q : size ≡ get_or tab (row_of i + 1) 0) where
  place_is : place ≡ get_or tab (row_of v) 0
  place_is = rw e at p

  size_is : size ≡ get_or tab (row_of v + 1) 0
  size_is = rw e at q

  pub name_in : place + size ≤ length s
  name_in = omega (arith, place_is, size_is, h.holding.indexed.inside v h.low)

  pub name_fits : length s < 2 ^ 64 → Fits w64 (place + size)
  name_fits l = record { fits = omega (arith, name_in) }

  pub name_text : take (place + size - place) (drop place s) ≡ get_or (names_held s tab n) v []
  unfolding names_held
  name_text =
      part_word s place size
      ∙ ap₂ (λ (a b : ℕ). (word_at s a b).text) place_is size_is
      ∙ sym (name_nth s tab n v h.low)
