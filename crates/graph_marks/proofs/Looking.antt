-- What the marks say of a name: whether it is known, and whether it is listed; a name that is no node is unknown. A listed one that is no node is found in
-- the image.
-- Assumes nothing.
use Rattle.std.specs.Prelude.{Some, None, Err, Ok, Option, Result}
use Prim.Native.Nat.{ℕ, suc, ◌+◌, ◌*◌, ◌<◌}
use mathlib.Core.Path.{◌≡◌, refl, sym, ap, ◌∙◌}
use mathlib.Core.Bool.{Bool, true, false, cond, ◌||◌}
use mathlib.Core.List.{List, [], ◌∷◌}
use native.Mathlib.Omega.{arith}
use lib.ListN.{length, get_or}
use mir.Syntax.{w64}
use mir.Val.{Fits}
use Rattle.text.specs.Keyword.{same}
use Rattle.library_form.specs.Form.{Ans, PlacedName}
use Rattle.library_index.specs.Names.{first_of, first_by, among, names_in}
use Rattle.library_index.proofs.First.{hit_low}
use Rattle.library_image.specs.Library.{Name, Library, plain_name, modules_of, submodules_of}
use Rattle.library_image.specs.Image.{image_at}
use Rattle.library_lists.specs.Lists.{on_ans}
use Rattle.library_find.specs.Find.{word_found, find_submodule}
use Rattle.library_items.specs.Items.{library_of, items_at}
use Rattle.library_items.specs.Table.{Reads}
use Rattle.graph.specs.Nodes.{memb}
use Rattle.graph.specs.Limits.{most_nodes}
use Rattle.graph.specs.Graph.{entry_names, submodule_names}
use Rattle.graph.specs.Numbers.{number_of}
use Rattle.graph.proofs.Tests.{both_bools}
use Rattle.graph.proofs.Plain.{listed_words}
use Rattle.graph_nodes.specs.Adding.{is_entry, plain_at, names_held}
use Rattle.graph_marks.specs.Marks.{is_submodule, among_kind, bit, Desk, known_at, listed_at, included_at, included_code, IncludedNode}
use Rattle.graph_marks.specs.declared.Included.{Included}
use Rattle.graph_marks.specs.declared.Included.TheVariants.{NotFound, NotNode, Node as Below}
use Rattle.graph_marks.proofs.OfKind.{known_items, listed_items}
use Rattle.graph_nodes.proofs.Looking.{word, hit_text, node_number, node_hit, node_missed}

-- ---- what the marks say

bit_no : (b : Bool) → bit b ≡ 0 → b ≡ false
bit_no true e = let z : ◌≡◌ {A = ℕ} 1 0 = e in absurd (omega arith)
bit_no false e = refl

bit_yes : (b : Bool) → (bit b ≡ 0 → ⊥) → b ≡ true
bit_yes true f = refl
bit_yes false f = absurd (f refl)

module _ {s tab marks : List ℕ} {n : ℕ} (d : Desk s tab n marks) (t : Name) where
  abbrev known : Bool
  known = memb t (entry_names (plain_at s))

  abbrev listed : Bool
  listed = memb t (submodule_names (plain_at s))

  known_mark : {k : ℕ} → first_of t (names_in s tab n) ≡ Some k → get_or marks (k * 2) 0 ≡ bit (memb t (entry_names (plain_at s)))
  known_mark {k} e =
      d.marked.known k (hit_low s tab t n e)
      ∙ ap (λ (u : Name). bit (among_kind is_entry u (items_at s))) (hit_text s tab t n e)
      ∙ ap (λ (b : Bool). bit b) (sym (known_items t (library_of s)))

  listed_mark : {k : ℕ} → first_of t (names_in s tab n) ≡ Some k → get_or marks (k * 2 + 1) 0 ≡ bit (memb t (submodule_names (plain_at s)))
  listed_mark {k} e =
      d.marked.listed k (hit_low s tab t n e)
      ∙ ap (λ (u : Name). bit (among_kind is_submodule u (items_at s))) (hit_text s tab t n e)
      ∙ ap (λ (b : Bool). bit b) (sym (listed_items t (library_of s)))

  abbrev names : List Name
  names = names_held s tab n

  -- a name that is found: its number, and where its marks stand
  module _ {r : Option ℕ} {k u at : ℕ} (q : r ≡ Some k) (e : r ≡ first_of t (names_in s tab n)) (w : u ≡ k) (a : at ≡ u * 2) where
    hit : first_of t (names_in s tab n) ≡ Some k
    hit = sym e ∙ q

    at_is : at ≡ k * 2
    at_is = a ∙ ap (λ (i : ℕ). i * 2) w

    known_here : get_or marks at 0 ≡ bit known
    known_here = ap (λ (i : ℕ). get_or marks i 0) at_is ∙ known_mark hit

    listed_here : get_or marks (at + 1) 0 ≡ bit listed
    listed_here = ap (λ (i : ℕ). get_or marks (i + 1) 0) at_is ∙ listed_mark hit

    numbered : number_of names t ≡ u
    numbered = node_number s tab n t hit ∙ sym w

    -- ---- the ways out of `find_known`

    pub known_not : get_or marks at 0 ≡ 0 → 0 ≡ known_at s names t
    unfolding known_at
    known_not z = let f : known ≡ false = bit_no known (sym known_here ∙ z) in rw f

    pub known_yes : (get_or marks at 0 ≡ 0 → ⊥) → suc u ≡ known_at s names t
    unfolding known_at
    known_yes z = let f : known ≡ true = bit_yes known (λ y. z (known_here ∙ y)) in rw (f, numbered)

    -- ---- the ways out of `find_included`

    pub included_not : get_or marks (at + 1) 0 ≡ 0 → 0 ≡ included_at s names t
    unfolding included_at
    included_not z = let f : listed ≡ false = bit_no listed (sym listed_here ∙ z) in rw f

    pub included_yes : (get_or marks (at + 1) 0 ≡ 0 → ⊥) → suc (suc u) ≡ included_at s names t
    unfolding included_at
    included_yes z =
        let f : listed ≡ true = bit_yes listed (λ y. z (listed_here ∙ y)) in
        rw (f, node_hit s tab n t hit, numbered)

    -- ---- where the marks of a name stand

    pub node_below : u < n
    node_below = omega (arith, hit_low s tab t n hit)

    pub at_bytes : Fits w64 (at * 4)
    at_bytes = record { fits = omega (arith, node_below, d.holding.few) }

    pub at_in : at < length marks
    at_in = omega (arith, node_below, d.holding.few, d.marked.wide)

    pub next_fits : Fits w64 (at + 1)
    next_fits = record { fits = omega (arith, node_below, d.holding.few) }

    pub next_bytes : Fits w64 ((at + 1) * 4)
    next_bytes = record { fits = omega (arith, node_below, d.holding.few) }

    pub next_in : at + 1 < length marks
    next_in = omega (arith, node_below, d.holding.few, d.marked.wide)

  module _ {r : Option ℕ} {k : ℕ} (q : r ≡ Some k) (e : r ≡ first_of t (names_in s tab n)) where
    pub found_low : k < most_nodes
    found_low = omega (arith, hit_low s tab t n (sym e ∙ q), d.holding.few)

    pub found_node : {u : ℕ} → u ≡ k → u < most_nodes
    found_node w = omega (arith, found_low)

  -- ---- a name that is not found

  pub known_nowhere : {r : Option ℕ} → r ≡ None → r ≡ first_of t (names_in s tab n) → 0 ≡ known_at s names t
  unfolding known_at
  known_nowhere q e = go known refl
    where
      go : (c : Bool) → memb t (entry_names (plain_at s)) ≡ c → 0 ≡ cond c (suc (number_of names t)) 0
      go true k = both_bools (d.entries t k) (node_missed s tab n t (sym e ∙ q))
      go false k = refl

  pub included_nowhere : {r : Option ℕ} → r ≡ None → r ≡ first_of t (names_in s tab n) → (x : Included) → included_code x ≡ listed_at s t
      → included_code x ≡ included_at s names t
  unfolding included_at listed_at
  included_nowhere q e x h =
      h ∙ ap (λ (b : Bool). cond listed (cond b (suc (suc (number_of names t))) 1) 0) (sym (node_missed s tab n t (sym e ∙ q)))

-- ---- a submodule in the image

found_among : (t : Name) (ws : List PlacedName) {h : ℕ × ℕ} → first_by word word_found t ws (Ok None) ≡ Ok (Some h) → among plain_name t ws ≡ true
unfolding among
found_among t [] e = let z : ◌≡◌ {A = ℕ} 0 1 = cc in absurd (omega arith)
found_among t (w ∷ ws) {h} e = go (same w.text t) (found_among t ws) e
  where
    go : (b : Bool) → (first_by word word_found t ws (Ok None) ≡ Ok (Some h) → among plain_name t ws ≡ true)
        → cond b (word_found w) (first_by word word_found t ws (Ok None)) ≡ Ok (Some h) → (b || among plain_name t ws) ≡ true
    go true ih e = refl
    go false ih e = ih e

missed_among : (t : Name) (ws : List PlacedName) → first_by word word_found t ws (Ok None) ≡ (Ok None) → among plain_name t ws ≡ false
unfolding among
missed_among t [] e = refl
missed_among t (w ∷ ws) e = go (same w.text t) (missed_among t ws) e
  where
    go : (b : Bool) → (first_by word word_found t ws (Ok None) ≡ (Ok None) → among plain_name t ws ≡ false)
        → cond b (word_found w) (first_by word word_found t ws (Ok None)) ≡ (Ok None) → (b || among plain_name t ws) ≡ false
    go true ih e = let z : ◌≡◌ {A = ℕ} 0 1 = cc in absurd (omega arith)
    go false ih e = ih e

never_broken : (t : Name) (ws : List PlacedName) {p : ℕ} → first_by word word_found t ws (Ok None) ≡ Err p → ⊥
never_broken t [] e = let z : ◌≡◌ {A = ℕ} 0 1 = cc in omega arith
never_broken t (w ∷ ws) {p} e = go (same w.text t) (never_broken t ws) e
  where
    go : (b : Bool) → (first_by word word_found t ws (Ok None) ≡ Err p → ⊥) → cond b (word_found w) (first_by word word_found t ws (Ok None)) ≡ Err p → ⊥
    go true ih e = let z : ◌≡◌ {A = ℕ} 0 1 = cc in omega arith
    go false ih e = ih e

-- the ways out of `no_node`
module _ (s t : Name) (h : Reads (image_at s)) where
  library_read : library_of s ≡ h.value
  unfolding library_of
  library_read = ap (λ (r : Ans Library). on_ans r (λ l n. l) (λ p. [])) h.read

  found_read : find_submodule s t ≡ first_by word word_found t (submodules_of (modules_of (library_of s))) (Ok None)
  unfolding find_submodule
  found_read = rw (h.read, library_read)

  pub sub_found : {r : Result (Option (ℕ × ℕ)) ℕ} {o : Option (ℕ × ℕ)} {p : ℕ × ℕ} → r ≡ Ok o → o ≡ Some p → r ≡ find_submodule s t → 1 ≡ listed_at s t
  unfolding listed_at
  sub_found q z e = rw (listed_words t (library_of s), found_among t (submodules_of (modules_of (library_of s))) (sym found_read ∙ sym e ∙ q ∙ ap Ok z))

  pub sub_missed : {r : Result (Option (ℕ × ℕ)) ℕ} → r ≡ (Ok None) → r ≡ find_submodule s t → 0 ≡ listed_at s t
  unfolding listed_at
  sub_missed q e = rw (listed_words t (library_of s), missed_among t (submodules_of (modules_of (library_of s))) (sym found_read ∙ sym e ∙ q))

  pub not_broken : {r : Result (Option (ℕ × ℕ)) ℕ} {p : ℕ} → r ≡ Err p → r ≡ find_submodule s t → 0 ≡ listed_at s t
  not_broken q e = absurd (never_broken t (submodules_of (modules_of (library_of s))) (sym found_read ∙ sym e ∙ q))

-- what it answers is no node
pub never_node : (s t : Name) (n : ℕ) (x : Included) → included_code x ≡ listed_at s t → IncludedNode x n
unfolding listed_at
never_node s t n NotFound e = tt
never_node s t n NotNode e = tt
never_node s t n (Below v) e = absurd (go (memb t (submodule_names (plain_at s))) e)
  where
    go : (b : Bool) → suc (suc v.0) ≡ bit b → ⊥
    go true e = omega arith
    go false e = omega arith
