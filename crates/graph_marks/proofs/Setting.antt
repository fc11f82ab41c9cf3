-- One law for each way out of `mark_item` and `mark_nodes`: an item marks the node that has its name and no other, since the names of nodes differ, and
-- only the mark of its kind.
-- Assumes nothing.
use Rattle.std.specs.Prelude.{Some, None, Option}
use Prim.Native.Nat.{ℕ, zero, suc, ◌+◌, ◌*◌, ◌-◌, ◌^◌, ◌≤◌, ◌<◌}
use mathlib.Core.Path.{◌≡◌, refl, sym, ap, ◌∙◌, subst}
use mathlib.Core.Logic.{◌⊎◌, inl, inr, ⊎_elim}
use mathlib.Core.Bool.{Bool, true, false, cond, ◌||◌}
use mathlib.Core.List.{List, [], ◌∷◌, ◌++◌}
use native.Mathlib.Omega.{arith}
use native.Mathlib.Numerals.{add-one}
use native.Mathlib.Nat.{eq-or-lt_of_le, lt_of_not-le}
use native.Mathlib.Decide.{dec_le}
use mir.Syntax.{w64}
use mir.Val.{Fits}
use lib.ListN.{length, get_or, take, drop, set, replicate, length-set}
use lib.Seq.{get_or-set_same, get_or-set_other}
use Rattle.text.specs.Keyword.{same}
use Rattle.text.proofs.Here.{or_none}
use Rattle.text.proofs.KeywordLaws.{same_eq}
use Rattle.library_form.specs.Form.{PlacedName, word_at}
use Rattle.library_form.proofs.Bounds.{part_word}
use Rattle.library_image.specs.Library.{Name, plain_name}
use Rattle.library_index.specs.Names.{first_of, among, name_in_row, names_in, Indexed}
use Rattle.library_index.proofs.First.{not_among, hit_low, among_append}
use Rattle.text_lent.proofs.Numbers.{decide}
use Rattle.library_items.specs.Items.{ItemOf, items_at}
use Rattle.library_items.specs.Table.{item_in, item_word, items_in, Itemized}
use Rattle.library_items.specs.declared.Item.{Item}
use Rattle.library_items.specs.declared.Kind.{Kind}
use Rattle.library_items.specs.declared.Kind.TheVariants.{Module, Submodule, Augmenting, Deviation, ImportOnly, FirstSub, LaterSub, NoName}
use Rattle.graph.specs.Limits.{most_nodes}
use Rattle.graph.proofs.Tests.{same_refl, both_bools, or_left, or_right}
use Rattle.text_lent.proofs.Zeros.{zeros_zero}
use Rattle.graph_nodes.specs.Adding.{is_entry, Holding}
use Rattle.graph_marks.specs.Marks.{is_submodule, among_kind, bit, Marked, Marking}
use Rattle.graph_marks.proofs.OfKind.{kind_append}
use Rattle.graph_nodes.proofs.Looking.{hit_text}

-- ---- names differ

-- each name of the table is among those of a longer one
name_among : (s tab : List ℕ) (n i : ℕ) → i < n → among plain_name (name_in_row s tab i).text (names_in s tab n) ≡ true
unfolding names_in among
name_among s tab zero i l = absurd (omega arith)
name_among s tab (suc n) i l =
    among_append plain_name (name_in_row s tab i).text (names_in s tab n) (name_in_row s tab n ∷ [])
    ∙ ⊎_elim (λ e. or_right (among plain_name (name_in_row s tab i).text (names_in s tab n)) _ (last e)) (λ k. or_left _ _ (name_among s tab n i k))
    (eq-or-lt_of_le {n = i} {m = n} (omega arith))
  where
    last : i ≡ n → among plain_name (name_in_row s tab i).text (name_in_row s tab n ∷ []) ≡ true
    last e = rw (e, same_refl (name_in_row s tab n).text)

apart : (s tab : List ℕ) (n i j : ℕ) → Indexed s tab n → i < n → j < i → (name_in_row s tab j).text ≡ (name_in_row s tab i).text → ⊥
apart s tab n i j x l k e =
    both_bools
    (ap (λ (t : Name). among plain_name t (names_in s tab i)) (sym e) ∙ name_among s tab i j k)
    (not_among 0 (name_in_row s tab i).text (names_in s tab i) (x.differ i l))

-- ---- an item more

module _ (kind : Kind → Bool) (u : Name) where
  -- the item has the kind and the name
  hits : ItemOf PlacedName → Bool
  hits x = cond (kind x.kind) (same x.name.text u) false

  with_item : (xs : List (ItemOf PlacedName)) (x : ItemOf PlacedName) → among_kind kind u (xs ++ (x ∷ [])) ≡ (among_kind kind u xs || hits x)
  unfolding among_kind hits
  with_item xs x = kind_append kind u xs (x ∷ []) ∙ ap (λ (b : Bool). among_kind kind u xs || b) (go (kind x.kind) (same x.name.text u))
    where
      go : (b c : Bool) → cond b (cond c true false) false ≡ cond b c false
      go true true = refl
      go true false = refl
      go false c = refl

  other_kind : (x : ItemOf PlacedName) → kind x.kind ≡ false → hits x ≡ false
  unfolding hits
  other_kind x e = rw e

  other_name : (x : ItemOf PlacedName) → same x.name.text u ≡ false → hits x ≡ false
  unfolding hits
  other_name x e = go (kind x.kind) e
    where
      go : (b : Bool) {c : Bool} → c ≡ false → cond b c false ≡ false
      go true h = h
      go false h = refl

  it_hits : (x : ItemOf PlacedName) → kind x.kind ≡ true → x.name.text ≡ u → hits x ≡ true
  unfolding hits
  it_hits x e q = rw (e, q, same_refl u)

  -- a mark that stays, and one that is set
  stays : (xs : List (ItemOf PlacedName)) (x : ItemOf PlacedName) {m : ℕ} → m ≡ bit (among_kind kind u xs) → hits x ≡ false
      → m ≡ bit (among_kind kind u (xs ++ (x ∷ [])))
  stays xs x e h = e ∙ ap (λ (b : Bool). bit b) (sym (with_item xs x ∙ ap (λ (b : Bool). among_kind kind u xs || b) h ∙ or_none (among_kind kind u xs)))

  is_set : (xs : List (ItemOf PlacedName)) (x : ItemOf PlacedName) {m : ℕ} → m ≡ 1 → hits x ≡ true → m ≡ bit (among_kind kind u (xs ++ (x ∷ [])))
  is_set xs x e h = e ∙ ap (λ (b : Bool). bit b) (sym (with_item xs x ∙ ap (λ (b : Bool). among_kind kind u xs || b) h
      ∙ or_right (among_kind kind u xs) true refl))

order : (j k : ℕ) → (j ≡ k → ⊥) → (j < k) ⊎ (k < j)
order j k d = elim (dec_le j k) [ yes l ↦ ⊎_elim (λ e. absurd (d e)) (λ o. inl o) (eq-or-lt_of_le {n = j} {m = k} l) | no l ↦ inr (lt_of_not-le l) ]

-- ---- the ways out of `mark_item`

no_entry_sub : (k : Kind) → is_entry k ≡ true → is_submodule k ≡ false
no_entry_sub Submodule e = both_bools e refl
no_entry_sub Module e = refl
no_entry_sub Augmenting e = refl
no_entry_sub Deviation e = refl
no_entry_sub ImportOnly e = refl
no_entry_sub FirstSub e = refl
no_entry_sub LaterSub e = refl
no_entry_sub NoName e = refl

module _ (s table tab marks : List ℕ) (i n : ℕ) (m : Marking s table i tab n marks) {x : Item} (e : x ≡ item_in table i) where
  abbrev it : ItemOf PlacedName
  it = item_word s (item_in table i)

  -- the bytes that are sought are the item's
  sought : take (x.place + x.size - x.place) (drop x.place s) ≡ it.name.text
  sought = part_word s x.place x.size ∙ ap (λ (y : Item). (word_at s y.place y.size).text) e

  kind_of : x.kind ≡ it.kind
  kind_of = ap (λ (y : Item). y.kind) e

  next : items_in s table (i + 1) ≡ items_in s table i ++ (it ∷ [])
  unfolding items_in
  next = ap (items_in s table) (add-one i)

  abbrev After : List ℕ → Type 0
  After after = Marked s tab n (items_in s table (i + 1)) after

  abbrev KnownAfter : List ℕ → Type 0
  KnownAfter after = (j : ℕ) → j < n → get_or after (j * 2) 0 ≡ bit (among_kind is_entry (name_in_row s tab j).text (items_in s table i ++ (it ∷ [])))

  abbrev ListedAfter : List ℕ → Type 0
  ListedAfter after = (j : ℕ) → j < n → get_or after (j * 2 + 1) 0 ≡ bit (among_kind is_submodule (name_in_row s tab j).text (items_in s table i ++ (it ∷ [])))

  all_marked : (after : List ℕ) → length after ≡ length marks → KnownAfter after → ListedAfter after → After after
  all_marked after l k h = subst (λ (xs : List (ItemOf PlacedName)). Marked s tab n xs after) (sym next)
      (record { wide = omega (arith, m.marked.wide); known = k; listed = h })

  pub end_in : x.place + x.size ≤ length s
  end_in = omega (arith, ap (λ (y : Item). y.place + y.size) e, m.fits.inside)

  pub end_fits : length s < 2 ^ 64 → Fits w64 (x.place + x.size)
  end_fits l = record { fits = omega (arith, end_in) }

  -- no name of the table is the item's
  elsewhere : {r : Option ℕ} → r ≡ None → r ≡ first_of (take (x.place + x.size - x.place) (drop x.place s)) (names_in s tab n)
      → (j : ℕ) → j < n → same it.name.text (name_in_row s tab j).text ≡ false
  elsewhere q f j l = go (same it.name.text (name_in_row s tab j).text) refl
    where
      go : (b : Bool) → same it.name.text (name_in_row s tab j).text ≡ b → same it.name.text (name_in_row s tab j).text ≡ false
      go true h =
          both_bools
          (ap (λ (t : Name). among plain_name t (names_in s tab n)) (same_eq it.name.text (name_in_row s tab j).text h) ∙ name_among s tab n j l)
          (not_among 0 it.name.text (names_in s tab n) (ap (λ (t : Name). first_of t (names_in s tab n)) (sym sought) ∙ sym f ∙ q))
      go false h = h

  pub mark_nowhere : {r : Option ℕ} → r ≡ None → r ≡ first_of (take (x.place + x.size - x.place) (drop x.place s)) (names_in s tab n) → After marks
  mark_nowhere q f =
      all_marked marks refl
      (λ j l. stays is_entry (name_in_row s tab j).text (items_in s table i) it (m.marked.known j l)
      (other_name is_entry (name_in_row s tab j).text it (elsewhere q f j l)))
      (λ j l. stays is_submodule (name_in_row s tab j).text (items_in s table i) it (m.marked.listed j l)
      (other_name is_submodule (name_in_row s tab j).text it (elsewhere q f j l)))

  module _ {r : Option ℕ} {k : ℕ} (q : r ≡ Some k) (f : r ≡ first_of (take (x.place + x.size - x.place) (drop x.place s)) (names_in s tab n)) where
    hit : first_of it.name.text (names_in s tab n) ≡ Some k
    hit = ap (λ (t : Name). first_of t (names_in s tab n)) (sym sought) ∙ sym f ∙ q

    pub mark_low : k < n
    mark_low = hit_low s tab it.name.text n hit

    own : it.name.text ≡ (name_in_row s tab k).text
    own = sym (hit_text s tab it.name.text n hit)

    -- another name is another
    unlike : (j : ℕ) → j < n → (j ≡ k → ⊥) → same it.name.text (name_in_row s tab j).text ≡ false
    unlike j l d = go (same it.name.text (name_in_row s tab j).text) refl
      where
        go : (b : Bool) → same it.name.text (name_in_row s tab j).text ≡ b → same it.name.text (name_in_row s tab j).text ≡ false
        go true h =
            let p : (name_in_row s tab k).text ≡ (name_in_row s tab j).text = sym own ∙ same_eq it.name.text (name_in_row s tab j).text h in
            ⊎_elim (λ o. absurd (apart s tab n k j m.indexed mark_low o (sym p))) (λ o. absurd (apart s tab n j k m.indexed l o p)) (order j k d)
        go false h = h

    pub row_low : k < most_nodes
    row_low = omega (arith, mark_low, m.few)

    pub node_low : {u : ℕ} → u ≡ k → u < most_nodes
    node_low w = omega (arith, row_low)

    module _ {u at : ℕ} (w : u ≡ k) (a : at ≡ u * 2) where
      pub at_bytes : Fits w64 (at * 4)
      at_bytes = record { fits = omega (arith, row_low) }

      pub next_fits : Fits w64 (at + 1)
      next_fits = record { fits = omega (arith, row_low) }

      pub next_bytes : Fits w64 ((at + 1) * 4)
      next_bytes = record { fits = omega (arith, row_low) }

      pub at_in : at < length marks
      at_in = omega (arith, row_low, m.marked.wide)

      pub next_in : at + 1 < length marks
      next_in = omega (arith, row_low, m.marked.wide)

    -- neither an entry nor a submodule
    pub mark_other : {b c : Bool} → b ≡ is_entry x.kind → b ≡ false → c ≡ is_submodule x.kind → c ≡ false → After marks
    mark_other p o q z =
        let y : is_entry it.kind ≡ false = ap (λ (a : Kind). is_entry a) (sym kind_of) ∙ sym p ∙ o in
        let w : is_submodule it.kind ≡ false = ap (λ (a : Kind). is_submodule a) (sym kind_of) ∙ sym q ∙ z in
        all_marked marks refl
        (λ j l. stays is_entry (name_in_row s tab j).text (items_in s table i) it (m.marked.known j l) (other_kind is_entry (name_in_row s tab j).text it y))
        (λ j l. stays is_submodule (name_in_row s tab j).text (items_in s table i) it (m.marked.listed j l) (other_kind is_submodule
        (name_in_row s tab j).text it w))

    set_entry : {b : Bool} → b ≡ is_entry x.kind → b ≡ true → After (set marks (k * 2) 1)
    set_entry p o =
        let y : is_entry it.kind ≡ true = ap (λ (a : Kind). is_entry a) (sym kind_of) ∙ sym p ∙ o in
        let w : is_submodule it.kind ≡ false = no_entry_sub it.kind y in
        all_marked (set marks (k * 2) 1) (length-set marks (k * 2) 1)
        (λ j l. ⊎_elim
        (λ d. is_set is_entry (name_in_row s tab j).text (items_in s table i) it
        (ap (λ (a : ℕ). get_or (set marks (k * 2) 1) (a * 2) 0) d ∙ get_or-set_same marks (k * 2) 1 0 (omega (arith, mark_low, m.few, m.marked.wide)))
        (it_hits is_entry (name_in_row s tab j).text it y (own ∙ ap (λ (a : ℕ). (name_in_row s tab a).text) (sym d))))
        (λ d. stays is_entry (name_in_row s tab j).text (items_in s table i) it
        (get_or-set_other marks (k * 2) (j * 2) 1 0 (λ z. d (omega (arith, z))) ∙ m.marked.known j l)
        (other_name is_entry (name_in_row s tab j).text it (unlike j l d)))
        (decide j k))
        (λ j l. stays is_submodule (name_in_row s tab j).text (items_in s table i) it
        (get_or-set_other marks (k * 2) (j * 2 + 1) 1 0 (λ z. omega (arith, z)) ∙ m.marked.listed j l)
        (other_kind is_submodule (name_in_row s tab j).text it w))

    set_sub : {b c : Bool} → b ≡ is_entry x.kind → b ≡ false → c ≡ is_submodule x.kind → c ≡ true → After (set marks (k * 2 + 1) 1)
    set_sub p o q z =
        let y : is_entry it.kind ≡ false = ap (λ (a : Kind). is_entry a) (sym kind_of) ∙ sym p ∙ o in
        let w : is_submodule it.kind ≡ true = ap (λ (a : Kind). is_submodule a) (sym kind_of) ∙ sym q ∙ z in
        all_marked (set marks (k * 2 + 1) 1) (length-set marks (k * 2 + 1) 1)
        (λ j l. stays is_entry (name_in_row s tab j).text (items_in s table i) it
        (get_or-set_other marks (k * 2 + 1) (j * 2) 1 0 (λ z. omega (arith, z)) ∙ m.marked.known j l)
        (other_kind is_entry (name_in_row s tab j).text it y))
        (λ j l. ⊎_elim
        (λ d. is_set is_submodule (name_in_row s tab j).text (items_in s table i) it
        (ap (λ (a : ℕ). get_or (set marks (k * 2 + 1) 1) (a * 2 + 1) 0) d ∙ get_or-set_same marks (k * 2 + 1) 1 0
        (omega (arith, mark_low, m.few, m.marked.wide)))
        (it_hits is_submodule (name_in_row s tab j).text it w (own ∙ ap (λ (a : ℕ). (name_in_row s tab a).text) (sym d))))
        (λ d. stays is_submodule (name_in_row s tab j).text (items_in s table i) it
        (get_or-set_other marks (k * 2 + 1) (j * 2 + 1) 1 0 (λ z. d (omega (arith, z))) ∙ m.marked.listed j l)
        (other_name is_submodule (name_in_row s tab j).text it (unlike j l d)))
        (decide j k))

    module _ {u at : ℕ} (w : u ≡ k) (a : at ≡ u * 2) where
      at_is : k * 2 ≡ at
      at_is = omega arith

      pub mark_entry : {b : Bool} → b ≡ is_entry x.kind → b ≡ true → After (set marks at 1)
      mark_entry p o = subst (λ (i : ℕ). After (set marks i 1)) at_is (set_entry p o)

      pub mark_sub : {b c : Bool} → b ≡ is_entry x.kind → b ≡ false → c ≡ is_submodule x.kind → c ≡ true → After (set marks (at + 1) 1)
      mark_sub p o q z = subst (λ (i : ℕ). After (set marks (i + 1) 1)) at_is (set_sub p o q z)

-- ---- all items

pub record MarkLoop (s table tab : List ℕ) (count n : ℕ) (before marks : List ℕ) (i : ℕ) : Type 0 where
  pub marked : Marked s tab n (items_in s table i) marks
  pub kept : length marks ≡ length before
  pub room : i ≤ count

module _ (s table tab : List ℕ) (count n : ℕ) where
  pub marks_begun : (marks : List ℕ) → 2048 ≤ length marks → marks ≡ replicate (length marks) 0 → MarkLoop s table tab count n marks marks 0
  unfolding items_in among_kind
  marks_begun marks l e = record {
    marked = record {
      wide = l;
      known = λ i k. ap (λ (t : List ℕ). get_or t (i * 2) 0) e ∙ zeros_zero (length marks) (i * 2);
      listed = λ i k. ap (λ (t : List ℕ). get_or t (i * 2 + 1) 0) e ∙ zeros_zero (length marks) (i * 2 + 1);
    };
    kept = refl;
    room = omega arith;
  }

  module _ {before marks : List ℕ} {i : ℕ} (g : MarkLoop s table tab count n before marks i) where
    pub marks_ask : Itemized s count table → Holding s tab n (names_in s tab n) → i < count → Marking s table i tab n marks
    marks_ask t h l = record { there = omega (arith, t.long); fits = t.fits i l; indexed = h.indexed; few = h.few; marked = g.marked }

    pub marks_on : {after : List ℕ} → Marked s tab n (items_in s table (i + 1)) after → length after ≡ length marks → i < count
        → MarkLoop s table tab count n before after (i + 1)
    marks_on k o l = record { marked = k; kept = o ∙ g.kept; room = omega arith }

    pub marks_done : Itemized s count table → count ≤ i → Marked s tab n (items_at s) marks
    marks_done t l =
        let e : i ≡ count = omega (arith, g.room) in
        subst (λ (xs : List (ItemOf PlacedName)). Marked s tab n xs marks) (ap (items_in s table) e ∙ t.items) g.marked
