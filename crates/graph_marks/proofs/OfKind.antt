-- Which names are those of an item of a kind: the known names are those of modules and import-only modules, the listed ones those of modules'
-- submodules. Each list of the library stands in the items under its kind.
-- Assumes nothing.
use mathlib.Core.Path.{◌≡◌, refl, sym, ap, ap₂, ◌∙◌}
use mathlib.Core.Bool.{Bool, true, false, cond, ◌||◌}
use mathlib.Core.List.{List, [], ◌∷◌, ◌++◌, append_assoc, map, flat_map}
use Rattle.text.specs.Keyword.{same}
use Rattle.text.proofs.Here.{or_none}
use Rattle.library_form.specs.Form.{PlacedName}
use Rattle.library_image.specs.Library.{Name, Module, ImportOnly, Library, plain_name, plain, modules_of, import_only_of, submodules_of}
use Rattle.library_items.specs.Items.{submodule_kind, augmenting_kind, deviation_kind, first_sub_kind, later_sub_kind, ItemOf, item, module_items, later_items}
use Rattle.library_items.specs.Items.{revision_items, import_items, set_items, items_of}
use Rattle.library_items.specs.declared.Kind.{Kind}
use Rattle.library_index.specs.Names.{among}
use Rattle.library_index.proofs.First.{among_append}
use Rattle.graph.specs.Nodes.{memb}
use Rattle.graph.specs.Graph.{entry_names, submodule_names}
use Rattle.graph.proofs.Tests.{both_bools, or_not}
use Rattle.graph.proofs.Plain.{known_words, listed_words}
use Rattle.graph_nodes.specs.Adding.{is_entry}
use Rattle.graph_marks.specs.Marks.{is_submodule, among_kind}

-- ---- one list behind another

module _ (kind : Kind → Bool) (u : Name) where
  pub kind_append : (xs ys : List (ItemOf PlacedName)) → among_kind kind u (xs ++ ys) ≡ (among_kind kind u xs || among_kind kind u ys)
  unfolding among_kind
  kind_append [] ys = refl
  kind_append (x ∷ xs) ys = go (kind x.kind) (same x.name.text u) (kind_append xs ys)
    where
      go : (b c : Bool) → among_kind kind u (xs ++ ys) ≡ (among_kind kind u xs || among_kind kind u ys)
          → cond b (cond c true (among_kind kind u (xs ++ ys))) (among_kind kind u (xs ++ ys))
          ≡ (cond b (cond c true (among_kind kind u xs)) (among_kind kind u xs) || among_kind kind u ys)
      go true true ih = refl
      go true false ih = ih
      go false c ih = ih

  -- names of another kind, and of the kind
  others : (k : Kind) → kind k ≡ false → (ws : List PlacedName) → among_kind kind u (map (item k) ws) ≡ false
  unfolding among_kind
  others k e [] = refl
  others k e (w ∷ ws) = go (kind k) (same w.text u) e (others k e ws)
    where
      go : (b c : Bool) → b ≡ false → among_kind kind u (map (item k) ws) ≡ false
          → cond b (cond c true (among_kind kind u (map (item k) ws))) (among_kind kind u (map (item k) ws)) ≡ false
      go true c p ih = both_bools refl p
      go false c p ih = ih

  these : (k : Kind) → kind k ≡ true → (ws : List PlacedName) → among_kind kind u (map (item k) ws) ≡ among plain_name u ws
  unfolding among_kind among
  these k e [] = refl
  these k e (w ∷ ws) = go (kind k) (same w.text u) e (these k e ws)
    where
      go : (b c : Bool) → b ≡ true → among_kind kind u (map (item k) ws) ≡ among plain_name u ws
          → cond b (cond c true (among_kind kind u (map (item k) ws))) (among_kind kind u (map (item k) ws)) ≡ (c || among plain_name u ws)
      go true true p ih = refl
      go true false p ih = ih
      go false c p ih = both_bools p refl

  later_others : kind later_sub_kind ≡ false → (rs : List (List PlacedName)) → among_kind kind u (later_items rs) ≡ false
  unfolding flat_map among_kind
  later_others e [] = refl
  later_others e (r ∷ rs) = kind_append (map (item later_sub_kind) r) (later_items rs) ∙ ap₂ ◌||◌ (others later_sub_kind e r) (later_others e rs)

  revision_others : kind first_sub_kind ≡ false → kind later_sub_kind ≡ false → (rs : List (List PlacedName)) → among_kind kind u (revision_items rs) ≡ false
  unfolding among_kind
  revision_others d e [] = refl
  revision_others d e (r ∷ rs) = kind_append (map (item first_sub_kind) r) (later_items rs) ∙ ap₂ ◌||◌ (others first_sub_kind d r) (later_others e rs)

-- ---- known names

or_swap : (a b x y : Bool) → ((a || x) || (b || y)) ≡ ((a || b) || (x || y))
or_swap true b x y = refl
or_swap false true true y = refl
or_swap false true false y = refl
or_swap false false x y = refl

abbrev module_name : Module → Name
module_name m = plain_name m.name

abbrev import_name : ImportOnly → Name
import_name i = plain_name i.name

module _ (u : Name) where
  abbrev entry : List (ItemOf PlacedName) → Bool
  entry xs = among_kind is_entry u xs

  module_entry_lem : (m : Module) → entry (module_items m) ≡ same m.name.text u
  unfolding among_kind
  module_entry_lem m =
      ap (λ (b : Bool). cond (same m.name.text u) true b)
      (kind_append is_entry u (map (item submodule_kind) m.submodules) (map (item augmenting_kind) m.augmenting ++ map (item deviation_kind) m.deviations)
      ∙ ap₂ ◌||◌ (others is_entry u submodule_kind refl m.submodules)
      (kind_append is_entry u (map (item augmenting_kind) m.augmenting) (map (item deviation_kind) m.deviations)
      ∙ ap₂ ◌||◌ (others is_entry u augmenting_kind refl m.augmenting) (others is_entry u deviation_kind refl m.deviations)))
      ∙ or_not (same m.name.text u)

  import_entry_lem : (i : ImportOnly) → entry (import_items i) ≡ same i.name.text u
  unfolding among_kind
  import_entry_lem i = ap (λ (b : Bool). cond (same i.name.text u) true b) (revision_others is_entry u refl refl i.revisions)
      ∙ or_not (same i.name.text u)

  modules_entry : (ms : List Module) → entry (flat_map module_items ms) ≡ among module_name u ms
  unfolding flat_map among_kind among
  modules_entry [] = refl
  modules_entry (m ∷ ms) = kind_append is_entry u (module_items m) (flat_map module_items ms) ∙ ap₂ ◌||◌ (module_entry_lem m) (modules_entry ms)

  imports_entry : (is : List ImportOnly) → entry (flat_map import_items is) ≡ among import_name u is
  unfolding flat_map among_kind among
  imports_entry [] = refl
  imports_entry (i ∷ is) = kind_append is_entry u (import_items i) (flat_map import_items is) ∙ ap₂ ◌||◌ (import_entry_lem i) (imports_entry is)

  entries_known : (l : Library) → entry (items_of l) ≡ (among module_name u (modules_of l) || among import_name u (import_only_of l))
  unfolding items_of flat_map among_kind among modules_of import_only_of
  entries_known [] = refl
  entries_known (s ∷ l) =
      kind_append is_entry u (set_items s) (items_of l)
      ∙ ap₂ ◌||◌
      (kind_append is_entry u (flat_map module_items s.modules) (flat_map import_items s.import_only)
      ∙ ap₂ ◌||◌ (modules_entry s.modules) (imports_entry s.import_only))
      (entries_known l)
      ∙ sym (or_swap (among module_name u s.modules) (among import_name u s.import_only) (among module_name u (modules_of l))
      (among import_name u (import_only_of l)))
      ∙ sym (ap₂ ◌||◌ (among_append module_name u s.modules (modules_of l)) (among_append import_name u s.import_only (import_only_of l)))

pub known_items : (u : Name) (l : Library) → memb u (entry_names (plain l)) ≡ among_kind is_entry u (items_of l)
known_items u l = known_words u l ∙ sym (entries_known u l)

-- ---- listed names

submodules_append : (ms ns : List Module) → submodules_of (ms ++ ns) ≡ submodules_of ms ++ submodules_of ns
unfolding submodules_of
submodules_append [] ns = refl
submodules_append (m ∷ ms) ns = ap (λ (l : List PlacedName). m.submodules ++ l) (submodules_append ms ns)
    ∙ sym (append_assoc m.submodules (submodules_of ms) (submodules_of ns))

module _ (u : Name) where
  abbrev sub : List (ItemOf PlacedName) → Bool
  sub xs = among_kind is_submodule u xs

  module_sub : (m : Module) → sub (module_items m) ≡ among plain_name u m.submodules
  unfolding among_kind
  module_sub m =
      kind_append is_submodule u (map (item submodule_kind) m.submodules)
      (map (item augmenting_kind) m.augmenting ++ map (item deviation_kind) m.deviations)
      ∙ ap₂ ◌||◌ (these is_submodule u submodule_kind refl m.submodules)
      (kind_append is_submodule u (map (item augmenting_kind) m.augmenting) (map (item deviation_kind) m.deviations)
      ∙ ap₂ ◌||◌ (others is_submodule u augmenting_kind refl m.augmenting) (others is_submodule u deviation_kind refl m.deviations))
      ∙ or_none (among plain_name u m.submodules)

  modules_sub : (ms : List Module) → sub (flat_map module_items ms) ≡ among plain_name u (submodules_of ms)
  unfolding flat_map among_kind among submodules_of
  modules_sub [] = refl
  modules_sub (m ∷ ms) =
      kind_append is_submodule u (module_items m) (flat_map module_items ms)
      ∙ ap₂ ◌||◌ (module_sub m) (modules_sub ms)
      ∙ sym (among_append plain_name u m.submodules (submodules_of ms))

  imports_sub : (is : List ImportOnly) → sub (flat_map import_items is) ≡ false
  unfolding flat_map among_kind
  imports_sub [] = refl
  imports_sub (i ∷ is) =
      kind_append is_submodule u (import_items i) (flat_map import_items is) ∙ ap₂ ◌||◌ (revision_others is_submodule u refl refl i.revisions) (imports_sub is)

  submodules_listed : (l : Library) → sub (items_of l) ≡ among plain_name u (submodules_of (modules_of l))
  unfolding items_of flat_map among_kind among modules_of submodules_of
  submodules_listed [] = refl
  submodules_listed (s ∷ l) =
      kind_append is_submodule u (set_items s) (items_of l)
      ∙ ap₂ ◌||◌
      (kind_append is_submodule u (flat_map module_items s.modules) (flat_map import_items s.import_only)
      ∙ ap₂ ◌||◌ (modules_sub s.modules) (imports_sub s.import_only)
      ∙ or_none (among plain_name u (submodules_of s.modules)))
      (submodules_listed l)
      ∙ sym (among_append plain_name u (submodules_of s.modules) (submodules_of (modules_of l)))
      ∙ ap (among plain_name u) (sym (submodules_append s.modules (modules_of l)))

pub listed_items : (u : Name) (l : Library) → memb u (submodule_names (plain l)) ≡ among_kind is_submodule u (items_of l)
listed_items u l = listed_words u l ∙ sym (submodules_listed u l)
