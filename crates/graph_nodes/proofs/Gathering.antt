-- Going through the items gives the nodes of the library: an entry's items add its group, since submodules that come are those of the entry before
-- them. In the mode `pass_over` only the first revision of an import-only module can add anything, in the mode `complete` each one adds its submodules. The list
-- only grows.
-- Assumes nothing.
use Prim.Native.Nat.{◌≤◌}
use mathlib.Core.Path.{◌≡◌, refl, sym, ap, ◌∙◌}
use mathlib.Core.Bool.{Bool, true, false, cond, ◌&&◌}
use mathlib.Core.List.Memᴰ
use mathlib.Core.List.{List, [], ◌∷◌, ◌++◌, map, flat_map, Memᴰ}
use native.Mathlib.Omega.{arith}
use lib.ListN.{length, length-append}
use Rattle.text.specs.Keyword.{same}
use Rattle.library_form.specs.Form.{PlacedName}
use Rattle.library_image.specs.Library.{Name, Module, ImportOnly, ModuleSet, Library, plain_name, plain_import_only, plain_set, plain}
use Rattle.library_items.specs.Items.{submodule_kind, augmenting_kind, deviation_kind, first_sub_kind, later_sub_kind, ItemOf, item, module_items, later_items}
use Rattle.library_items.specs.Items.{import_items, set_items, items_of}
use Rattle.library_items.specs.declared.Kind.{Kind}
use Rattle.library_index.specs.Names.{among, add_new, add_all}
use Rattle.library_index.proofs.First.{among_append}
use Rattle.graph.specs.Nodes.{Mode, pass_over, complete, mode_of, Group, module_group, revision_groups, set_groups, add_group, add_groups, nodes_by, word_nodes}
use Rattle.graph.specs.Meaning.{Revised}
use Rattle.graph.proofs.Tests.{same_refl, both_bools, or_left, or_right}
use Rattle.graph.proofs.Sets.{import_only_in}
use Rattle.graph_nodes.specs.Adding.{is_entry, is_sub, Adding, so, add_name, add_item, add_items}

-- ---- one list of items behind another

abbrev nodes_in : Adding → List PlacedName
nodes_in a = a.nodes

module _ (c : Bool) where
  pub items_append : (xs ys : List (ItemOf PlacedName)) (a : Adding) → add_items c a (xs ++ ys) ≡ add_items c (add_items c a xs) ys
  unfolding add_items
  items_append [] ys a = refl
  items_append (x ∷ xs) ys a = items_append xs ys (add_item c a x)

-- ---- the list only grows

name_grows : (a : Adding) (there : Bool) (w : PlacedName) → length a.nodes ≤ length (add_name a there w).nodes
unfolding add_name
name_grows a there w = go (among plain_name w.text a.nodes)
  where
    go : (b : Bool) → length a.nodes ≤ length (cond b (so a.nodes there) (so (a.nodes ++ (w ∷ [])) true)).nodes
    go true = omega arith
    go false = omega (arith, length-append a.nodes (w ∷ []))

module _ (c : Bool) where
  item_grows : (a : Adding) (x : ItemOf PlacedName) → length a.nodes ≤ length (add_item c a x).nodes
  unfolding add_item
  item_grows a x = go (is_entry x.kind) (a.adding && is_sub c x.kind)
    where
      go : (b d : Bool) → length a.nodes ≤ length (cond b (add_name a c x.name) (cond d (add_name a true x.name) a)).nodes
      go true d = name_grows a c x.name
      go false true = name_grows a true x.name
      go false false = omega arith

  pub items_grow : (xs : List (ItemOf PlacedName)) (a : Adding) → length a.nodes ≤ length (add_items c a xs).nodes
  unfolding add_items
  items_grow [] a = omega arith
  items_grow (x ∷ xs) a = omega (arith, item_grows a x, items_grow xs (add_item c a x))

-- ---- a list of names of one kind

-- a name that is added if it is new, whatever comes of its submodules
name_added : (a : Adding) (w : PlacedName) → add_name a true w ≡ so (add_new plain_name a.nodes w) true
unfolding add_name
name_added a w = go (among plain_name w.text a.nodes)
  where
    go : (b : Bool) → cond b (so a.nodes true) (so (a.nodes ++ (w ∷ [])) true) ≡ so (cond b a.nodes (a.nodes ++ (w ∷ []))) true
    go true = refl
    go false = refl

module _ (c : Bool) where
  -- of a kind that is never added
  none_added : (k : Kind) → is_entry k ≡ false → is_sub c k ≡ false → (ws : List PlacedName) (a : Adding) → add_items c a (map (item k) ws) ≡ a
  unfolding add_items add_item
  none_added k e q [] a = refl
  none_added k e q (w ∷ ws) a = ap (λ (x : Adding). add_items c x (map (item k) ws)) (go (is_entry k) (is_sub c k) a.adding e q) ∙ none_added k e q ws a
    where
      go : (b d f : Bool) → b ≡ false → d ≡ false → cond b (add_name a c w) (cond (f && d) (add_name a true w) a) ≡ a
      go true d f p q = both_bools refl p
      go false true f p q = both_bools refl q
      go false false true p q = refl
      go false false false p q = refl

  -- submodules of an entry that was passed over
  subs_passed : (k : Kind) → is_entry k ≡ false → (ws : List PlacedName) (ns : List PlacedName) → add_items c (so ns false) (map (item k) ws) ≡ so ns false
  unfolding add_items add_item
  subs_passed k e [] ns = refl
  subs_passed k e (w ∷ ws) ns = ap (λ (x : Adding). add_items c x (map (item k) ws)) (go (is_entry k) e) ∙ subs_passed k e ws ns
    where
      go : (b : Bool) → b ≡ false → cond b (add_name (so ns false) c w) (so ns false) ≡ so ns false
      go true p = both_bools refl p
      go false p = refl

  -- submodules of an entry that was added, or is gone through all the same
  subs_added : (k : Kind) → is_entry k ≡ false → is_sub c k ≡ true → (ws : List PlacedName) (ns : List PlacedName)
      → add_items c (so ns true) (map (item k) ws) ≡ so (add_all plain_name ns ws) true
  unfolding add_items add_item add_all
  subs_added k e q [] ns = refl
  subs_added k e q (w ∷ ws) ns =
      ap (λ (x : Adding). add_items c x (map (item k) ws)) (go (is_entry k) (is_sub c k) e q ∙ name_added (so ns true) w)
      ∙ subs_added k e q ws (add_new plain_name ns w)
    where
      go : (b d : Bool) → b ≡ false → d ≡ true → cond b (add_name (so ns true) c w) (cond d (add_name (so ns true) true w) (so ns true))
          ≡ add_name (so ns true) true w
      go true d p q = both_bools refl p
      go false false p q = both_bools q refl
      go false true p q = refl

-- ---- an entry

abbrev group : PlacedName → List PlacedName → Group PlacedName
group w ws = record { head = w; subs = ws }

-- a name and submodules of a kind that is added are a group: all that they leave in the mode `complete`
whole_added : (k : Kind) → is_entry k ≡ false → is_sub true k ≡ true → (w : PlacedName) (ws : List PlacedName) (a : Adding)
    → add_items true (add_name a true w) (map (item k) ws) ≡ so (add_group plain_name complete a.nodes (group w ws)) true
unfolding add_all
whole_added k e q w ws a =
    ap (λ (x : Adding). add_items true x (map (item k) ws)) (name_added a w) ∙ subs_added true k e q ws (add_new plain_name a.nodes w)

-- and the nodes in each mode
group_added : (c : Bool) (k : Kind) → is_entry k ≡ false → is_sub c k ≡ true → (w : PlacedName) (ws : List PlacedName) (a : Adding)
    → (add_items c (add_name a c w) (map (item k) ws)).nodes ≡ add_group plain_name (mode_of c) a.nodes (group w ws)
unfolding add_name
group_added true k e q w ws a = ap nodes_in (whole_added k e q w ws a)
group_added false k e q w ws a = go (among plain_name w.text a.nodes)
  where
    go : (b : Bool)
        → (add_items false (cond b (so a.nodes false) (so (a.nodes ++ (w ∷ [])) true)) (map (item k) ws)).nodes
        ≡ cond b a.nodes (add_all plain_name (a.nodes ++ (w ∷ [])) ws)
    go true = ap nodes_in (subs_passed false k e ws a.nodes)
    go false = ap nodes_in (subs_added false k e q ws (a.nodes ++ (w ∷ [])))

-- a module
module_added : (c : Bool) (m : Module) (a : Adding) → (add_items c a (module_items m)).nodes ≡ add_group plain_name (mode_of c) a.nodes (module_group m)
unfolding add_items add_item
module_added c m a =
    ap nodes_in (items_append c (map (item submodule_kind) m.submodules) lists (add_name a c m.name) ∙ unlisted _)
    ∙ group_added c submodule_kind refl refl m.name m.submodules a
  where
    lists : List (ItemOf PlacedName)
    lists = map (item augmenting_kind) m.augmenting ++ map (item deviation_kind) m.deviations

    unlisted : (x : Adding) → add_items c x lists ≡ x
    unlisted x =
        items_append c (map (item augmenting_kind) m.augmenting) (map (item deviation_kind) m.deviations) x
        ∙ ap (λ (d : Adding). add_items c d (map (item deviation_kind) m.deviations)) (none_added c augmenting_kind refl refl m.augmenting x)
        ∙ none_added c deviation_kind refl refl m.deviations x

-- an import-only module, of which the later revisions find its name among the nodes

kept : (u : Name) (ws ns : List PlacedName) → among plain_name u ns ≡ true → among plain_name u (add_all plain_name ns ws) ≡ true
unfolding add_all
kept u [] ns h = h
kept u (w ∷ ws) ns h = kept u ws (add_new plain_name ns w) (go (among plain_name w.text ns))
  where
    go : (b : Bool) → among plain_name u (cond b ns (ns ++ (w ∷ []))) ≡ true
    go true = h
    go false = among_append plain_name u ns (w ∷ []) ∙ or_left (among plain_name u ns) _ h

last_among : (w : PlacedName) (ns : List PlacedName) → among plain_name w.text (ns ++ (w ∷ [])) ≡ true
unfolding among
last_among w ns =
    among_append plain_name w.text ns (w ∷ []) ∙ or_right (among plain_name w.text ns) _ (or_left (same w.text w.text) false (same_refl w.text))

head_among : (mode : Mode) (w : PlacedName) (ws ns : List PlacedName) → among plain_name w.text (add_group plain_name mode ns (group w ws)) ≡ true
unfolding add_all
head_among pass_over w ws ns = go (among plain_name w.text ns) refl
  where
    go : (b : Bool) → among plain_name w.text ns ≡ b → among plain_name w.text (cond b ns (add_all plain_name (ns ++ (w ∷ [])) ws)) ≡ true
    go true h = h
    go false h = kept w.text ws (ns ++ (w ∷ [])) (last_among w ns)
head_among complete w ws ns = kept w.text ws (add_new plain_name ns w) (go (among plain_name w.text ns) refl)
  where
    go : (b : Bool) → among plain_name w.text ns ≡ b → among plain_name w.text (cond b ns (ns ++ (w ∷ []))) ≡ true
    go true h = h
    go false h = last_among w ns

-- passed over
later_passed : (w : PlacedName) (rs : List (List PlacedName)) (ns : List PlacedName) → among plain_name w.text ns ≡ true
    → add_groups plain_name pass_over ns (map (group w) rs) ≡ ns
unfolding add_groups
later_passed w [] ns h = refl
later_passed w (r ∷ rs) ns h =
    ap (λ (b : Bool). add_groups plain_name pass_over (cond b ns (add_all plain_name (ns ++ (w ∷ [])) r)) (map (group w) rs)) h ∙ later_passed w rs ns h

later_none : (rs : List (List PlacedName)) (a : Adding) → add_items false a (later_items rs) ≡ a
unfolding flat_map add_items
later_none [] a = refl
later_none (r ∷ rs) a =
    items_append false (map (item later_sub_kind) r) (later_items rs) a
    ∙ ap (λ (x : Adding). add_items false x (later_items rs)) (none_added false later_sub_kind refl refl r a)
    ∙ later_none rs a

-- gone through
later_added : (w : PlacedName) (rs : List (List PlacedName)) (ns : List PlacedName) → among plain_name w.text ns ≡ true
    → (add_items true (so ns true) (later_items rs)).nodes ≡ add_groups plain_name complete ns (map (group w) rs)
unfolding flat_map add_items add_groups add_all
later_added w [] ns h = refl
later_added w (r ∷ rs) ns h =
    ap nodes_in (items_append true (map (item later_sub_kind) r) (later_items rs) (so ns true))
    ∙ ap (λ (x : Adding). (add_items true x (later_items rs)).nodes) (subs_added true later_sub_kind refl refl r ns)
    ∙ later_added w rs (add_all plain_name ns r) (kept w.text r ns h)
    ∙ ap (λ (b : Bool). add_groups plain_name complete (add_all plain_name (cond b ns (ns ++ (w ∷ []))) r) (map (group w) rs)) (sym h)

import_added : (c : Bool) (w : PlacedName) (r : List PlacedName) (rs : List (List PlacedName)) (a : Adding)
    → (add_items c a (import_items (record { name = w; revisions = r ∷ rs }))).nodes ≡ add_groups plain_name (mode_of c) a.nodes (map (group w) (r ∷ rs))
unfolding add_items add_item add_groups
import_added true w r rs a =
    ap nodes_in (items_append true (map (item first_sub_kind) r) (later_items rs) (add_name a true w))
    ∙ ap (λ (x : Adding). (add_items true x (later_items rs)).nodes) (whole_added first_sub_kind refl refl w r a)
    ∙ later_added w rs (add_group plain_name complete a.nodes (group w r)) (head_among complete w r a.nodes)
import_added false w r rs a =
    ap nodes_in (items_append false (map (item first_sub_kind) r) (later_items rs) (add_name a false w) ∙ later_none rs _)
    ∙ group_added false first_sub_kind refl refl w r a
    ∙ sym (later_passed w rs (add_group plain_name pass_over a.nodes (group w r)) (head_among pass_over w r a.nodes))

-- ---- the groups one after another

module _ (c : Bool) where
  abbrev grouped : List PlacedName → List (Group PlacedName) → List PlacedName
  grouped ns gs = add_groups plain_name (mode_of c) ns gs

  groups_append : (gs hs : List (Group PlacedName)) (ns : List PlacedName) → grouped ns (gs ++ hs) ≡ grouped (grouped ns gs) hs
  unfolding add_groups
  groups_append [] hs ns = refl
  groups_append (g ∷ gs) hs ns = groups_append gs hs (add_group plain_name (mode_of c) ns g)

  -- items that add their groups, one list behind another
  each_added : {B : Type 0} (f : B → List (ItemOf PlacedName)) (g : B → List (Group PlacedName)) (bs : List B)
      → ((b : B) → Memᴰ b bs → (a : Adding) → (add_items c a (f b)).nodes ≡ grouped a.nodes (g b)) → (a : Adding)
      → (add_items c a (flat_map f bs)).nodes ≡ grouped a.nodes (flat_map g bs)
  unfolding flat_map add_items add_groups
  each_added f g [] h a = refl
  each_added f g (b ∷ bs) h a =
      ap nodes_in (items_append c (f b) (flat_map f bs) a)
      ∙ each_added f g bs (λ x m. h x (Memᴰ.tail m)) (add_items c a (f b))
      ∙ ap (λ (ns : List PlacedName). grouped ns (flat_map g bs)) (h b (Memᴰ.head refl) a)
      ∙ sym (groups_append (g b) (flat_map g bs) a.nodes)

  modules_added : (ms : List Module) (a : Adding) → (add_items c a (flat_map module_items ms)).nodes ≡ grouped a.nodes (map module_group ms)
  unfolding flat_map add_items add_groups
  modules_added [] a = refl
  modules_added (m ∷ ms) a =
      ap nodes_in (items_append c (module_items m) (flat_map module_items ms) a)
      ∙ modules_added ms (add_items c a (module_items m))
      ∙ ap (λ (ns : List PlacedName). grouped ns (map module_group ms)) (module_added c m a)

  -- an import-only module that has a revision
  abbrev OneRevised : ImportOnly → Type 0
  OneRevised i = (subs : List Name) × Memᴰ subs (map (map plain_name) i.revisions)

  revised_added : (i : ImportOnly) → OneRevised i → (a : Adding) → (add_items c a (import_items i)).nodes ≡ grouped a.nodes (revision_groups i)
  revised_added i h a = go i.revisions h.1
    where
      go : (rs : List (List PlacedName)) → Memᴰ h.0 (map (map plain_name) rs)
          → (add_items c a (import_items (record { name = i.name; revisions = rs }))).nodes ≡ grouped a.nodes (map (group i.name) rs)
      go [] m = absurd (Memᴰ.not-nil m)
      go (r ∷ rs) m = import_added c i.name r rs a

  set_added : (s : ModuleSet) → ((i : ImportOnly) → Memᴰ i s.import_only → OneRevised i) → (a : Adding)
      → (add_items c a (set_items s)).nodes ≡ grouped a.nodes (set_groups s)
  set_added s h a =
      ap nodes_in (items_append c (flat_map module_items s.modules) (flat_map import_items s.import_only) a)
      ∙ each_added import_items revision_groups s.import_only (λ i m. revised_added i (h i m)) (add_items c a (flat_map module_items s.modules))
      ∙ ap (λ (ns : List PlacedName). grouped ns (flat_map revision_groups s.import_only)) (modules_added s.modules a)
      ∙ sym (groups_append (map module_group s.modules) (flat_map revision_groups s.import_only) a.nodes)

  -- the nodes of a library
  pub added : (l : Library) → Revised (plain l) → (add_items c (so [] false) (items_of l)).nodes ≡ word_nodes (mode_of c) l
  unfolding items_of nodes_by
  added l revised =
      each_added set_items set_groups l
      (λ s k. set_added s (λ i m. revised (plain_import_only i) (import_only_in (plain l) (Memᴰ.map plain_set k) (Memᴰ.map plain_import_only m))))
      (so [] false)
