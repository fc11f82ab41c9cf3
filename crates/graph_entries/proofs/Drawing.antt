-- Going through the items of a library is going through its entries: a module's item is followed by what it lists, which is linked one after another;
-- items of submodules ask for nothing.
-- Assumes nothing.
use Prim.Native.Nat.{ℕ, ◌+◌}
use mathlib.Core.Path.{◌≡◌, refl, sym, ap, ap₂, ◌∙◌}
use mathlib.Core.Bool.{Bool, true, false, cond}
use mathlib.Core.List.{List, [], ◌∷◌, ◌++◌, map, map-append, flat_map, append-nil, append_assoc}
use Rattle.library_form.specs.Form.{PlacedName}
use Rattle.library_image.specs.Library.{Name, Module, ImportOnly, ModuleSet, plain_name, plain_module, plain_import_only, plain_set}
use Rattle.library_items.specs.Items.{module_kind, submodule_kind, augmenting_kind, deviation_kind, import_only_kind, first_sub_kind, later_sub_kind, ItemOf, item}
use Rattle.library_items.specs.Items.{module_items, later_items, revision_items, import_items, set_items, items_of, library_of, items_at}
use Rattle.library_items.specs.declared.Kind.{Kind}
use Rattle.graph.specs.Graph.{ScanAnswer, no_entry_text, deepest, Entry, module_entry, import_entry, set_entries, entries, Out, built, refused, then_o, on_out}
use Rattle.graph.specs.Numbers.{Row, number_of, Codes, module_code, each_o, given_code, walk_codes, walk_entry_codes, Drawing, faulty, EntryCode, draw_from, codes_at}
use Rattle.graph.specs.Numbers.{entry_code, drawing_in}
use Rattle.graph.specs.Limits.{most_edges}
use Rattle.graph.proofs.Rowing.{each_append}
use Rattle.graph_nodes.specs.Adding.{is_entry, plain_at}
use Rattle.graph_marks.specs.Marks.{known_at}
use Rattle.graph_visit.specs.Visit.{world_of, codes_here}
use Rattle.graph_entries.specs.Entries.{is_listed, item_walk, draw_items}

-- ---- one after another

out_same : {F : Type 0} (o : Out Row) (f g : List Row → F) (h : ℕ → ScanAnswer → F) → ((rs : List Row) → f rs ≡ g rs) → on_out o f h ≡ on_out o g h
out_same (built rs) f g h e = e rs
out_same (refused n a) f g h e = refl

out_then : {F : Type 0} (o : Out Row) (k : List Row → Out Row) (f : List Row → F) (h : ℕ → ScanAnswer → F)
    → on_out (then_o o k) f h ≡ on_out o (λ rs. on_out (k rs) f h) h
out_then (built rs) k f h = refl
out_then (refused n a) k f h = refl

module _ (s b : List ℕ) (ns : List Name) where
  abbrev code : Name → ℕ
  code u = module_code (world_of s b ns) ns u

  abbrev entry : Entry → EntryCode
  entry e = entry_code (world_of s b ns) ns e

  abbrev under : ℕ → Codes
  under v = codes_at (world_of s b ns) ns v

  known_code : (u : Name) → known_at s ns u ≡ code u
  unfolding known_at world_of
  known_code u = refl

  -- ---- one item: an entry, one that is listed, or neither

  abbrev asked : (entry listed : Bool) → (k v : ℕ) → List Row → PlacedName → List (ItemOf PlacedName) → Drawing
  asked e l k v rs w xs =
      on_out
      (cond e (walk_codes (codes_here s b ns) most_edges deepest no_entry_text (number_of ns w.text) rs)
      (cond l (given_code most_edges v (known_at s ns w.text) rs) (built rs)))
      (λ rs₁. draw_items s b ns (cond e (k + 1) k) (cond e (number_of ns w.text) v) rs₁ xs) (λ n a. faulty n (cond e (k + 1) k) a)

  asks : (j : Kind) {e l : Bool} → is_entry j ≡ e → is_listed j ≡ l → (k v : ℕ) (rs : List Row) (w : PlacedName) (xs : List (ItemOf PlacedName))
      → draw_items s b ns k v rs (item j w ∷ xs) ≡ asked e l k v rs w xs
  unfolding draw_items item_walk
  asks j p q k v rs w xs = ap₂ (λ e l. asked e l k v rs w xs) p q

  -- ---- items that ask for nothing

  silent : (j : Kind) (k v : ℕ) (rs : List Row) → is_entry j ≡ false → is_listed j ≡ false → (ws : List PlacedName) (xs : List (ItemOf PlacedName))
      → draw_items s b ns k v rs (map (item j) ws ++ xs) ≡ draw_items s b ns k v rs xs
  silent j k v rs p q [] xs = refl
  silent j k v rs p q (w ∷ ws) xs = asks j p q k v rs w (map (item j) ws ++ xs) ∙ silent j k v rs p q ws xs

  later_silent : (k v : ℕ) (rs : List Row) (ls : List (List PlacedName)) (xs : List (ItemOf PlacedName))
      → draw_items s b ns k v rs (later_items ls ++ xs) ≡ draw_items s b ns k v rs xs
  unfolding flat_map
  later_silent k v rs [] xs = refl
  later_silent k v rs (l ∷ ls) xs =
      ap (draw_items s b ns k v rs) (append_assoc (map (item later_sub_kind) l) (later_items ls) xs)
      ∙ (silent later_sub_kind k v rs refl refl l (later_items ls ++ xs) ∙ later_silent k v rs ls xs)

  revisions_silent : (k v : ℕ) (rs : List Row) (ls : List (List PlacedName)) (xs : List (ItemOf PlacedName))
      → draw_items s b ns k v rs (revision_items ls ++ xs) ≡ draw_items s b ns k v rs xs
  revisions_silent k v rs [] xs = refl
  revisions_silent k v rs (l ∷ ls) xs =
      ap (draw_items s b ns k v rs) (append_assoc (map (item first_sub_kind) l) (later_items ls) xs)
      ∙ (silent first_sub_kind k v rs refl refl l (later_items ls ++ xs) ∙ later_silent k v rs ls xs)

  -- ---- items that are linked

  abbrev linked : (v : ℕ) → List PlacedName → List Row → Out Row
  linked v ws rs = each_o (given_code most_edges v) (map code (map plain_name ws)) rs

  listed : (j : Kind) (k v : ℕ) → is_entry j ≡ false → is_listed j ≡ true → (ws : List PlacedName) (xs : List (ItemOf PlacedName)) (rs : List Row)
      → draw_items s b ns k v rs (map (item j) ws ++ xs) ≡ on_out (linked v ws rs) (λ rs₁. draw_items s b ns k v rs₁ xs) (λ n a. faulty n k a)
  unfolding each_o
  listed j k v p q [] xs rs = refl
  listed j k v p q (w ∷ ws) xs rs =
      asks j p q k v rs w (map (item j) ws ++ xs)
      ∙ (ap (λ c. on_out (given_code most_edges v c rs) (λ rs₁. draw_items s b ns k v rs₁ (map (item j) ws ++ xs)) (λ n a. faulty n k a)) (known_code w.text)
      ∙ (out_same (given_code most_edges v (code w.text) rs) _ _ (λ n a. faulty n k a) (listed j k v p q ws xs)
      ∙ sym (out_then (given_code most_edges v (code w.text) rs) (linked v ws) (λ rs₁. draw_items s b ns k v rs₁ xs) (λ n a. faulty n k a))))

  -- ---- an entry

  -- items and entries that draw the same, whatever comes behind
  abbrev Draws : List (ItemOf PlacedName) → List Entry → Type 0
  Draws xs es = (ys : List (ItemOf PlacedName)) (fs : List Entry)
      → ((k v : ℕ) (rs : List Row) → draw_items s b ns k v rs ys ≡ draw_from under most_edges (k + 1) rs (map entry fs))
      → (k v : ℕ) (rs : List Row) → draw_items s b ns k v rs (xs ++ ys) ≡ draw_from under most_edges (k + 1) rs (map entry (es ++ fs))

  -- what comes behind an entry's item is what it lists
  entry_draws : (j : Kind) (w : PlacedName) (us : List Name) (xs : List (ItemOf PlacedName)) → is_entry j ≡ true
      → ((k : ℕ) (ys : List (ItemOf PlacedName)) (rs : List Row) → draw_items s b ns k (number_of ns w.text) rs (xs ++ ys)
      ≡ on_out (each_o (given_code most_edges (number_of ns w.text)) (map code us) rs) (λ rs₁. draw_items s b ns k (number_of ns w.text) rs₁ ys)
      (λ n a. faulty n k a))
      → Draws (item j w ∷ xs) (record { name = w.text; lists = us } ∷ [])
  unfolding codes_here draw_from walk_entry_codes
  entry_draws j w us xs p behind ys fs h k v rs =
      asks j p refl k v rs w (xs ++ ys)
      ∙ (out_same walked _ _ (λ n a. faulty n (k + 1) a) (λ rs₁. behind (k + 1) ys rs₁
      ∙ out_same (each_o (given_code most_edges node) (map code us) rs₁) _ _ (λ n a. faulty n (k + 1) a) (h (k + 1) node))
      ∙ sym (out_then walked (each_o (given_code most_edges node) (map code us)) (λ rs₁. draw_from under most_edges (k + 1 + 1) rs₁ (map entry fs))
      (λ n a. faulty n (k + 1) a)))
    where
      node : ℕ
      node = number_of ns w.text

      walked : Out Row
      walked = walk_codes under most_edges deepest no_entry_text node rs

  module_draws : (m : Module) → Draws (module_items m) (module_entry (plain_module m) ∷ [])
  module_draws m =
      entry_draws module_kind m.name (map plain_name m.augmenting ++ map plain_name m.deviations) (subs ++ (augs ++ devs)) refl lists
    where
      subs : List (ItemOf PlacedName)
      subs = map (item submodule_kind) m.submodules

      augs : List (ItemOf PlacedName)
      augs = map (item augmenting_kind) m.augmenting

      devs : List (ItemOf PlacedName)
      devs = map (item deviation_kind) m.deviations

      node : ℕ
      node = number_of ns m.name.text

      joined : (rs : List Row) → each_o (given_code most_edges node) (map code (map plain_name m.augmenting ++ map plain_name m.deviations)) rs
          ≡ then_o (linked node m.augmenting rs) (linked node m.deviations)
      joined rs =
          ap (λ cs. each_o (given_code most_edges node) cs rs) (map-append code (map plain_name m.augmenting) (map plain_name m.deviations))
          ∙ each_append (given_code most_edges node) (map code (map plain_name m.augmenting)) (map code (map plain_name m.deviations)) rs

      lists : (k : ℕ) (ys : List (ItemOf PlacedName)) (rs : List Row) → draw_items s b ns k node rs ((subs ++ (augs ++ devs)) ++ ys)
          ≡ on_out (each_o (given_code most_edges node) (map code (map plain_name m.augmenting ++ map plain_name m.deviations)) rs)
          (λ rs₁. draw_items s b ns k node rs₁ ys) (λ n a. faulty n k a)
      lists k ys rs =
          ap (draw_items s b ns k node rs) (append_assoc subs (augs ++ devs) ys ∙ ap (λ xs. subs ++ xs) (append_assoc augs devs ys))
          ∙ (silent submodule_kind k node rs refl refl m.submodules (augs ++ (devs ++ ys))
          ∙ (listed augmenting_kind k node refl refl m.augmenting (devs ++ ys) rs
          ∙ (out_same (linked node m.augmenting rs) _ _ (λ n a. faulty n k a) (listed deviation_kind k node refl refl m.deviations ys)
          ∙ (sym (out_then (linked node m.augmenting rs) (linked node m.deviations) (λ rs₁. draw_items s b ns k node rs₁ ys) (λ n a. faulty n k a))
          ∙ ap (λ o. on_out o (λ rs₁. draw_items s b ns k node rs₁ ys) (λ n a. faulty n k a)) (sym (joined rs))))))

  import_draws : (i : ImportOnly) → Draws (import_items i) (import_entry (plain_import_only i) ∷ [])
  unfolding each_o
  import_draws i =
      entry_draws import_only_kind i.name [] (revision_items i.revisions) refl
      (λ k ys rs. revisions_silent k (number_of ns i.name.text) rs i.revisions ys)

  -- ---- all of them

  draws_append : (xs ys : List (ItemOf PlacedName)) (es fs : List Entry) → Draws xs es → Draws ys fs → Draws (xs ++ ys) (es ++ fs)
  draws_append xs ys es fs f g zs hs h k v rs =
      ap (draw_items s b ns k v rs) (append_assoc xs ys zs)
      ∙ (f (ys ++ zs) (fs ++ hs) (g zs hs h) k v rs ∙ ap (λ l. draw_from under most_edges (k + 1) rs (map entry l)) (sym (append_assoc es fs hs)))

  each_draws : {A B : Type 0} (f : A → List (ItemOf PlacedName)) (p : A → B) (g : B → Entry) → ((a : A) → Draws (f a) (g (p a) ∷ []))
      → (l : List A) → Draws (flat_map f l) (map g (map p l))
  unfolding flat_map
  each_draws f p g h [] = λ ys fs e. e
  each_draws f p g h (a ∷ l) = draws_append (f a) (flat_map f l) (g (p a) ∷ []) (map g (map p l)) (h a) (each_draws f p g h l)

  set_draws : (x : ModuleSet) → Draws (set_items x) (set_entries (plain_set x))
  set_draws x =
      draws_append (flat_map module_items x.modules) (flat_map import_items x.import_only)
      (map module_entry (map plain_module x.modules)) (map import_entry (map plain_import_only x.import_only))
      (each_draws module_items plain_module module_entry module_draws x.modules)
      (each_draws import_items plain_import_only import_entry import_draws x.import_only)

  sets_draw : (l : List ModuleSet) → Draws (flat_map set_items l) (entries (map plain_set l))
  unfolding flat_map
  sets_draw [] = λ ys fs e. e
  sets_draw (x ∷ l) = draws_append (set_items x) (flat_map set_items l) (set_entries (plain_set x)) (entries (map plain_set l)) (set_draws x) (sets_draw l)

  pub items_drawn : draw_items s b ns 0 0 [] (items_at s) ≡ drawing_in (world_of s b ns) ns most_edges (entries (plain_at s))
  unfolding items_of drawing_in draw_items draw_from
  items_drawn =
      ap (draw_items s b ns 0 0 []) (sym (append-nil (flat_map set_items (library_of s))))
      ∙ (sets_draw (library_of s) [] [] (λ k v rs. refl) 0 0 []
      ∙ ap (λ l. draw_from under most_edges 1 [] (map entry l)) (append-nil (entries (plain_at s))))
