-- The nodes of an image carry the place and length of their own bytes: each item is read where it stands, and nodes are taken from the items.
-- Assumes nothing.
use Prim.Native.Nat.{ℕ, zero, suc}
use mathlib.Core.Path.{◌≡◌, refl, sym, ap, ◌∙◌, subst}
use mathlib.Core.Logic.{⊎_elim}
use mathlib.Core.Bool.{Bool, true, false, cond, ◌&&◌}
use mathlib.Core.List.Memᴰ
use mathlib.Core.List.{List, [], ◌∷◌, ◌++◌, map, Memᴰ}
use Rattle.library_form.specs.Form.{Ans, good, PlacedName, name_at}
use Rattle.library_form.specs.Writer.{AllBytes}
use Rattle.library_form.proofs.Bounds.{opened}
use Rattle.library_index.specs.Names.{among}
use Rattle.library_image.specs.Image.{image_at, count_at}
use Rattle.library_image.specs.Library.{plain_name}
use Rattle.library_image.proofs.ImageLaws.{accepted}
use Rattle.library_image.proofs.Steps.{on_good, carry}
use Rattle.library_items.specs.declared.Kind.{Kind}
use Rattle.library_items.specs.Items.{ItemOf, items_of, library_of}
use Rattle.library_items.specs.Table.{Items, and_then, each, each_counted, name_read, list_read, lists_read, revisions_read, entry_read, entries_read, set_read}
use Rattle.library_items.specs.Table.{sets_read, Reads}
use Rattle.library_items.proofs.Told.{library_told}
use Rattle.graph_nodes.specs.Adding.{Adding, so, is_entry, is_sub, add_name, add_item, add_items, plain_at, words_at}
use Rattle.graph_nodes.proofs.Gathering.{added}
use Rattle.graph.specs.Nodes.{Mode, pass_over, complete, mode_of, nodes_of}
use Rattle.graph_build.proofs.Outcome.{nodes_named, image_here, revised_here}
use Rattle.demands.specs.Demand3.{name_of}

module _ (s : List ℕ) where
  abbrev AllStand : List PlacedName → Type 0
  AllStand ws = (w : PlacedName) → Memᴰ w ws → name_of s w ≡ w.text

  none_stand : AllStand []
  none_stand w m = absurd (Memᴰ.not-nil m)

  and_stand : {ws : List PlacedName} (w : PlacedName) → AllStand ws → name_of s w ≡ w.text → AllStand (ws ++ (w ∷ []))
  and_stand {ws} w f e v m =
      ⊎_elim (f v) (λ n. subst (λ u. name_of s u ≡ u.text) (sym (Memᴰ.eq_of_singleton n)) e) (Memᴰ.append_cases ws m)

  -- ---- items are read where they stand

  abbrev Standing : Items → Type 0
  Standing xs = (x : ItemOf PlacedName) → Memᴰ x xs → name_of s x.name ≡ x.name.text

  -- whatever is read stands there
  abbrev Sure : Ans Items → Type 0
  Sure r = (xs : Items) (n : ℕ) → r ≡ good xs n → Standing xs

  then_sure : (r : Ans Items) (f : ℕ → Ans Items) → Sure r → ((n : ℕ) → Sure (f n)) → Sure (and_then r f)
  then_sure r f g h zs k e =
      on_good r _ e (λ xs n e₁ f₁.
      on_good (f n) _ f₁ (λ ys m e₂ f₂.
      carry (λ v j. Standing v) f₂ (λ x o. ⊎_elim (g xs n e₁ x) (h n ys m e₂ x) (Memᴰ.append_cases xs o))))

  each_sure : (f : ℕ → Ans Items) → ((n : ℕ) → Sure (f n)) → (c at : ℕ) → Sure (each f c at)
  unfolding each
  each_sure f h zero at xs n e = carry (λ v j. Standing v) e (λ x m. absurd (Memᴰ.not-nil m))
  each_sure f h (suc c) at xs n e = then_sure (f at) (λ n. each f c n) (h at) (λ n. each_sure f h c n) xs n e

  counted_sure : (least most : ℕ) (f : ℕ → Ans Items) → ((n : ℕ) → Sure (f n)) → (at : ℕ) → Sure (each_counted least most f s at)
  unfolding each_counted
  counted_sure least most f h at xs n e = on_good (count_at least most s at) _ e (λ c m e₁ e₂. each_sure f h c m xs n e₂)

  name_sure : (k : Kind) (at : ℕ) → Sure (name_read k s at)
  unfolding name_read
  name_sure k at xs n e =
      on_good (name_at s at) _ e (λ w m e₁ e₂.
      let q : name_of s w ≡ w.text = subst (λ (v : PlacedName). name_of s v ≡ v.text) (opened s at e₁).word refl in
      carry (λ v j. Standing v) e₂ (λ x o. subst (λ (y : ItemOf PlacedName). name_of s y.name ≡ y.name.text) (sym (Memᴰ.eq_of_singleton o)) q))

  list_sure : (k : Kind) (at : ℕ) → Sure (list_read k s at)
  unfolding list_read
  list_sure k at = counted_sure 0 _ (name_read k s) (name_sure k) at

  lists_sure : (at : ℕ) → Sure (lists_read s at)
  unfolding lists_read
  lists_sure at = then_sure (list_read _ s at) _ (list_sure _ at) (λ n. then_sure (list_read _ s n) (list_read _ s) (list_sure _ n) (list_sure _))

  revisions_sure : (at : ℕ) → Sure (revisions_read s at)
  unfolding revisions_read
  revisions_sure at xs n e =
      on_good (count_at _ _ s at) _ e (λ c m e₁ e₂.
      then_sure (list_read _ s m) _ (list_sure _ m) (λ j. each_sure (list_read _ s) (list_sure _) _ j) xs n e₂)

  entry_sure : (import_only : Bool) (at : ℕ) → Sure (entry_read import_only s at)
  unfolding entry_read
  entry_sure true at = then_sure (name_read _ s at) (revisions_read s) (name_sure _ at) revisions_sure
  entry_sure false at = then_sure (name_read _ s at) (lists_read s) (name_sure _ at) lists_sure

  entries_sure : (import_only : Bool) (at : ℕ) → Sure (entries_read import_only s at)
  unfolding entries_read
  entries_sure b at = counted_sure 0 _ (entry_read b s) (entry_sure b) at

  sets_sure : Sure (sets_read s 0)
  unfolding sets_read set_read
  sets_sure = counted_sure 0 _ (set_read s) (λ n. then_sure (entries_read false s n) (entries_read true s) (entries_sure false n) (entries_sure true)) 0

  -- ---- nodes are names of items

  name_added : (a : Adding) (there : Bool) (w : PlacedName) → AllStand a.nodes → name_of s w ≡ w.text → AllStand (add_name a there w).nodes
  unfolding add_name
  name_added a there w f e = go (among plain_name w.text a.nodes)
    where
      go : (t : Bool) → AllStand (cond t (so a.nodes there) (so (a.nodes ++ (w ∷ [])) true)).nodes
      go true = f
      go false = and_stand w f e

  item_added : (c : Bool) (a : Adding) (x : ItemOf PlacedName) → AllStand a.nodes → name_of s x.name ≡ x.name.text → AllStand (add_item c a x).nodes
  unfolding add_item
  item_added c a x f e = go (is_entry x.kind) (a.adding && is_sub c x.kind)
    where
      go : (t u : Bool) → AllStand (cond t (add_name a c x.name) (cond u (add_name a true x.name) a)).nodes
      go true u = name_added a c x.name f e
      go false true = name_added a true x.name f e
      go false false = f

  items_added : (c : Bool) (xs : Items) (a : Adding) → AllStand a.nodes → Standing xs → AllStand (add_items c a xs).nodes
  unfolding add_items
  items_added c [] a f h = f
  items_added c (x ∷ xs) a f h = items_added c xs (add_item c a x) (item_added c a x f (h x (Memᴰ.head refl))) (λ y m. h y (Memᴰ.tail m))

  module _ (bytes : AllBytes s) (reads : Reads (image_at s)) where
    gathered_stand : (c : Bool) → AllStand (words_at (mode_of c) s)
    unfolding words_at
    gathered_stand c =
        let e : sets_read s 0 ≡ good (items_of reads.value) reads.end = library_told s 0 (accepted s reads.read).read in
        let h : Standing (items_of (library_of s))
        = subst (λ l. Standing (items_of l)) (sym (image_here s reads)) (sets_sure (items_of reads.value) reads.end e) in
        subst AllStand (added c (library_of s) (revised_here s reads bytes)) (items_added c (items_of (library_of s)) (so [] false) none_stand h)

    words_stand : (mode : Mode) → AllStand (words_at mode s)
    words_stand pass_over = gathered_stand false
    words_stand complete = gathered_stand true

    -- read from the bytes at place and length, the names are the nodes of the library
    pub names_read : (mode : Mode) → map (name_of s) (words_at mode s) ≡ nodes_of mode (plain_at s)
    names_read mode = go (words_at mode s) (words_stand mode) ∙ nodes_named mode s
      where
        go : (ws : List PlacedName) → AllStand ws → map (name_of s) ws ≡ map plain_name ws
        go [] f = refl
        go (w ∷ ws) f = ap (λ x. x ∷ map (name_of s) ws) (f w (Memᴰ.head refl)) ∙ ap (λ l. w.text ∷ l) (go ws (λ v m. f v (Memᴰ.tail m)))
