-- The nodes: their names differ, each module and import-only module is one, and where each name stands once they are all names. A name is added only if
-- it is not there, a group is passed over only if its head is there, and nothing is taken away.
-- Assumes nothing.
use mathlib.Core.Path.{◌≡◌, refl, sym, ap, ◌∙◌, subst}
use mathlib.Core.List.Memᴰ
use mathlib.Core.List.{List, [], ◌∷◌, ◌++◌, map, flat_map, Memᴰ}
use mathlib.Core.List.{Nodup}
use mathlib.Core.List.{Nodup-nil, concat-eq-append, append_assoc, append-nil, map-append}
use mathlib.Core.Logic.{◌⊎◌, inl, inr, ⊎_elim, ∥∥₁_elim}
use mathlib.Core.HLevel.{⊥_prop}
use mathlib.Core.Bool.{Bool, true, false, cond}
use mathlib.Mathlib.Data.List.Nodup.{concat as nodup-snoc, of_append_left, disjoint}
use Prim.Native.Nat.{◌≤◌}
use native.Mathlib.Omega.{arith}
use lib.ListN.{length, length-append}
use Rattle.library_image.specs.Library.{Name, PlainModule, PlainImportOnly, PlainSet, PlainLibrary, modules_of, import_only_of}
use Rattle.library_index.specs.Names.{among, add_new, add_all}
use Rattle.library_index.proofs.First.{among_map}
use Rattle.graph.specs.Nodes.{Mode, pass_over, complete, Group, module_group, revision_groups, set_groups, groups, add_group, add_groups, nodes_by, itself}
use Rattle.graph.specs.Nodes.{nodes_of, memb}
use Rattle.graph.specs.Graph.{entry_names}
use Rattle.graph.specs.Meaning.{Revised}
use Rattle.graph.specs.Demand3.{group_names, all_names}
use Rattle.graph.proofs.Tests.{both_bools, memb_mem, mem_memb, each_in, each_out}
use Rattle.graph.proofs.Sets.{module_in, module_out, import_only_in, import_only_out}

-- ---- one more name

snoc_nodup : (ns : List Name) (w : Name) → memb w ns ≡ false → Nodup ns → Nodup (ns ++ (w ∷ []))
snoc_nodup ns w q d = subst (λ l. Nodup l) (concat-eq-append ns w) (nodup-snoc (λ m. ∥∥₁_elim m ⊥_prop (λ n. both_bools (mem_memb n) q)) d)

snoc_only : (ns : List Name) (w v : Name) → Memᴰ v (ns ++ (w ∷ [])) → Memᴰ v ns ⊎ (v ≡ w)
snoc_only ns w v m = ⊎_elim (λ o. inl o) (λ n. inr (Memᴰ.eq_of_singleton n)) (Memᴰ.append_cases ns m)

add_nodup : (ns : List Name) (w : Name) → Nodup ns → Nodup (add_new itself ns w)
add_nodup ns w d = go (memb w ns) refl
  where
    go : (t : Bool) → memb w ns ≡ t → Nodup (cond t ns (ns ++ (w ∷ [])))
    go true q = d
    go false q = snoc_nodup ns w q d

add_kept : (ns : List Name) (w v : Name) → Memᴰ v ns → Memᴰ v (add_new itself ns w)
add_kept ns w v m = go (memb w ns)
  where
    go : (t : Bool) → Memᴰ v (cond t ns (ns ++ (w ∷ [])))
    go true = m
    go false = Memᴰ.append_left (w ∷ []) m

add_new_lem : (ns : List Name) (w : Name) → Memᴰ w (add_new itself ns w)
add_new_lem ns w = go (memb w ns) refl
  where
    go : (t : Bool) → memb w ns ≡ t → Memᴰ w (cond t ns (ns ++ (w ∷ [])))
    go true q = memb_mem w ns q
    go false q = Memᴰ.append_right ns (Memᴰ.head refl)

add_only : (ns : List Name) (w v : Name) → Memᴰ v (add_new itself ns w) → Memᴰ v ns ⊎ (v ≡ w)
add_only ns w v m = go (memb w ns) m
  where
    go : (t : Bool) → Memᴰ v (cond t ns (ns ++ (w ∷ []))) → Memᴰ v ns ⊎ (v ≡ w)
    go true m = inl m
    go false m = snoc_only ns w v m

-- ---- a list of names

names_nodup : (ws ns : List Name) → Nodup ns → Nodup (add_all itself ns ws)
unfolding add_all
names_nodup [] ns d = d
names_nodup (w ∷ ws) ns d = names_nodup ws (add_new itself ns w) (add_nodup ns w d)

names_kept : (ws ns : List Name) (v : Name) → Memᴰ v ns → Memᴰ v (add_all itself ns ws)
unfolding add_all
names_kept [] ns v m = m
names_kept (w ∷ ws) ns v m = names_kept ws (add_new itself ns w) v (add_kept ns w v m)

pub names_new : (ws ns : List Name) (v : Name) → Memᴰ v ws → Memᴰ v (add_all itself ns ws)
unfolding add_all
names_new [] ns v m = absurd (Memᴰ.not-nil m)
names_new (w ∷ ws) ns v m =
    ⊎_elim (λ p. names_kept ws (add_new itself ns w) v (Memᴰ.cast p (add_new_lem ns w))) (λ n. names_new ws (add_new itself ns w) v n) (Memᴰ.cases_cons m)

names_only : (ws ns : List Name) (v : Name) → Memᴰ v (add_all itself ns ws) → Memᴰ v ns ⊎ Memᴰ v ws
unfolding add_all
names_only [] ns v m = inl m
names_only (w ∷ ws) ns v m =
    ⊎_elim
    (λ o. ⊎_elim (λ k. inl k) (λ p. inr (Memᴰ.head p)) (add_only ns w v o))
    (λ n. inr (Memᴰ.tail n))
    (names_only ws (add_new itself ns w) v m)

-- ---- a group

group_nodup : (mode : Mode) (ns : List Name) (g : Group Name) → Nodup ns → Nodup (add_group itself mode ns g)
group_nodup pass_over ns g d = go (memb g.head ns) refl
  where
    go : (t : Bool) → memb g.head ns ≡ t → Nodup (cond t ns (add_all itself (ns ++ (g.head ∷ [])) g.subs))
    go true q = d
    go false q = names_nodup g.subs (ns ++ (g.head ∷ [])) (snoc_nodup ns g.head q d)
group_nodup complete ns g d = names_nodup (g.head ∷ g.subs) ns d

group_kept : (mode : Mode) (ns : List Name) (g : Group Name) (v : Name) → Memᴰ v ns → Memᴰ v (add_group itself mode ns g)
group_kept pass_over ns g v m = go (memb g.head ns)
  where
    go : (t : Bool) → Memᴰ v (cond t ns (add_all itself (ns ++ (g.head ∷ [])) g.subs))
    go true = m
    go false = names_kept g.subs (ns ++ (g.head ∷ [])) v (Memᴰ.append_left (g.head ∷ []) m)
group_kept complete ns g v m = names_kept (g.head ∷ g.subs) ns v m

group_head : (mode : Mode) (ns : List Name) (g : Group Name) → Memᴰ g.head (add_group itself mode ns g)
group_head pass_over ns g = go (memb g.head ns) refl
  where
    go : (t : Bool) → memb g.head ns ≡ t → Memᴰ g.head (cond t ns (add_all itself (ns ++ (g.head ∷ [])) g.subs))
    go true q = memb_mem g.head ns q
    go false q = names_kept g.subs (ns ++ (g.head ∷ [])) g.head (Memᴰ.append_right ns (Memᴰ.head refl))
group_head complete ns g = names_new (g.head ∷ g.subs) ns g.head (Memᴰ.head refl)

group_only : (mode : Mode) (ns : List Name) (g : Group Name) (v : Name) → Memᴰ v (add_group itself mode ns g)
    → Memᴰ v ns ⊎ Memᴰ v (group_names g)
group_only pass_over ns g v m = go (memb g.head ns) m
  where
    go : (t : Bool) → Memᴰ v (cond t ns (add_all itself (ns ++ (g.head ∷ [])) g.subs)) → Memᴰ v ns ⊎ Memᴰ v (group_names g)
    go true m = inl m
    go false m =
        ⊎_elim
        (λ o. ⊎_elim (λ k. inl k) (λ p. inr (Memᴰ.head p)) (snoc_only ns g.head v o))
        (λ n. inr (Memᴰ.tail n))
        (names_only g.subs (ns ++ (g.head ∷ [])) v m)
group_only complete ns g v m = names_only (g.head ∷ g.subs) ns v m

-- ---- all groups

groups_nodup : (mode : Mode) (gs : List (Group Name)) (ns : List Name) → Nodup ns → Nodup (add_groups itself mode ns gs)
unfolding add_groups
groups_nodup mode [] ns d = d
groups_nodup mode (g ∷ gs) ns d = groups_nodup mode gs (add_group itself mode ns g) (group_nodup mode ns g d)

groups_kept : (mode : Mode) (gs : List (Group Name)) (ns : List Name) (v : Name) → Memᴰ v ns → Memᴰ v (add_groups itself mode ns gs)
unfolding add_groups
groups_kept mode [] ns v m = m
groups_kept mode (g ∷ gs) ns v m = groups_kept mode gs (add_group itself mode ns g) v (group_kept mode ns g v m)

groups_head : (mode : Mode) (gs : List (Group Name)) (ns : List Name) (g : Group Name) → Memᴰ g gs → Memᴰ g.head (add_groups itself mode ns gs)
unfolding add_groups
groups_head mode [] ns g m = absurd (Memᴰ.not-nil m)
groups_head mode (h ∷ gs) ns g m =
    ⊎_elim
    (λ p. groups_kept mode gs (add_group itself mode ns h) g.head (Memᴰ.cast (ap (λ (x : Group Name). x.head) p) (group_head mode ns h)))
    (λ n. groups_head mode gs (add_group itself mode ns h) g n)
    (Memᴰ.cases_cons m)

groups_only : (mode : Mode) (gs : List (Group Name)) (ns : List Name) (v : Name) → Memᴰ v (add_groups itself mode ns gs)
    → Memᴰ v ns ⊎ Memᴰ v (flat_map group_names gs)
unfolding add_groups flat_map
groups_only mode [] ns v m = inl m
groups_only mode (g ∷ gs) ns v m =
    ⊎_elim
    (λ o. ⊎_elim (λ k. inl k) (λ n. inr (Memᴰ.append_left (flat_map group_names gs) n)) (group_only mode ns g v o))
    (λ n. inr (Memᴰ.append_right (group_names g) n))
    (groups_only mode gs (add_group itself mode ns g) v m)

-- ---- the list only grows: a name that is one too many on the way is one too many in the end

module _ {A : Type 0} (name : A → Name) where
  add_grows : (ns : List A) (w : A) → length ns ≤ length (add_new name ns w)
  add_grows ns w = go (among name (name w) ns)
    where
      go : (b : Bool) → length ns ≤ length (cond b ns (ns ++ (w ∷ [])))
      go true = omega arith
      go false = omega (arith, length-append ns (w ∷ []))

  pub names_grow : (ws ns : List A) → length ns ≤ length (add_all name ns ws)
  unfolding add_all
  names_grow [] ns = omega arith
  names_grow (w ∷ ws) ns = omega (arith, add_grows ns w, names_grow ws (add_new name ns w))

  group_grows : (mode : Mode) (ns : List A) (g : Group A) → length ns ≤ length (add_group name mode ns g)
  group_grows pass_over ns g = go (among name (name g.head) ns)
    where
      go : (b : Bool) → length ns ≤ length (cond b ns (add_all name (ns ++ (g.head ∷ [])) g.subs))
      go true = omega arith
      go false = omega (arith, length-append ns (g.head ∷ []), names_grow g.subs (ns ++ (g.head ∷ [])))
  group_grows complete ns g = names_grow (g.head ∷ g.subs) ns

  pub groups_grow : (mode : Mode) (gs : List (Group A)) (ns : List A) → length ns ≤ length (add_groups name mode ns gs)
  unfolding add_groups
  groups_grow mode [] ns = omega arith
  groups_grow mode (g ∷ gs) ns = omega (arith, group_grows mode ns g, groups_grow mode gs (add_group name mode ns g))

-- ---- where each name stands once, one group is put behind the other, in each mode

module _ {A : Type 0} (name : A → Name) where
  -- a name that stands only once is not there yet
  is_new : (ns : List A) (w : A) (ws : List A) → Nodup (map name (ns ++ (w ∷ ws))) → among name (name w) ns ≡ false
  is_new ns w ws d = go (among name (name w) ns) (among_map itself name (name w) ns)
    where
      go : (b : Bool) → memb (name w) (map name ns) ≡ b → b ≡ false
      go true q =
          absurd (disjoint (subst (λ l. Nodup l) (map-append name ns (w ∷ ws)) d) (name w) ∣ memb_mem (name w) (map name ns) q ∣₁ ∣ Memᴰ.head refl ∣₁)
      go false q = refl

  shifted : (ns : List A) (w : A) (ws : List A) → Nodup (map name (ns ++ (w ∷ ws))) → Nodup (map name ((ns ++ (w ∷ [])) ++ ws))
  shifted ns w ws d = subst (λ l. Nodup (map name l)) (sym (append_assoc ns (w ∷ []) ws)) d

  all_new : (ws ns : List A) → Nodup (map name (ns ++ ws)) → add_all name ns ws ≡ ns ++ ws
  unfolding add_all
  all_new [] ns d = sym (append-nil ns)
  all_new (w ∷ ws) ns d =
      ap (λ b. add_all name (cond b ns (ns ++ (w ∷ []))) ws) (is_new ns w ws d)
      ∙ all_new ws (ns ++ (w ∷ [])) (shifted ns w ws d)
      ∙ append_assoc ns (w ∷ []) ws

  group_new : (mode : Mode) (g : Group A) (ns : List A) → Nodup (map name (ns ++ group_names g)) → add_group name mode ns g ≡ ns ++ group_names g
  group_new pass_over g ns d =
      ap (λ b. cond b ns (add_all name (ns ++ (g.head ∷ [])) g.subs)) (is_new ns g.head g.subs d)
      ∙ all_new g.subs (ns ++ (g.head ∷ [])) (shifted ns g.head g.subs d)
      ∙ append_assoc ns (g.head ∷ []) g.subs
  group_new complete g ns d = all_new (group_names g) ns d

  pub groups_new : (mode : Mode) (gs : List (Group A)) (ns : List A) → Nodup (map name (ns ++ flat_map group_names gs))
      → add_groups name mode ns gs ≡ ns ++ flat_map group_names gs
  unfolding add_groups flat_map
  groups_new mode [] ns d = sym (append-nil ns)
  groups_new mode (g ∷ gs) ns d =
      let e : Nodup (map name ((ns ++ group_names g) ++ flat_map group_names gs))
      = subst (λ l. Nodup (map name l)) (sym (append_assoc ns (group_names g) (flat_map group_names gs))) d in
      let f : Nodup (map name (ns ++ group_names g))
      = of_append_left (map name (flat_map group_names gs)) (subst (λ l. Nodup l) (map-append name (ns ++ group_names g) (flat_map group_names gs)) e) in
      ap (λ ns₁. add_groups name mode ns₁ gs) (group_new mode g ns f)
      ∙ groups_new mode gs (ns ++ group_names g) e
      ∙ append_assoc ns (group_names g) (flat_map group_names gs)

unmapped : (l : List Name) → map itself l ≡ l
unmapped [] = refl
unmapped (v ∷ l) = ap (λ t. v ∷ t) (unmapped l)

-- ---- where a group comes from

pub module_group_lem : (l : PlainLibrary) {m : PlainModule} → Memᴰ m (modules_of l) → Memᴰ (module_group m) (groups l)
module_group_lem l m = let r = module_out l m in each_in set_groups r.1 (Memᴰ.append_left _ (Memᴰ.map module_group r.2))

pub import_group : (l : PlainLibrary) {i : PlainImportOnly} {g : Group Name} → Memᴰ i (import_only_of l) → Memᴰ g (revision_groups i)
    → Memᴰ g (groups l)
import_group l m n =
    let r = import_only_out l m in
    each_in set_groups r.1 (Memᴰ.append_right (map module_group r.0.modules) (each_in revision_groups r.2 n))

pub data Grouped (l : PlainLibrary) (g : Group Name) : Type 0 where
  by_module : (m : PlainModule) → Memᴰ m (modules_of l) → module_group m ≡ g → Grouped l g
  by_import : (i : PlainImportOnly) → Memᴰ i (import_only_of l) → Memᴰ g (revision_groups i) → Grouped l g

pub grouped : (l : PlainLibrary) {g : Group Name} → Memᴰ g (groups l) → Grouped l g
grouped l {g} m = let r = each_out set_groups l m in go r.0 r.1 (Memᴰ.append_cases (map module_group r.0.modules) r.2)
  where
    go : (s : PlainSet) → Memᴰ s l → Memᴰ g (map module_group s.modules) ⊎ Memᴰ g (flat_map revision_groups s.import_only) → Grouped l g
    go s k (inl n) = let q = Memᴰ.of_map module_group s.modules n in by_module q.0 (module_in l k q.1) q.2
    go s k (inr n) = let q = each_out revision_groups s.import_only n in by_import q.0 (import_only_in l k q.1) q.2

-- ---- the nodes of a library

pub nodes_differ : (mode : Mode) (l : PlainLibrary) → Nodup (nodes_of mode l)
unfolding nodes_by
nodes_differ mode l = groups_nodup mode (groups l) [] Nodup-nil

pub nodes_only : (mode : Mode) (l : PlainLibrary) (v : Name) → Memᴰ v (nodes_of mode l) → Memᴰ v (all_names l)
unfolding nodes_by
nodes_only mode l v m = ⊎_elim (λ n. absurd (Memᴰ.not-nil n)) (λ n. n) (groups_only mode (groups l) [] v m)

-- where each name stands once, they are all names
pub nodes_new : (mode : Mode) (l : PlainLibrary) → Nodup (all_names l) → nodes_of mode l ≡ all_names l
unfolding nodes_by
nodes_new mode l d = groups_new itself mode (groups l) [] (subst (λ t. Nodup t) (sym (unmapped (all_names l))) d)

pub nodes_whole : (mode : Mode) (l : PlainLibrary) → Nodup (all_names l) → (v : Name) → Memᴰ v (all_names l) → Memᴰ v (nodes_of mode l)
nodes_whole mode l d v m = subst (λ ns. Memᴰ v ns) (sym (nodes_new mode l d)) m

-- each entry is a node
pub entry_node : (mode : Mode) (l : PlainLibrary) → Revised l → (v : Name) → Memᴰ v (entry_names l) → Memᴰ v (nodes_of mode l)
unfolding nodes_by
entry_node mode l revised v m = ⊎_elim of_module of_import (Memᴰ.append_cases (map (λ (m : PlainModule). m.name) (modules_of l)) m)
  where
    of_module : Memᴰ v (map (λ (m : PlainModule). m.name) (modules_of l)) → Memᴰ v (nodes_of mode l)
    of_module n =
        let q = Memᴰ.of_map (λ (m : PlainModule). m.name) (modules_of l) n in
        Memᴰ.cast (sym q.2) (groups_head mode (groups l) [] (module_group q.0) (module_group_lem l q.1))

    of_import : Memᴰ v (map (λ (i : PlainImportOnly). i.name) (import_only_of l)) → Memᴰ v (nodes_of mode l)
    of_import n = let q = Memᴰ.of_map (λ (i : PlainImportOnly). i.name) (import_only_of l) n in let r = revised q.0 q.1 in
        Memᴰ.cast (sym q.2) (groups_head mode (groups l) [] _ (import_group l q.1
        (Memᴰ.map (λ (subs : List Name). record { head = q.0.name; subs = subs }) r.1)))
