-- Where two libraries have the same modules and import-only modules, in whatever order and sets, one of them with each name once is enough: the names of
-- all groups are then the same but for their order.
-- Assumes nothing.
use mathlib.Core.Path.{◌≡◌, refl, subst}
use mathlib.Core.List.Perm
use mathlib.Core.List.{List, [], ◌∷◌, ◌++◌, map, map-append, flat_map, flatten, Perm}
use mathlib.Core.List.{perm_append_comm, append_assoc, Permᴰ}
use mathlib.Core.Logic.{∥∥₁_map, ∥∥₁_elim, ∥∥₁_prop}
use mathlib.Core.HLevel.{⊥_prop}
use Prim.Native.Nat.{ℕ}
use native.Mathlib.Omega.{arith}
use Rattle.library_image.specs.Library.{Name, PlainLibrary, modules_of, import_only_of}
use Rattle.graph.specs.Nodes.{Mode, module_group, revision_groups, set_groups, groups}
use Rattle.graph.specs.Graph.{Text, graph_of}
use Rattle.graph.specs.Demand3.{group_names, all_names, Once, Within, SameEntries, Permuted, Agree}
use Rattle.graph.proofs.Tests.{flat_map_append}
use Rattle.graph.proofs.Spread.{graphs_agree}

-- ---- lists of lists

module _ {A B : Type 0} (f : A → List B) where
  flat_permᴰ : {s t : List A} → Permᴰ s t → Perm (flat_map f s) (flat_map f t)
  unfolding flat_map
  flat_permᴰ Permᴰ.nil = Perm.refl []
  flat_permᴰ (Permᴰ.cons {a = a} {b = b} {l₁ = s} {l₂ = t} e d) =
      subst (λ x. Perm (f a ++ flat_map f s) (f x ++ flat_map f t)) e (Perm.append_left (f a) (flat_permᴰ d))
  flat_permᴰ (Permᴰ.swap {a = a} {b = b} {a' = c} {b' = d} {l = l} p q) =
      subst (λ x. Perm (f a ++ (f b ++ flat_map f l)) (f x ++ (f d ++ flat_map f l))) q
      (subst (λ y. Perm (f a ++ (f b ++ flat_map f l)) (f b ++ (f y ++ flat_map f l))) p
      (rw (← append_assoc (f a) (f b) (flat_map f l), ← append_assoc (f b) (f a) (flat_map f l))
      (Perm.append_right (flat_map f l) (perm_append_comm (f a) (f b)))))
  flat_permᴰ (Permᴰ.trans d e) = Perm.trans (flat_permᴰ d) (flat_permᴰ e)

  flat_perm : {s t : List A} → Perm s t → Perm (flat_map f s) (flat_map f t)
  flat_perm p = ∥∥₁_elim p ∥∥₁_prop flat_permᴰ

middle : {A : Type 0} (a b c d : List A) → Perm ((a ++ b) ++ (c ++ d)) ((a ++ c) ++ (b ++ d))
middle a b c d =
    rw
    (append_assoc a b (c ++ d), append_assoc a c (b ++ d), ← append_assoc b c d, ← append_assoc c b d)
    (Perm.append_left a (Perm.append_right d (perm_append_comm b c)))

-- ---- the groups, modules first

groups_apart : (l : PlainLibrary) → Perm (groups l) (map module_group (modules_of l) ++ flat_map revision_groups (import_only_of l))
unfolding flat_map modules_of import_only_of
groups_apart [] = Perm.refl []
groups_apart (s ∷ l) = rw (map-append module_group s.modules (modules_of l), flat_map_append revision_groups s.import_only (import_only_of l))
    (Perm.trans (Perm.append_left (set_groups s) (groups_apart l)) (middle (map module_group s.modules) (flat_map revision_groups s.import_only)
    (map module_group (modules_of l)) (flat_map revision_groups (import_only_of l))))

-- ---- the same modules and import-only modules

groups_perm : {l l₁ : PlainLibrary} → Permuted l l₁ → Perm (groups l) (groups l₁)
groups_perm {l} {l₁} p =
    Perm.trans (groups_apart l)
    (Perm.trans (Perm.append (Perm.map module_group p.modules) (flat_perm revision_groups p.import_only)) (Perm.symm (groups_apart l₁)))

-- so all names are the same but for their order
pub names_perm : {l l₁ : PlainLibrary} → Permuted l l₁ → Perm (all_names l) (all_names l₁)
names_perm p = flat_perm group_names (groups_perm p)

within : {l l₁ : PlainLibrary} → Permuted l l₁ → Within l l₁
within p = record {
  modules =
      λ m k. ∥∥₁_map ((Perm.mem_iff p.modules).0 ∣ k ∣₁) (λ j. (
        m,
        j,
        record
            { name = refl; submodules = Perm.refl m.submodules; augmenting = Perm.refl m.augmenting; deviations = Perm.refl m.deviations },
      ));
  import_only = λ i k. ∥∥₁_map ((Perm.mem_iff p.import_only).0 ∣ k ∣₁) (λ j. (i, j, record { name = refl; submodules = Perm.refl (flatten i.revisions) }));
}

turned : {l l₁ : PlainLibrary} → Permuted l l₁ → Permuted l₁ l
turned p = record { modules = Perm.symm p.modules; import_only = Perm.symm p.import_only }

-- of one that there merely is, it is the only one
only : (l : List (List Name)) → ∥ ((subs : List Name) × (l ≡ (subs ∷ []))) ∥₁ → (subs : List Name) × (l ≡ (subs ∷ []))
only [] t = absurd (∥∥₁_elim t ⊥_prop (λ x. let q = x.1 in let z : ◌≡◌ {A = ℕ} 0 1 = cc in omega arith))
only (s ∷ []) t = (s, refl)
only (s ∷ r ∷ l) t = absurd (∥∥₁_elim t ⊥_prop (λ x. let q = x.1 in let z : ◌≡◌ {A = ℕ} 0 1 = cc in omega arith))

once_too : {l l₁ : PlainLibrary} → Permuted l l₁ → Once l → Once l₁
once_too p o = record {
  differ = Perm.nodup (names_perm p) o.differ;
  single = λ i k. only i.revisions (∥∥₁_map ((Perm.mem_iff p.import_only).1 ∣ k ∣₁) (λ j. o.single i j));
}

pub same_entries : {l l₁ : PlainLibrary} → Permuted l l₁ → SameEntries l l₁
same_entries p = record { there = within p; back = within (turned p) }

pub permuted_agree : (mode : Mode) (node_limit edge_limit : ℕ) (text : Name → Text) (l l₁ : PlainLibrary) → Permuted l l₁ → Once l
    → Agree (graph_of mode node_limit edge_limit text l) (graph_of mode node_limit edge_limit text l₁)
permuted_agree mode nl el text l l₁ p once = graphs_agree mode nl el text l l₁ (same_entries p) once (once_too p once)
