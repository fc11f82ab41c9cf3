-- Demand 3 at work: a library in one set and in two, with the hypotheses met and both graphs computed; and which entry is told with 31.
-- Assumes nothing.
use Prim.Native.Nat.{ℕ}
use mathlib.Core.Path.{◌≡◌, refl, sym, ap, ap₂, ◌∙◌, subst}
use mathlib.Core.List.Memᴰ
use mathlib.Core.List.{List, [], ◌∷◌, ◌++◌, flat_map, Memᴰ, Nodup, Nodup-nil}
use mathlib.Core.List.Perm
use native.Mathlib.Omega.{arith}
use lib.ListN.{length}
use mathlib.Core.Logic.{∥∥₁_elim}
use mathlib.Core.HLevel.{⊥_prop}
use mathlib.Core.Bool.{Bool, true, false, cond}
use mathlib.Mathlib.Data.List.Nodup.{cons as Nodup-cons}
use Rattle.text.specs.Keyword.{same}
use Rattle.text.specs.Refusal.{no_refusal}
use Rattle.library_image.specs.Library.{Name, PlainModule, PlainImportOnly, PlainLibrary, modules_of, import_only_of, submodules_of}
use Rattle.library_index.specs.Names.{among, add_all}
use Rattle.graph.specs.Nodes.{pass_over, complete, add_groups, nodes_by, memb}
use Rattle.graph.specs.Graph.{ScanAnswer, Text, deps, text_steps, Edge, edge, mem_e, add_by, run, Entry, module_entry, entries, graph, fault, walk_from}
use Rattle.graph.specs.Graph.{graph_of}
use Rattle.graph.specs.Meaning.{Gives, imports, includes, lists, AllGivenBy, Fault, Cause, names, by_fault, edges}
use Rattle.graph.specs.Demand3.{all_names, Once, Permuted, Agree}
use Rattle.graph.proofs.Tests.{both_bools, mem_memb}
use Rattle.graph.proofs.Faults.{fault_below}
use Rattle.graph.proofs.Demand.{no_longer, demand3}
use Rattle.graph.proofs.Complete.{complete_demand3}

-- names that differ, by test
unfoldable differ : List Name → Bool
differ [] = true
differ (w ∷ ws) = cond (memb w ws) false (differ ws)

by_test : (ws : List Name) → differ ws ≡ true → Nodup ws
unfolding differ
by_test [] h = Nodup-nil
by_test (w ∷ ws) h = go (memb w ws) refl (by_test ws) h
  where
    go : (b : Bool) → memb w ws ≡ b → (differ ws ≡ true → Nodup ws) → cond b false (differ ws) ≡ true → Nodup (w ∷ ws)
    go true q ih h = both_bools h refl
    go false q ih h = Nodup-cons (λ m. ∥∥₁_elim m ⊥_prop (λ n. both_bools (mem_memb n) q)) (ih h)

-- m with submodule s, and b, import only, with submodule t; m includes s and imports b, and is said to deviate from b
abbrev m : PlainModule
m = record { name = 109 ∷ []; submodules = (115 ∷ []) ∷ []; augmenting = []; deviations = (98 ∷ []) ∷ [] }

abbrev b : PlainImportOnly
b = record { name = 98 ∷ []; revisions = ((116 ∷ []) ∷ []) ∷ [] }

abbrev one_set : PlainLibrary
one_set = record { modules = m ∷ []; import_only = b ∷ [] } ∷ []

abbrev two_sets : PlainLibrary
two_sets = record { modules = []; import_only = b ∷ [] } ∷ record { modules = m ∷ []; import_only = [] } ∷ []

text : Name → Text
text w = cond (same w (109 ∷ [])) (deps ((98 ∷ []) ∷ []) ((115 ∷ []) ∷ [])) (deps [] [])

once : Once one_set
unfolding flat_map import_only_of differ same among
once =
    record
    { differ = by_test (all_names one_set) refl; single = λ i k. ((116 ∷ []) ∷ [], ap (λ (x : PlainImportOnly). x.revisions) (Memᴰ.eq_of_singleton k)) }

permuted : Permuted one_set two_sets
unfolding modules_of import_only_of
permuted = record { modules = Perm.refl (m ∷ []); import_only = Perm.refl (b ∷ []) }

agree : Agree (graph_of pass_over 1024 8192 text one_set) (graph_of pass_over 1024 8192 text two_sets)
agree = (demand3 pass_over 1024 8192 text).permuted one_set two_sets permuted once

first : graph_of pass_over 1024 8192 text one_set ≡ graph ((109 ∷ []) ∷ (115 ∷ []) ∷ (98 ∷ []) ∷ (116 ∷ []) ∷ [])
    (edge (98 ∷ []) (109 ∷ []) ∷ edge (115 ∷ []) (109 ∷ []) ∷ edge (109 ∷ []) (98 ∷ []) ∷ [])
unfolding text flat_map modules_of import_only_of submodules_of same among add_all add_groups nodes_by text_steps mem_e add_by run walk_from graph_of
first = refl

second : graph_of pass_over 1024 8192 text two_sets ≡ graph ((98 ∷ []) ∷ (116 ∷ []) ∷ (109 ∷ []) ∷ (115 ∷ []) ∷ [])
    (edge (98 ∷ []) (109 ∷ []) ∷ edge (115 ∷ []) (109 ∷ []) ∷ edge (109 ∷ []) (98 ∷ []) ∷ [])
unfolding text flat_map modules_of import_only_of submodules_of same among add_all add_groups nodes_by text_steps mem_e add_by run walk_from graph_of
second = refl

-- each name stands once in it, so the other mode gives the same graph
complete_same : graph_of complete 1024 8192 text one_set ≡ graph_of pass_over 1024 8192 text one_set
complete_same = (complete_demand3 1024 8192 text).once one_set once

-- ---- 31 tells the entry with which the edges become too many: a and b each augment themselves, and there is room for one edge

abbrev alone : Name → PlainModule
alone w = record { name = w; submodules = []; augmenting = w ∷ []; deviations = [] }

abbrev a_and_b : PlainLibrary
a_and_b = record { modules = alone (97 ∷ []) ∷ alone (98 ∷ []) ∷ []; import_only = [] } ∷ []

abbrev empty : Name → Text
empty w = deps [] []

at_the_second : graph_of pass_over 1024 1 empty a_and_b ≡ fault 31 2 no_refusal
unfolding flat_map modules_of import_only_of submodules_of same among add_all add_groups nodes_by text_steps mem_e add_by run walk_from graph_of
at_the_second = refl

-- the first entry gives one edge alone
abbrev first_edge : Edge
first_edge = edge (97 ∷ []) (97 ∷ [])

one_edge : {u v : Name} → Gives pass_over empty a_and_b (module_entry (alone (97 ∷ []))) u v → edge u v ≡ first_edge
one_edge {u} (imports r i n) = let q : [] ≡ i.imports = cc in absurd (Memᴰ.not-nil (subst (λ l. Memᴰ u l) (sym q) i.one))
one_edge {u} (includes r f) =
    let i = f.includes in
    let q : [] ≡ i.includes = cc in
    absurd (Memᴰ.not-nil (subst (λ l. Memᴰ u l) (sym q) i.one))
one_edge (lists q k n) = ap₂ edge q (Memᴰ.eq_of_singleton k)

no_fault : (x : Entry) {n : ℕ} {a : ScanAnswer} → Fault pass_over empty a_and_b x n a → n ≡ 31 → ⊥
no_fault x f e = omega (arith, e, fault_below pass_over empty a_and_b x f)

not_the_first : {n k : ℕ} {a : ScanAnswer} → Cause pass_over empty a_and_b 1024 1 n k a → n ≡ 31 → k ≡ 1 → ⊥
unfolding flat_map
not_the_first (names h) e q = omega (arith, e)
not_the_first (by_fault x f g) e q = no_fault x g e
not_the_first (edges x f few es d given many) e q = go f.before f.order (omega (arith, q, f.number)) given
  where
    go : (before : List Entry) → entries a_and_b ≡ before ++ (x ∷ f.after) → length before ≡ 0
        → AllGivenBy pass_over empty a_and_b (before ++ (x ∷ [])) es → ⊥
    go (y ∷ ys) o z g = omega (arith, z)
    go [] o z g =
        let h : module_entry (alone (97 ∷ [])) ≡ x = cc in
        let k = no_longer es (first_edge ∷ []) d (λ e m.
        let p = g e m in
        let i : p.giver ≡ module_entry (alone (97 ∷ [])) = Memᴰ.eq_of_singleton p.one ∙ sym h in
        Memᴰ.head (one_edge (subst (λ y. Gives pass_over empty a_and_b y e.from e.to) i p.gives))) in
        omega (arith, many, k)
