-- Two spreads of one library that have the same nodes are both refused or both give the same names and edges: what a walk asks of the library and which steps
-- it takes hang on membership alone. Where every name stands once they have the same nodes, in each mode.
-- Assumes nothing.
use mathlib.Core.Path.{◌≡◌, refl, sym, ap, ◌∙◌, subst, subst₂}
use mathlib.Core.List.Memᴰ
use mathlib.Core.List.{List, [], ◌∷◌, ◌++◌, map, flat_map, flatten, Mem, Memᴰ}
use mathlib.Core.List.{Nodup-nil, Perm}
use mathlib.Core.List.Perm
use mathlib.Core.List.{Permᴰ, perm_ext_iff_of_Nodup}
use mathlib.Core.Logic.{◌⊎◌, inl, inr, ⊎_elim, ∥∥₁_elim, ∥∥₁_map, ∥∥₁_prop}
use mathlib.Core.HLevel.{⊥_prop}
use mathlib.Core.Bool.{Bool, true, false, cond}
use Prim.Native.Nat.{ℕ, suc, ◌≤◌}
use native.Mathlib.Omega.{arith}
use native.Mathlib.Nat.{ℕ_set}
use lib.ListN.{length}
use lib.Dec.{ltb}
use Rattle.library_image.specs.Library.{Name, PlainModule, PlainImportOnly, PlainLibrary, modules_of, import_only_of}
use Rattle.graph.specs.Nodes.{Mode, Group, groups, nodes_of, memb}
use Rattle.text.specs.Refusal.{no_refusal}
use Rattle.graph.specs.Graph.{Text, no_entry_text, too_many_nodes, deepest, Edge, Step, arc, stop, World, given, text_steps, Entry, module_entry, import_entry}
use Rattle.graph.specs.Graph.{entries, entry_steps, entry_names, submodule_names, world, Graph, graph, fault, walk_of, graph_of}
use Rattle.graph.specs.Meaning.{Revised}
use Rattle.graph.specs.Demand3.{group_names, all_names, Once, AlikeModule, AlikeImport, Within, SameEntries, Agree, both_refused, both_built}
use Rattle.graph.proofs.Tests.{both_bools, memᴰ, memb_same, each_in, each_out}
use Rattle.graph.proofs.Sets.{submodule_in, submodule_out}
use Rattle.graph.proofs.Runs.{Clean, adds, adds_new, adds_only, adds_nodup, Ran, run_ran, ran_run, walk_run, run_walk}
use Rattle.graph.proofs.Entries.{Came, from_module, from_import, came, module_entry_lem, import_entry_lem}
use Rattle.graph.proofs.Meaning.{trace}
use Rattle.graph.proofs.Nodes.{module_group_lem, import_group, Grouped, by_module, by_import, grouped, nodes_differ, nodes_only, nodes_whole}

-- ---- lists

perm_lengthᴰ : {A : Type 0} {l l₁ : List A} → Permᴰ l l₁ → length l ≡ length l₁
perm_lengthᴰ Permᴰ.nil = refl
perm_lengthᴰ (Permᴰ.cons e d) = ap suc (perm_lengthᴰ d)
perm_lengthᴰ (Permᴰ.swap e f) = refl
perm_lengthᴰ (Permᴰ.trans d f) = perm_lengthᴰ d ∙ perm_lengthᴰ f

pub perm_length : {A : Type 0} {l l₁ : List A} → Perm l l₁ → length l ≡ length l₁
perm_length {l = l} {l₁ = l₁} p = ∥∥₁_elim p (ℕ_set (length l) (length l₁)) perm_lengthᴰ

pub perm_memᴰ : {ws xs : List Name} {v : Name} → Perm ws xs → Memᴰ v ws → Memᴰ v xs
perm_memᴰ p m = memᴰ ((Perm.mem_iff p).0 ∣ m ∣₁)

flat_out : {v : Name} (l : List (List Name)) → Memᴰ v (flatten l) → (r : List Name) × Memᴰ r l × Memᴰ v r
unfolding flatten
flat_out [] m = absurd (Memᴰ.not-nil m)
flat_out (x ∷ l) m = ⊎_elim (λ n. (x, Memᴰ.head refl, n)) (λ n. let r = flat_out l n in (r.0, Memᴰ.tail r.1, r.2)) (Memᴰ.append_cases x m)

flat_in : {v : Name} {r : List Name} {l : List (List Name)} → Memᴰ r l → Memᴰ v r → Memᴰ v (flatten l)
unfolding flatten
flat_in {v} (Memᴰ.head {xs = l} e) m = Memᴰ.append_left (flatten l) (subst (λ x. Memᴰ v x) e m)
flat_in (Memᴰ.tail {x = x} n) m = Memᴰ.append_right x (flat_in n m)

-- ---- what the one has the other has

merely : {A : Type 0} {v : Name} {ws : List Name} → ∥ A ∥₁ → (A → Memᴰ v ws) → Memᴰ v ws
merely t f = memᴰ (∥∥₁_map t f)

-- each node of the one is a node of the other
abbrev pub NodesIn : Mode → (l l₁ : PlainLibrary) → Type 0
NodesIn mode l l₁ = (v : Name) → Memᴰ v (nodes_of mode l) → Memᴰ v (nodes_of mode l₁)

once_revised : (l : PlainLibrary) → Once l → Revised l
once_revised l once i m =
    let e = once.single i m in
    (e.0, subst (λ (rs : List (List Name)). Memᴰ e.0 rs) (sym e.1) (Memᴰ.head refl))

module _ {l l₁ : PlainLibrary} (within : Within l l₁) where
  entries_in : (v : Name) → Memᴰ v (entry_names l) → Memᴰ v (entry_names l₁)
  entries_in v m = ⊎_elim module_in import_in (Memᴰ.append_cases (map (λ (m : PlainModule). m.name) (modules_of l)) m)
    where
      module_in : Memᴰ v (map (λ (m : PlainModule). m.name) (modules_of l)) → Memᴰ v (entry_names l₁)
      module_in n = let q = Memᴰ.of_map (λ (m : PlainModule). m.name) (modules_of l) n in
          merely (within.modules q.0 q.1) (λ r. Memᴰ.append_left _
          (Memᴰ.cast (sym q.2 ∙ r.2.name) (Memᴰ.map (λ (m : PlainModule). m.name) r.1)))

      import_in : Memᴰ v (map (λ (i : PlainImportOnly). i.name) (import_only_of l)) → Memᴰ v (entry_names l₁)
      import_in n = let q = Memᴰ.of_map (λ (i : PlainImportOnly). i.name) (import_only_of l) n in
          merely (within.import_only q.0 q.1) (λ r. Memᴰ.append_right (map (λ (m : PlainModule). m.name) (modules_of l₁))
          (Memᴰ.cast (sym q.2 ∙ r.2.name) (Memᴰ.map (λ (i : PlainImportOnly). i.name) r.1)))

  submodules_in : (v : Name) → Memᴰ v (submodule_names l) → Memᴰ v (submodule_names l₁)
  submodules_in v m = let q = submodule_out (modules_of l) m in
      merely (within.modules q.0 q.1) (λ r. submodule_in (modules_of l₁) r.1 (perm_memᴰ r.2.submodules q.2))

  pub names_in : Revised l₁ → (v : Name) → Memᴰ v (all_names l) → Memᴰ v (all_names l₁)
  names_in revised v m = let q = each_out group_names (groups l) m in go q.0 (grouped l q.1) q.2
    where
      of_import : (j : PlainImportOnly) → Memᴰ j (import_only_of l₁) → {subs : List Name} → Memᴰ subs j.revisions → Memᴰ v (j.name ∷ subs)
          → Memᴰ v (all_names l₁)
      of_import j k n o = each_in group_names (import_group l₁ k (Memᴰ.map (λ (subs : List Name). record { head = j.name; subs = subs }) n)) o

      like_import : (i : PlainImportOnly) (r : List Name) → Memᴰ r i.revisions → (v ≡ i.name) ⊎ Memᴰ v r
          → (j : PlainImportOnly) × Memᴰ j (import_only_of l₁) × AlikeImport i j → Memᴰ v (all_names l₁)
      like_import i r n (inl p) (j, k, a) = of_import j k (revised j k).1 (Memᴰ.head (p ∙ a.name))
      like_import i r n (inr o) (j, k, a) =
          let e = flat_out j.revisions (perm_memᴰ a.submodules (flat_in n o)) in
          of_import j k e.1 (Memᴰ.tail e.2)

      like_module : (m : PlainModule) → (v ≡ m.name) ⊎ Memᴰ v m.submodules → (n : PlainModule) × Memᴰ n (modules_of l₁) × AlikeModule m n
          → Memᴰ v (all_names l₁)
      like_module m (inl p) (n, k, a) = each_in group_names (module_group_lem l₁ k) (Memᴰ.head (p ∙ a.name))
      like_module m (inr o) (n, k, a) = each_in group_names (module_group_lem l₁ k) (Memᴰ.tail (perm_memᴰ a.submodules o))

      go : (g : Group Name) → Grouped l g → Memᴰ v (group_names g) → Memᴰ v (all_names l₁)
      go g (by_module m k q) o =
          merely (within.modules m k) (like_module m (Memᴰ.cases_cons (subst (λ (x : Group Name). Memᴰ v (group_names x)) (sym q) o)))
      go g (by_import i k n) o = let q = Memᴰ.of_map (λ (subs : List Name). record { head = i.name; subs = subs }) i.revisions n in
          merely (within.import_only i k) (like_import i q.0 q.1 (Memᴰ.cases_cons
          (subst (λ (x : Group Name). Memᴰ v (group_names x)) (sym q.2) o)))

  nodes_in : (mode : Mode) → Once l₁ → NodesIn mode l l₁
  nodes_in mode once v m = nodes_whole mode l₁ once.differ v (names_in (once_revised l₁ once) v (nodes_only mode l v m))

-- an entry of the same name that lists no less takes the same steps
entry_steps_lem : (W : World) (x y : Entry) (s : Step) → x.name ≡ y.name → ((u : Name) → Memᴰ u x.lists → Memᴰ u y.lists)
    → Memᴰ s (entry_steps W x) → Memᴰ s (entry_steps W y)
entry_steps_lem W x y s q f m =
    ⊎_elim
    (λ n. Memᴰ.append_left _ (subst (λ w. Memᴰ s (text_steps W deepest no_entry_text w)) q n))
    (λ n. let r = each_out (given W x.name) x.lists n in Memᴰ.append_right (text_steps W deepest no_entry_text y.name)
    (each_in (given W y.name) (f r.0 r.1) (subst (λ w. Memᴰ s (given W w r.0)) q r.2)))
    (Memᴰ.append_cases (text_steps W deepest no_entry_text x.name) m)

steps_in : {l l₁ : PlainLibrary} → Within l l₁ → (W : World) (s : Step) → Memᴰ s (flat_map (entry_steps W) (entries l))
    → Mem s (flat_map (entry_steps W) (entries l₁))
steps_in {l} {l₁} within W s m = let q = each_out (entry_steps W) (entries l) m in go q.0 (came l q.1) q.2
  where
    go : (x : Entry) → Came l x → Memᴰ s (entry_steps W x) → Mem s (flat_map (entry_steps W) (entries l₁))
    go x (from_module n k q) o =
        ∥∥₁_map (within.modules n k) (λ r. each_in (entry_steps W) (module_entry_lem l₁ r.1)
        (entry_steps_lem W (module_entry n) (module_entry r.0) s r.2.name (lists r.2) (subst (λ (y : Entry). Memᴰ s (entry_steps W y)) (sym q) o)))
      where
        lists : {m n : PlainModule} → AlikeModule m n → (u : Name) → Memᴰ u (m.augmenting ++ m.deviations)
            → Memᴰ u (n.augmenting ++ n.deviations)
        lists {m} {n} a u k =
            ⊎_elim
            (λ j. Memᴰ.append_left n.deviations (perm_memᴰ a.augmenting j))
            (λ j. Memᴰ.append_right n.augmenting (perm_memᴰ a.deviations j))
            (Memᴰ.append_cases m.augmenting k)
    go x (from_import i k q) o =
        ∥∥₁_map (within.import_only i k) (λ r. each_in (entry_steps W) (import_entry_lem l₁ r.1)
        (entry_steps_lem W (import_entry i) (import_entry r.0) s r.2.name (λ u k. k) (subst (λ (y : Entry). Memᴰ s (entry_steps W y)) (sym q) o)))

-- ---- both are refused, or both are built and the same

module _ (mode : Mode) where
  record Spread (l l₁ : PlainLibrary) : Type 0 where
    alike : SameEntries l l₁
    nodes : NodesIn mode l l₁
    back : NodesIn mode l₁ l

  turn : {l l₁ : PlainLibrary} → Spread l l₁ → Spread l₁ l
  turn s = record { alike = record { there = s.alike.back; back = s.alike.there }; nodes = s.back; back = s.nodes }

  same_world : {l l₁ : PlainLibrary} → Spread l l₁ → (text : Name → Text) → world mode text l ≡ world mode text l₁
  same_world {l} {l₁} sp text =
      let alike = sp.alike in
      let p : (u : Name) → memb u (entry_names l) ≡ memb u (entry_names l₁) = λ u. memb_same u (entry_names l) (entry_names l₁) (entries_in alike.there u)
      (entries_in alike.back u) in
      let q : (u : Name) → memb u (submodule_names l) ≡ memb u (submodule_names l₁) = λ u. memb_same u (submodule_names l) (submodule_names l₁)
      (submodules_in alike.there u) (submodules_in alike.back u) in
      let r : (u : Name) → memb u (nodes_of mode l) ≡ memb u (nodes_of mode l₁) = λ u. memb_same u (nodes_of mode l) (nodes_of mode l₁)
      (sp.nodes u) (sp.back u) in
      λ i. record { known = λ u. p u i; listed = λ u. q u i; node = λ u. r u i; text = text }

  trace_in : {l l₁ : PlainLibrary} → Spread l l₁ → (text : Name → Text) (s : Step) → Memᴰ s (trace mode text l) → Mem s (trace mode text l₁)
  trace_in {l} {l₁} sp text s m =
      steps_in sp.alike.there (world mode text l₁) s (subst (λ W. Memᴰ s (flat_map (entry_steps W) (entries l)))
      (same_world sp text) m)

  same_nodes : {l l₁ : PlainLibrary} → Spread l l₁ → Perm (nodes_of mode l) (nodes_of mode l₁)
  same_nodes {l} {l₁} sp = (perm_ext_iff_of_Nodup (nodes_differ mode l) (nodes_differ mode l₁)).1
      (λ v. (λ m. ∥∥₁_map m (sp.nodes v), λ m. ∥∥₁_map m (sp.back v)))

  abbrev all_edges : (Name → Text) → PlainLibrary → List Edge
  all_edges text l = adds [] (trace mode text l)

  edges_in : {l l₁ : PlainLibrary} → Spread l l₁ → (text : Name → Text) (e : Edge) → Mem e (all_edges text l) → Mem e (all_edges text l₁)
  edges_in {l} {l₁} sp text e m =
      ∥∥₁_elim m ∥∥₁_prop (λ n. ⊎_elim (λ o. absurd (Memᴰ.not-nil o)) (λ o. ∥∥₁_map (trace_in sp text (arc e) o) (adds_new (trace mode text l₁) [] e))
      (adds_only (trace mode text l) [] e n))

  same_edges : {l l₁ : PlainLibrary} → Spread l l₁ → (text : Name → Text) → Perm (all_edges text l) (all_edges text l₁)
  same_edges {l} {l₁} sp text = (perm_ext_iff_of_Nodup (adds_nodup (trace mode text l) [] Nodup-nil) (adds_nodup (trace mode text l₁) [] Nodup-nil)).1
      (λ e. (edges_in sp text e, edges_in (turn sp) text e))

  -- if the one is built, it is built of all its edges, and so is the other
  built_whole : (limit : ℕ) (text : Name → Text) (l : PlainLibrary) {ns : List Name} {es : List Edge} → walk_of mode limit text l ≡ graph ns es
      → Ran limit [] (trace mode text l) es × (nodes_of mode l ≡ ns)
  built_whole limit text l h =
      let r = walk_run (entry_steps (world mode text l)) limit (nodes_of mode l) (entries l) 1 [] h in
      (run_ran limit (trace mode text l) [] _ r.1, r.0)

  built_too : (limit : ℕ) (text : Name → Text) {l l₁ : PlainLibrary} → Spread l l₁ → {ns : List Name} {es : List Edge}
      → walk_of mode limit text l ≡ graph ns es → walk_of mode limit text l₁ ≡ graph (nodes_of mode l₁) (all_edges text l₁)
  built_too limit text {l} {l₁} sp {es = es} h =
      let r = (built_whole limit text l h).0 in
      let clean : Clean (trace mode text l₁) = λ n a m. ∥∥₁_elim (trace_in (turn sp) text (stop n a) m) ⊥_prop (r.clean n a) in
      let q : length (all_edges text l) ≡ length (all_edges text l₁) = perm_length (same_edges sp text) in
      let e : length es ≡ length (all_edges text l) = ap length r.all in
      let k : length es ≤ limit = r.fits (omega arith) in
      run_walk (entry_steps (world mode text l₁)) limit (nodes_of mode l₁) (entries l₁) 1 [] (ran_run limit (trace mode text l₁) [] clean (omega arith))

  walks_agree : (limit : ℕ) (text : Name → Text) {l l₁ : PlainLibrary} → Spread l l₁ → Agree (walk_of mode limit text l) (walk_of mode limit text l₁)
  walks_agree limit text {l} {l₁} sp = go (walk_of mode limit text l) (walk_of mode limit text l₁) refl refl
    where
      go : (g g₁ : Graph) → walk_of mode limit text l ≡ g → walk_of mode limit text l₁ ≡ g₁ → Agree g g₁
      go (graph ns es) (graph ns₁ es₁) h h₁ =
          let r = built_whole limit text l h in let r₁ = built_whole limit text l₁ h₁ in
          both_built (subst₂ (λ a b. Perm a b) r.1 r₁.1 (same_nodes sp))
          (subst₂ (λ a b. Perm a b) (sym r.0.all) (sym r₁.0.all) (same_edges sp text))
      go (graph ns es) (fault n k a) h h₁ = let q = built_too limit text sp h in let z : ◌≡◌ {A = ℕ} 0 1 = cc in absurd (omega arith)
      go (fault n k a) (graph ns es) h h₁ = let q = built_too limit text (turn sp) h₁ in let z : ◌≡◌ {A = ℕ} 0 1 = cc in absurd (omega arith)
      go (fault n k a) (fault n₁ k₁ a₁) h h₁ = both_refused

  pub nodes_agree : (node_limit edge_limit : ℕ) (text : Name → Text) (l l₁ : PlainLibrary) → SameEntries l l₁ → NodesIn mode l l₁ → NodesIn mode l₁ l
      → Agree (graph_of mode node_limit edge_limit text l) (graph_of mode node_limit edge_limit text l₁)
  unfolding graph_of
  nodes_agree nl el text l l₁ alike nodes back =
      go (ltb nl (length (nodes_of mode l))) (ltb nl (length (nodes_of mode l₁))) (ap (ltb nl) (perm_length (same_nodes sp)))
    where
      sp : Spread l l₁
      sp = record { alike = alike; nodes = nodes; back = back }

      go : (b c : Bool) → b ≡ c
          → Agree (cond b (fault too_many_nodes 0 no_refusal) (walk_of mode el text l)) (cond c (fault too_many_nodes 0 no_refusal) (walk_of mode el text l₁))
      go true true q = both_refused
      go false false q = walks_agree el text sp
      go true false q = both_bools refl q
      go false true q = both_bools q refl

  pub graphs_agree : (node_limit edge_limit : ℕ) (text : Name → Text) (l l₁ : PlainLibrary) → SameEntries l l₁ → Once l → Once l₁
      → Agree (graph_of mode node_limit edge_limit text l) (graph_of mode node_limit edge_limit text l₁)
  graphs_agree nl el text l l₁ alike once once₁ =
      nodes_agree nl el text l l₁ alike (nodes_in alike.there mode once₁) (nodes_in alike.back mode once)
