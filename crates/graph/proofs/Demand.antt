-- Demand 3 holds. A built graph is a run through all steps of all entries, so its edges are the different ones asked for; a list with no repetition is no
-- longer than one that holds it, so no other list of edges is longer.
-- Assumes nothing.
use mathlib.Core.Path.{◌≡◌, refl, sym, ap, ◌∙◌, subst, subst₂, subst₃}
use mathlib.Core.List.Memᴰ
use mathlib.Core.List.{List, [], ◌∷◌, ◌++◌, flat_map, Memᴰ}
use mathlib.Core.List.{Nodup, Nodup-nil}
use mathlib.Core.Logic.{◌⊎◌, inl, inr, ⊎_elim, ◌↔◌}
use mathlib.Core.Bool.{Bool, true, false, cond}
use mathlib.Mathlib.Data.List.Nodup.{of_cons, not_mem}
use Prim.Native.Nat.{ℕ, suc, ◌≤◌}
use native.Mathlib.Omega.{arith}
use lib.ListN.{length}
use lib.Dec.{ltb}
use borrow.Author.Tests.{ltb-true, ltb-false, le-ltb}
use Rattle.library_image.specs.Library.{Name, PlainLibrary}
use Rattle.graph.specs.Nodes.{Mode, nodes_of}
use Rattle.text.specs.Refusal.{no_refusal}
use Rattle.graph.specs.Graph.{ScanAnswer, Text, too_many_nodes, Edge, edge, Step, arc, stop, Entry, entries, entry_steps, world, graph, fault, walk_of}
use Rattle.graph.specs.Graph.{graph_of}
use Rattle.graph.specs.Numbers.{row_of}
use Rattle.graph.specs.Meaning.{Revised, IsEdge, Gives, GivenBy, AllGivenBy, Sound, FirstAt, Cause, names, edges, by_fault}
use Rattle.graph.specs.Demand3.{all_names, Right, Demand3}
use Rattle.graph.proofs.Tests.{each_in, each_out}
use Rattle.graph.proofs.Runs.{Clean, adds, adds_new, adds_only, adds_nodup, Ran, run_ran, ran_run, Over, run_refused, walk_run, run_walk, Stopped}
use Rattle.graph.proofs.Runs.{walk_refused}
use Rattle.graph.proofs.Meaning.{trace, arcs_given, arcs_meant, meant_arcs, ends_nodes}
use Rattle.graph.proofs.Nodes.{nodes_differ, nodes_only, nodes_whole, entry_node}
use Rattle.graph.proofs.Numbers.{small_rows, rows_differ, row_edge}
use Rattle.graph.proofs.Faults.{stop_fault, fault_stop, given_arcs}
use Rattle.graph.proofs.Spread.{graphs_agree}
use Rattle.graph.proofs.Permuted.{permuted_agree}

-- ---- a list with no repetition is no longer than one that holds it

taken : {A : Type 0} {e : A} {ys : List A} → Memᴰ e ys
    → (zs : List A) × (length ys ≡ suc (length zs)) × ((x : A) → Memᴰ x ys → (x ≡ e) ⊎ Memᴰ x zs)
taken (Memᴰ.head {xs = ys} p) = (ys, refl, λ x m. ⊎_elim (λ q. inl (q ∙ sym p)) (λ n. inr n) (Memᴰ.cases_cons m))
taken (Memᴰ.tail {x = y} m) =
    let t = taken m in (
      y ∷ t.0,
      ap suc t.1,
      λ x n. ⊎_elim (λ q. inr (Memᴰ.head q)) (λ o. ⊎_elim (λ p. inl p) (λ k. inr (Memᴰ.tail k)) (t.2 x o))
          (Memᴰ.cases_cons n),
    )

pub no_longer : {A : Type 0} (xs ys : List A) → Nodup xs → ((e : A) → Memᴰ e xs → Memᴰ e ys) → length xs ≤ length ys
no_longer [] ys d f = omega arith
no_longer (x ∷ xs) ys d f =
    let t = taken (f x (Memᴰ.head refl)) in
    let k : length xs ≤ length t.0 = no_longer xs t.0 (of_cons d) (λ e m. ⊎_elim (λ p. absurd (not_mem d ∣ Memᴰ.cast (sym p) m ∣₁)) (λ n. n)
    (t.2 e (f e (Memᴰ.tail m)))) in
    let l : length ys ≡ suc (length t.0) = t.1 in
    omega arith

module _ (mode : Mode) (node_limit edge_limit : ℕ) (text : Name → Text) (l : PlainLibrary) where
  abbrev of_entry : Entry → List Step
  of_entry x = entry_steps (world mode text l) x

  abbrev all : List Step
  all = trace mode text l

  -- ---- a graph that is built
  record Built (ns : List Name) (es : List Edge) : Type 0 where
    room : length (nodes_of mode l) ≤ node_limit
    nodes : nodes_of mode l ≡ ns
    ran : Ran edge_limit [] all es

  opened : {ns : List Name} {es : List Edge} → graph_of mode node_limit edge_limit text l ≡ graph ns es → Built ns es
  unfolding graph_of
  opened {ns} {es} h = go (ltb node_limit (length (nodes_of mode l))) refl h
    where
      go : (b : Bool) → ltb node_limit (length (nodes_of mode l)) ≡ b → cond b (fault too_many_nodes 0 no_refusal) (walk_of mode edge_limit text l) ≡ graph ns es
          → Built ns es
      go true q h = let z : ◌≡◌ {A = ℕ} 0 1 = cc in absurd (omega arith)
      go false q h =
          let r = walk_run of_entry edge_limit (nodes_of mode l) (entries l) 1 [] h in
          record { room = ltb-false node_limit (length (nodes_of mode l)) q; nodes = r.0; ran = run_ran edge_limit all [] es r.1 }

  closed : length (nodes_of mode l) ≤ node_limit → Clean all → length (adds [] all) ≤ edge_limit
      → graph_of mode node_limit edge_limit text l ≡ graph (nodes_of mode l) (adds [] all)
  unfolding graph_of
  closed k c f =
      rw (le-ltb node_limit (length (nodes_of mode l)) k) (run_walk of_entry edge_limit (nodes_of mode l) (entries l) 1 [] (ran_run edge_limit all [] c f))

  edge_meant : (e : Edge) → Memᴰ e (adds [] all) → IsEdge text l e.from e.to
  edge_meant e m = ⊎_elim (λ n. absurd (Memᴰ.not-nil n)) (arcs_meant mode text l e) (adds_only all [] e m)

  module _ {ns : List Name} {es : List Edge} (b : Built ns es) where
    meant : (e : Edge) → Memᴰ e es → IsEdge text l e.from e.to
    meant e m = edge_meant e (subst (λ t. Memᴰ e t) b.ran.all m)

    edge_of : (u v : Name) → IsEdge text l u v → Memᴰ (edge u v) es
    edge_of u v k = subst (λ t. Memᴰ (edge u v) t) (sym b.ran.all) (adds_new all [] (edge u v) (meant_arcs mode text l b.ran.clean u v k))

    both_ends : Revised l → (e : Edge) → Memᴰ e es → Memᴰ e.from ns × Memᴰ e.to ns
    both_ends revised e m =
        subst
        (λ t. Memᴰ e.from t × Memᴰ e.to t) b.nodes
        (ends_nodes mode text l b.ran.clean (entry_node mode l revised) e.from e.to (meant e m))

    once : Nodup es
    once = subst (λ t. Nodup t) (sym b.ran.all) (adds_nodup all [] Nodup-nil)

    right : Right mode text l ns es
    right = record {
      nodes = sym b.nodes;
      names_differ = subst (λ t. Nodup t) b.nodes (nodes_differ mode l);
      names_all = λ o v. subst (λ t. Memᴰ v t ↔ Memᴰ v (all_names l)) b.nodes (nodes_only mode l v, nodes_whole mode l o.differ v);
      edges_differ = once;
      exact = λ u v. (λ m. meant (edge u v) m, λ k. edge_of u v k);
      ends = λ revised u v m. both_ends revised (edge u v) m;
      rows = λ revised. record {
        small = λ r m. small_rows ns es (both_ends revised) r m;
        differ = rows_differ ns es (both_ends revised) once;
        exact = λ u v j k. (λ m. meant (edge u v) (row_edge ns es (both_ends revised) j k m), λ e. Memᴰ.map (row_of ns) (edge_of u v e));
      };
    }

    sound : Sound mode text l node_limit edge_limit
    sound = record {
      nodes = b.room;
      faults = λ x m n a f. b.ran.clean n a (each_in of_entry m (fault_stop mode text l x f));
      edges = λ xs d f.
          let k = no_longer xs es d (λ e m. edge_of e.from e.to (f e m)) in
          let i : length es ≤ edge_limit = b.ran.fits (omega arith) in
          omega arith;
    }

  build : Sound mode text l node_limit edge_limit → (ns : List Name) × (es : List Edge) × (graph_of mode node_limit edge_limit text l ≡ graph ns es)
  build s =
      let clean : Clean all = λ n a m. let p = each_out of_entry (entries l) m in s.faults p.0 p.1 n a (stop_fault mode text l p.0 n a p.2) in
      (nodes_of mode l, adds [] all, closed s.nodes clean (s.edges (adds [] all) (adds_nodup all [] Nodup-nil) edge_meant))

  -- ---- a graph that is refused
  module _ {n k : ℕ} {a : ScanAnswer} (r : Stopped of_entry edge_limit (nodes_of mode l) (entries l) 1 [] n k a) where
    until : Ran edge_limit [] (flat_map of_entry r.before) r.sofar
    until = run_ran edge_limit (flat_map of_entry r.before) [] r.sofar r.through

    first_at : FirstAt mode text l k r.at
    first_at = record {
      before = r.before;
      after = r.after;
      order = r.order;
      number = r.number;
      faultless = λ y m n a f. until.clean n a (each_in of_entry m (fault_stop mode text l y f));
    }

    -- the edges so far are those that the entries before give
    asked_before : (e : Edge) → Memᴰ e r.sofar → (y : Entry) × Memᴰ y r.before × Gives mode text l y e.from e.to
    asked_before e m =
        let o = adds_only (flat_map of_entry r.before) [] e (subst (λ t. Memᴰ e t) until.all m) in
        let p = each_out of_entry r.before (⊎_elim (λ n. absurd (Memᴰ.not-nil n)) (λ n. n) o) in
        (p.0, p.1, arcs_given mode text l p.0 e p.2)

    given_before : (e : Edge) → GivenBy mode text l r.before e → Memᴰ e r.sofar
    given_before e g =
        let m = each_in of_entry g.one (given_arcs mode text l g.giver g.gives) in
        subst (λ t. Memᴰ e t) (sym until.all) (adds_new (flat_map of_entry r.before) [] e m)

    few_before : (es : List Edge) → Nodup es → AllGivenBy mode text l r.before es → length es ≤ edge_limit
    few_before es d f =
        let k = no_longer es r.sofar d (λ e m. given_before e (f e m)) in
        let i : length r.sofar ≤ edge_limit = until.fits (omega arith) in
        omega arith

    given_here : (e : Edge) → Memᴰ e r.sofar ⊎ Memᴰ (arc e) (of_entry r.at) → GivenBy mode text l (r.before ++ (r.at ∷ [])) e
    given_here e (inl m) = let p = asked_before e m in record { giver = p.0; one = Memᴰ.append_left (r.at ∷ []) p.1; gives = p.2 }
    given_here e (inr m) =
        record { giver = r.at; one = Memᴰ.append_right r.before (Memᴰ.head refl); gives = arcs_given mode text l r.at e m }

    caused : Cause mode text l node_limit edge_limit n k a
    unfolding first_at
    caused =
        let d : Nodup r.sofar = subst (λ t. Nodup t) (sym until.all) (adds_nodup (flat_map of_entry r.before) [] Nodup-nil) in
        go (run_refused edge_limit (of_entry r.at) r.sofar n a d r.stopped)
      where
        go : Memᴰ (stop n a) (of_entry r.at) ⊎ Over edge_limit r.sofar (of_entry r.at) n a → Cause mode text l node_limit edge_limit n k a
        go (inl m) = by_fault r.at first_at (stop_fault mode text l r.at n a m)
        go (inr o) =
            subst₂
            (λ m b. Cause mode text l node_limit edge_limit m k b) o.number
            o.answer
            (edges r.at first_at few_before o.edges o.differ (λ e m. given_here e (o.asked e m)) o.many)

  refused_for : (n k : ℕ) (a : ScanAnswer) → graph_of mode node_limit edge_limit text l ≡ fault n k a → Cause mode text l node_limit edge_limit n k a
  unfolding graph_of
  refused_for n k a h = go (ltb node_limit (length (nodes_of mode l))) refl h
    where
      go : (b : Bool) → ltb node_limit (length (nodes_of mode l)) ≡ b → cond b (fault too_many_nodes 0 no_refusal) (walk_of mode edge_limit text l) ≡ fault n k a
          → Cause mode text l node_limit edge_limit n k a
      go true q h =
          let p : too_many_nodes ≡ n = cc in
          let r : 0 ≡ k = cc in
          let s : no_refusal ≡ a = cc in
          subst₃ (λ m j b. Cause mode text l node_limit edge_limit m j b) p r s (names (ltb-true node_limit (length (nodes_of mode l)) q))
      go false q h = caused (walk_refused of_entry edge_limit (nodes_of mode l) (entries l) 1 [] h)

pub demand3 : (mode : Mode) (node_limit edge_limit : ℕ) (text : Name → Text) → Demand3 mode node_limit edge_limit text
demand3 mode nl el text = record {
  right = λ l ns es h. right mode nl el text l (opened mode nl el text l h);
  built = λ l. (λ x. sound mode nl el text l (opened mode nl el text l x.2), build mode nl el text l);
  refused = refused_for mode nl el text;
  spread = graphs_agree mode nl el text;
  permuted = permuted_agree mode nl el text;
}
