-- The edges that a walk with no refusal asks for are exactly those of the meaning: what is asked for is given by its entry, by recursion on the depth left,
-- and what is meant is asked for by recursion on how its text comes to be read.
-- Assumes nothing.
use mathlib.Core.Path.{◌≡◌, refl, sym, ap, ◌∙◌, subst}
use mathlib.Core.List.Memᴰ
use mathlib.Core.List.{List, [], ◌∷◌, ◌++◌, flat_map, Memᴰ}
use mathlib.Core.Logic.{⊎_elim}
use mathlib.Core.Bool.{Bool, true, false, cond}
use Prim.Native.Nat.{ℕ, zero, suc}
use native.Mathlib.Omega.{arith}
use Rattle.library_image.specs.Library.{Name, PlainModule, PlainLibrary, modules_of}
use Rattle.graph.specs.Nodes.{Mode, nodes_of}
use Rattle.text.specs.Refusal.{no_refusal}
use Rattle.graph.specs.Graph.{ScanAnswer, Text, missing, refusing, deps, no_entry_text, no_included_text, unknown_module, unknown_submodule, no_node, too_deep}
use Rattle.graph.specs.Graph.{deepest, Edge, edge, Step, arc, stop, halt, World, imported, given, included, reading, text_steps, Entry, entries}
use Rattle.graph.specs.Graph.{entry_steps, entry_names, submodule_names, world}
use Rattle.graph.specs.Meaning.{Imports, Includes, Reads, entry, included as included-by, IsEdge, imports, includes, augments, deviates}
use Rattle.graph.specs.Meaning.{Follows, ReadAt, Gives, lists}
use Rattle.graph.proofs.Tests.{memb_mem, each_in, each_out}
use Rattle.graph.proofs.Runs.{Clean}
use Rattle.graph.proofs.Entries.{module_entry_lem, Came, from_module, from_import, came, entry_name, name_entry, module_name}

-- ---- the steps of a text

abbrev pub In : (t ss : List Step) → Type 0
In t ss = (s : Step) → Memᴰ s ss → Memᴰ s t

abbrev pub below_of : World → ℕ → Name → List Step
below_of W zero u = halt too_deep
below_of W (suc left) u = text_steps W left no_included_text u

pub text_steps_lem : (W : World) (left absent : ℕ) (v : Name) → text_steps W left absent v ≡ reading W (below_of W left) absent v (W.text v)
unfolding text_steps
text_steps_lem W zero absent v = refl
text_steps_lem W (suc left) absent v = refl

no_arc : {e : Edge} {n : ℕ} {a : ScanAnswer} {A : Type 0} → Memᴰ (arc e) (stop n a ∷ []) → A
no_arc m = let p = Memᴰ.eq_of_singleton m in let z : ◌≡◌ {A = ℕ} 0 1 = cc in absurd (omega arith)

one_arc : {e a : Edge} → Memᴰ (arc e) (arc a ∷ []) → e ≡ a
one_arc m = let p = Memᴰ.eq_of_singleton m in cc

module _ (mode : Mode) (text : Name → Text) (l : PlainLibrary) where
  abbrev pub W : World
  W = world mode text l

  abbrev pub trace : List Step
  trace = flat_map (entry_steps W) (entries l)

  -- ---- what an entry asks for is what it gives
  module _ (x : Entry) (e : Edge) where
    abbrev Given : Type 0
    Given = Gives mode text l x e.from e.to

    is : {u v : Name} → e ≡ edge u v → Gives mode text l x u v → Given
    is q k = subst (λ a. Gives mode text l x a.from a.to) (sym q) k

    read_given : (below : Name → List Step) {left : ℕ} (absent : ℕ) (v : Name) → ReadAt mode text l x left v
        → ((u : Name) → Follows mode text l v u → Memᴰ (arc e) (below u) → Given)
        → (y : Text) → text v ≡ y → Memᴰ (arc e) (reading W below absent v y) → Given
    read_given below absent v r ih missing q m = no_arc m
    read_given below absent v r ih (refusing a) q m = no_arc m
    read_given below absent v r ih (deps xs ys) q m =
        ⊎_elim
        (λ n. let p = each_out (imported W v) xs n in import p.0 p.1 (W.known p.0) refl p.2)
        (λ n. let p = each_out (included W below v) ys n in include p.0 p.1 (W.listed p.0) (W.node p.0) refl refl p.2)
        (Memᴰ.append_cases (flat_map (imported W v) xs) m)
      where
        import : (u : Name) → Memᴰ u xs → (b : Bool) → W.known u ≡ b → Memᴰ (arc e) (cond b (arc (edge u v) ∷ []) (halt unknown_module)) → Given
        import u k true f n = is (one_arc n) (imports r (record { imports = xs; includes = ys; scan = q; one = k }) (memb_mem u (entry_names l) f))
        import u k false f n = no_arc n

        include : (u : Name) → Memᴰ u ys → (b c : Bool) → W.listed u ≡ b → W.node u ≡ c
            → Memᴰ (arc e) (cond b (cond c (arc (edge u v) ∷ below u) (halt no_node)) (halt unknown_submodule)) → Given
        include u k true true f g n =
            let i : Includes text v u = record { imports = xs; includes = ys; scan = q; one = k } in
            let h : Follows mode text l v u = record { includes = i; listed = memb_mem u (submodule_names l) f; node = memb_mem u (nodes_of mode l) g } in
            ⊎_elim (λ p. let a : e ≡ edge u v = cc in is a (includes r h)) (λ o. ih u h o) (Memᴰ.cases_cons n)
        include u k true false f g n = no_arc n
        include u k false c f g n = no_arc n

    text_given : (left absent : ℕ) (v : Name) → ReadAt mode text l x left v → Memᴰ (arc e) (text_steps W left absent v) → Given
    unfolding text_steps
    text_given zero absent v r m = read_given (λ u. halt too_deep) absent v r (λ u f n. no_arc n) (text v) refl m
    text_given (suc left) absent v r m =
        read_given (text_steps W left no_included_text) absent v r (λ u f n. text_given left no_included_text u (included-by r f) n) (text v) refl m

    list_given : Memᴰ (arc e) (flat_map (given W x.name) x.lists) → Given
    list_given m = let p = each_out (given W x.name) x.lists m in go p.0 p.1 (W.known p.0) refl p.2
      where
        go : (u : Name) → Memᴰ u x.lists → (b : Bool) → W.known u ≡ b
            → Memᴰ (arc e) (cond b (arc (edge x.name u) ∷ []) (halt unknown_module)) → Given
        go u k true f n = is (one_arc n) (lists refl k (memb_mem u (entry_names l) f))
        go u k false f n = no_arc n

    pub arcs_given : Memᴰ (arc e) (entry_steps W x) → Gives mode text l x e.from e.to
    arcs_given m =
        ⊎_elim (text_given deepest no_entry_text x.name (entry refl)) list_given (Memᴰ.append_cases (text_steps W deepest no_entry_text x.name) m)

  -- ---- what an entry gives is an edge
  module _ {x : Entry} (m : Memᴰ x (entries l)) where
    is_read : {left : ℕ} {v : Name} → ReadAt mode text l x left v → Reads text l v
    is_read (entry q) = entry (Memᴰ.cast q (entry_name l (came l m)))
    is_read (included-by r f) = included-by (is_read r) f.includes

    list_edge : Came l x → {u v : Name} → u ≡ x.name → Memᴰ v x.lists → IsEdge text l u v
    list_edge (from_import i j q) {v = v} h k = absurd (Memᴰ.not-nil (subst (λ (y : Entry). Memᴰ v y.lists) (sym q) k))
    list_edge (from_module n j q) {v = v} h k =
        let name = h ∙ ap (λ (y : Entry). y.name) (sym q) in
        ⊎_elim (λ o. augments n j name o) (λ o. deviates n j name o)
        (Memᴰ.append_cases n.augmenting (subst (λ (y : Entry). Memᴰ v y.lists) (sym q) k))

    given_edge : {u v : Name} → Gives mode text l x u v → IsEdge text l u v
    given_edge (imports r i n) = imports (is_read r) i
    given_edge (includes r f) = includes (is_read r) f.includes
    given_edge (lists q k n) = list_edge (came l m) q k

  pub arcs_meant : (e : Edge) → Memᴰ (arc e) trace → IsEdge text l e.from e.to
  arcs_meant e m = let p = each_out (entry_steps W) (entries l) m in given_edge p.1 (arcs_given p.0 e p.2)

  -- ---- what is meant is asked for, if nothing is refused
  -- the steps of v's text, with so much depth left, stand in t
  pub record Held (t : List Step) (left : ℕ) (v : Name) : Type 0 where
    pub absent : ℕ
    pub steps : In t (text_steps W left absent v)

  pub text_in : (t : List Step) (left absent : ℕ) (v : Name) → In t (text_steps W left absent v) → (x : Text) → text v ≡ x
      → In t (reading W (below_of W left) absent v x)
  text_in t left absent v a x q s m = a s (subst (λ l. Memᴰ s l) (sym (text_steps_lem W left absent v ∙ ap (reading W (below_of W left) absent v) q)) m)

  pub import_in : {t : List Step} {left : ℕ} {v u : Name} → Held t left v → Imports text v u → In t (imported W v u)
  import_in {t} {left} {v} h i s m = text_in t left h.absent v h.steps _ i.scan s (Memᴰ.append_left _ (each_in (imported W v) i.one m))

  pub include_in : {t : List Step} {left : ℕ} {v u : Name} → Held t left v → Includes text v u → In t (included W (below_of W left) v u)
  include_in {t} {left} {v} h i s m =
      text_in t left h.absent v h.steps _ i.scan s (Memᴰ.append_right (flat_map (imported W v) i.imports)
      (each_in (included W (below_of W left) v) i.one m))

  entry_in : {v : Name} → Memᴰ v (entry_names l) → In trace (text_steps W deepest no_entry_text v)
  entry_in {v} k s m =
      let p = name_entry l k in
      each_in (entry_steps W) p.1 (Memᴰ.append_left _ (subst (λ w. Memᴰ s (text_steps W deepest no_entry_text w)) (sym p.2) m))

  given_in : {m : PlainModule} {u : Name} → Memᴰ m (modules_of l) → Memᴰ u (m.augmenting ++ m.deviations) → In trace (given W m.name u)
  given_in {m} {u} j k s n =
      each_in (entry_steps W) (module_entry_lem l j) (Memᴰ.append_right (text_steps W deepest no_entry_text m.name) (each_in (given W m.name) k n))

  module _ {t : List Step} (clean : Clean t) where
    refuted : {n : ℕ} {A : Type 0} → In t (halt n) → A
    refuted {n} f = absurd (clean n no_refusal (f (stop n no_refusal) (Memᴰ.head refl)))

    one_in : (a : Edge) (b : Bool) → In t (cond b (arc a ∷ []) (halt unknown_module)) → Memᴰ (arc a) t
    one_in a true f = f (arc a) (Memᴰ.head refl)
    one_in a false f = refuted f

    both_in : (below : List Step) (v u : Name) (b c : Bool) → In t (cond b (cond c (arc (edge u v) ∷ below) (halt no_node)) (halt unknown_submodule))
        → Memᴰ (arc (edge u v)) t × In t below
    both_in below v u true true f = (f (arc (edge u v)) (Memᴰ.head refl), λ s m. f s (Memᴰ.tail m))
    both_in below v u true false f = refuted f
    both_in below v u false c f = refuted f

    down : {left : ℕ} {v u : Name} → Held t left v → Includes text v u → Memᴰ (arc (edge u v)) t × In t (below_of W left u)
    down {left} {v} {u} h i = both_in (below_of W left u) v u (W.listed u) (W.node u) (include_in h i)

  module _ (clean : Clean trace) where
    held : {v : Name} → Reads text l v → (left : ℕ) × Held trace left v
    held {v} (entry k) = (deepest, record { absent = no_entry_text; steps = entry_in k })
    held {v} (included-by {v = w} r i) = let h = held r in go h.0 (down clean h.1 i).1
      where
        go : (left : ℕ) → In trace (below_of W left v) → (left : ℕ) × Held trace left v
        go zero f = refuted clean f
        go (suc left) f = (left, record { absent = no_included_text; steps = f })

    listed_in : {m : PlainModule} {v : Name} → Memᴰ m (modules_of l) → Memᴰ v (m.augmenting ++ m.deviations)
        → Memᴰ (arc (edge m.name v)) trace
    listed_in {m} {v} j k = one_in clean (edge m.name v) (W.known v) (given_in j k)

    pub meant_arcs : (u v : Name) → IsEdge text l u v → Memᴰ (arc (edge u v)) trace
    meant_arcs u v (imports r i) = one_in clean (edge u v) (W.known u) (import_in (held r).1 i)
    meant_arcs u v (includes r i) = (down clean (held r).1 i).0
    meant_arcs u v (augments m j q k) = subst (λ w. Memᴰ (arc (edge w v)) trace) (sym q) (listed_in j (Memᴰ.append_left m.deviations k))
    meant_arcs u v (deviates m j q k) = subst (λ w. Memᴰ (arc (edge w v)) trace) (sym q) (listed_in j (Memᴰ.append_right m.augmenting k))

    -- the ends of an edge are nodes
    known_in : (u : Name) (t : List Step) (b : Bool) → In trace (cond b t (halt unknown_module)) → b ≡ true
    known_in u t true f = refl
    known_in u t false f = refuted clean f

    node_in : (t : List Step) (b c : Bool) → In trace (cond b (cond c t (halt no_node)) (halt unknown_submodule)) → c ≡ true
    node_in t true true f = refl
    node_in t true false f = refuted clean f
    node_in t false c f = refuted clean f

    module _ (entry_node : (v : Name) → Memᴰ v (entry_names l) → Memᴰ v (nodes_of mode l)) where
      included_node : {v u : Name} → Reads text l v → Includes text v u → Memᴰ u (nodes_of mode l)
      included_node {v} {u} r i = memb_mem u (nodes_of mode l) (node_in _ (W.listed u) (W.node u) (include_in (held r).1 i))

      read_node : {v : Name} → Reads text l v → Memᴰ v (nodes_of mode l)
      read_node {v} (entry k) = entry_node v k
      read_node {v} (included-by r i) = included_node r i

      known_node : (u : Name) (t : List Step) → In trace (cond (W.known u) t (halt unknown_module)) → Memᴰ u (nodes_of mode l)
      known_node u t f = entry_node u (memb_mem u (entry_names l) (known_in u t (W.known u) f))

      module_node : (m : PlainModule) → Memᴰ m (modules_of l) → Memᴰ m.name (nodes_of mode l)
      module_node m j = entry_node m.name (Memᴰ.append_left _ (Memᴰ.map module_name j))

      pub ends_nodes : (u v : Name) → IsEdge text l u v → Memᴰ u (nodes_of mode l) × Memᴰ v (nodes_of mode l)
      ends_nodes u v (imports r i) = (known_node u _ (import_in (held r).1 i), read_node r)
      ends_nodes u v (includes r i) = (included_node r i, read_node r)
      ends_nodes u v (augments m j q k) = (Memᴰ.cast q (module_node m j), known_node v _ (given_in j (Memᴰ.append_left m.deviations k)))
      ends_nodes u v (deviates m j q k) = (Memᴰ.cast q (module_node m j), known_node v _ (given_in j (Memᴰ.append_right m.augmenting k)))
