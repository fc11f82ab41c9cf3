-- The walk over numbers is the walk over names, in numbers: every edge asked for joins two nodes, so a row is among the rows exactly if its edge is among
-- the edges, and a number leads back to its name.
-- Assumes nothing.
use Prim.Native.Nat.{ℕ, zero, suc, ◌+◌, ◌<◌}
use mathlib.Core.Path.{◌≡◌, refl, sym, ap, ◌∙◌, subst}
use mathlib.Core.Logic.{⊎_elim}
use mathlib.Core.Bool.{Bool, true, false, cond}
use mathlib.Core.List.Memᴰ
use mathlib.Core.List.{List, [], ◌∷◌, ◌++◌, map, map-append, Memᴰ}
use lib.ListN.{length}
use lib.Dec.{leb}
use Rattle.library_image.specs.Library.{Name, PlainLibrary}
use Rattle.graph.specs.Nodes.{Mode, nodes_of}
use Rattle.text.specs.Refusal.{no_refusal}
use Rattle.graph.specs.Graph.{Text, missing, refusing, deps, no_entry_text, no_included_text, unknown_module, unknown_submodule, no_node, too_deep, too_many_edges}
use Rattle.graph.specs.Graph.{deepest, Edge, edge, mem_e, World, Entry, entries, entry_steps, world, Out, built, refused, then_o, add_by, run, fault, on_out}
use Rattle.graph.specs.Graph.{walk_from, walk_of}
use Rattle.graph.specs.Numbers.{number_of, Row, row_of, add_row, module_code, submodule_code, codes_of, each_o, import_code, given_code, include_code, visit_codes}
use Rattle.graph.specs.Numbers.{walk_codes, walk_entry_codes, Drawing, drawn, faulty, draw_from, codes_at, entry_code, drawing_in, drawing_of, numbered}
use Rattle.graph.specs.Meaning.{Revised}
use Rattle.graph.proofs.Tests.{memb_mem}
use Rattle.graph.proofs.Shape.{each_o as eachE, import_o, given_o, include_o, visit, walk, entry_shape}
use Rattle.graph.proofs.Entries.{entry_is_node, known_node}
use Rattle.graph.proofs.Numbers.{number_at, Ends, small_rows, present}

length-map : {A B : Type 0} (f : A → B) (l : List A) → length (map f l) ≡ length l
length-map f [] = refl
length-map f (x ∷ l) = ap suc (length-map f l)

module _ (ns : List Name) where
  -- ---- the edges so far, in numbers
  abbrev rows : List Edge → List Row
  rows es = map (row_of ns) es

  abbrev Joined : List Edge → Type 0
  Joined es = (e : Edge) → Memᴰ e es → Ends ns e

  abbrev in_rows : Out Edge → Out Row
  in_rows (built es) = built (rows es)
  in_rows (refused n a) = refused n a

  abbrev Fine : Out Edge → Type 0
  Fine (built es) = Joined es
  Fine (refused n a) = Unit {0}

  record Same (r : Out Row) (o : Out Edge) : Type 0 where
    same : r ≡ in_rows o
    fine : Fine o

  then_same : {r : Out Row} (o : Out Edge) (f : List Row → Out Row) (g : List Edge → Out Edge) → Same r o
      → ((es : List Edge) → Joined es → Same (f (rows es)) (g es)) → Same (then_o r f) (then_o o g)
  then_same (built es) f g s h = let t = h es s.fine in record { same = ap (λ x. then_o x f) s.same ∙ t.same; fine = t.fine }
  then_same (refused n a) f g s h = record { same = ap (λ x. then_o x f) s.same; fine = tt }

  each_same : {A : Type 0} (code : Name → A) (f : A → List Row → Out Row) (g : Name → List Edge → Out Edge)
      → ((u : Name) (es : List Edge) → Joined es → Same (f (code u) (rows es)) (g u es))
      → (us : List Name) (es : List Edge) → Joined es → Same (each_o f (map code us) (rows es)) (eachE g us es)
  unfolding each_o eachE
  each_same code f g h [] es j = record { same = refl; fine = j }
  each_same code f g h (u ∷ us) es j = then_same (g u es) (each_o f (map code us)) (eachE g us) (h u es j) (each_same code f g h us)

  snoc_joined : (es : List Edge) (e : Edge) → Joined es → Ends ns e → Joined (es ++ (e ∷ []))
  snoc_joined es e j k x m = ⊎_elim (j x) (λ n. subst (λ y. Ends ns y) (sym (Memᴰ.eq_of_singleton n)) k) (Memᴰ.append_cases es m)

  add_same : (limit : ℕ) (e : Edge) → Ends ns e → (es : List Edge) → Joined es → Same (add_row limit (rows es) (row_of ns e)) (add_by mem_e limit es e)
  unfolding add_by
  add_same limit e k es j = rw (present ns es j e k, length-map (row_of ns) es) (go (mem_e e es) (leb limit (length es)))
    where
      go : (b c : Bool) → Same (cond b (built (rows es)) (cond c (refused too_many_edges no_refusal) (built (rows es ++ (row_of ns e ∷ [])))))
          (cond b (built es) (cond c (refused too_many_edges no_refusal) (built (es ++ (e ∷ [])))))
      go true c = record { same = refl; fine = j }
      go false true = record { same = refl; fine = tt }
      go false false = record { same = ap built (sym (map-append (row_of ns) es (e ∷ []))); fine = snoc_joined es e j k }

  -- the numbers of each row are of nodes
  abbrev Sized : Drawing → Type 0
  Sized (drawn rs) = (r : Row) → Memᴰ r rs → (r.from < length ns) × (r.to < length ns)
  Sized (faulty n k a) = Unit {0}

  module _ (W : World) (limit : ℕ) (known : (u : Name) → W.known u ≡ true → Memᴰ u ns) (node : (u : Name) → W.node u ≡ true → Memᴰ u ns) where
    -- ---- one name
    import_same : (v : Name) → Memᴰ v ns → (u : Name) (es : List Edge) → Joined es
        → Same (import_code limit (number_of ns v) (module_code W ns u) (rows es)) (import_o W limit v u es)
    import_same v m u es j = go (W.known u) refl
      where
        go : (b : Bool) → W.known u ≡ b
            → Same (import_code limit (number_of ns v) (cond b (suc (number_of ns u)) 0) (rows es))
            (cond b (add_by mem_e limit es (edge u v)) (refused unknown_module no_refusal))
        go true q = add_same limit (edge u v) (known u q, m) es j
        go false q = record { same = refl; fine = tt }

    given_same : (v : Name) → Memᴰ v ns → (u : Name) (es : List Edge) → Joined es
        → Same (given_code limit (number_of ns v) (module_code W ns u) (rows es)) (given_o W limit v u es)
    given_same v m u es j = go (W.known u) refl
      where
        go : (b : Bool) → W.known u ≡ b
            → Same (given_code limit (number_of ns v) (cond b (suc (number_of ns u)) 0) (rows es))
            (cond b (add_by mem_e limit es (edge v u)) (refused unknown_module no_refusal))
        go true q = add_same limit (edge v u) (m, known u q) es j
        go false q = record { same = refl; fine = tt }

    -- what an included text gives, by number and by name
    abbrev Below : (ℕ → List Row → Out Row) → (Name → List Edge → Out Edge) → Type 0
    Below f g = (u : Name) → Memᴰ u ns → (es : List Edge) → Joined es → Same (f (number_of ns u) (rows es)) (g u es)

    include_same : (f : ℕ → List Row → Out Row) (g : Name → List Edge → Out Edge) → Below f g → (v : Name) → Memᴰ v ns → (u : Name) (es : List Edge)
        → Joined es
        → Same (include_code limit f (number_of ns v) (submodule_code W ns u) (rows es)) (include_o W limit g v u es)
    include_same f g h v m u es j = go (W.listed u) (W.node u) refl
      where
        go : (b c : Bool) → W.node u ≡ c → Same (include_code limit f (number_of ns v) (cond b (cond c (suc (suc (number_of ns u))) 1) 0) (rows es))
            (cond b (cond c (then_o (add_by mem_e limit es (edge u v)) (g u)) (refused no_node no_refusal)) (refused unknown_submodule no_refusal))
        go true true q = then_same (add_by mem_e limit es (edge u v)) (f (number_of ns u)) (g u) (add_same limit (edge u v) (node u q, m) es j) (h u (node u q))
        go true false q = record { same = refl; fine = tt }
        go false c q = record { same = refl; fine = tt }

    -- ---- a text, an entry
    visit_same : (f : ℕ → List Row → Out Row) (g : Name → List Edge → Out Edge) → Below f g → (absent : ℕ) (v : Name) → Memᴰ v ns
        → (x : Text) (es : List Edge) → Joined es
        → Same (visit_codes limit f absent (number_of ns v) (codes_of W ns x) (rows es)) (visit W limit g absent v x es)
    visit_same f g h absent v m missing es j = record { same = refl; fine = tt }
    visit_same f g h absent v m (refusing a) es j = record { same = refl; fine = tt }
    visit_same f g h absent v m (deps xs ys) es j =
        then_same (eachE (import_o W limit v) xs es) (each_o (include_code limit f (number_of ns v)) (map (submodule_code W ns) ys))
        (eachE (include_o W limit g v) ys)
        (each_same (module_code W ns) (import_code limit (number_of ns v)) (import_o W limit v) (import_same v m) xs es j)
        (each_same (submodule_code W ns) (include_code limit f (number_of ns v)) (include_o W limit g v) (include_same f g h v m) ys)

    under_name : (v : Name) → Memᴰ v ns → codes_at W ns (number_of ns v) ≡ codes_of W ns (W.text v)
    unfolding codes_at
    under_name v m = ap (λ u. codes_of W ns (W.text u)) (number_at ns v [] m)

    walk_same : (left absent : ℕ) → Below (walk_codes (codes_at W ns) limit left absent) (walk W limit left absent)
    unfolding walk_codes walk
    walk_same zero absent v m es j =
        rw (under_name v m) (visit_same (λ u rs. refused too_deep no_refusal) (λ u es₁. refused too_deep no_refusal)
        (λ u k es₁ i. record { same = refl; fine = tt }) absent v m (W.text v) es j)
    walk_same (suc left) absent v m es j =
        rw (under_name v m) (visit_same (walk_codes (codes_at W ns) limit left no_included_text) (walk W limit left no_included_text)
        (walk_same left no_included_text) absent v m (W.text v) es j)

    entry_same : (e : Entry) → Memᴰ e.name ns → (es : List Edge) → Joined es
        → Same (walk_entry_codes (codes_at W ns) limit (number_of ns e.name) (map (module_code W ns) e.lists) (rows es)) (run limit es (entry_steps W e))
    unfolding walk_entry_codes
    entry_same e m es j =
        subst (λ o. Same (walk_entry_codes (codes_at W ns) limit (number_of ns e.name) (map (module_code W ns) e.lists) (rows es)) o)
        (entry_shape W limit e es)
        (then_same (walk W limit deepest no_entry_text e.name es) (each_o (given_code limit (number_of ns e.name)) (map (module_code W ns) e.lists))
        (eachE (given_o W limit e.name) e.lists)
        (walk_same deepest no_entry_text e.name m es j)
        (each_same (module_code W ns) (given_code limit (number_of ns e.name)) (given_o W limit e.name) (given_same e.name m) e.lists))

    -- ---- all entries
    draw_same : (l : List Entry) → ((e : Entry) → Memᴰ e l → Memᴰ e.name ns) → (k : ℕ) (es : List Edge) → Joined es
        → (draw_from (codes_at W ns) limit k (rows es) (map (entry_code W ns) l) ≡ numbered (walk_from limit ns k es (map (entry_steps W) l)))
        × Sized (draw_from (codes_at W ns) limit k (rows es) (map (entry_code W ns) l))
    unfolding draw_from walk_from
    draw_same [] h k es j = (refl, small_rows ns es j)
    draw_same (e ∷ l) h k es j =
        go (run limit es (entry_steps W e)) (entry_same e (h e (Memᴰ.head refl)) es j) (draw_same l (λ x m. h x (Memᴰ.tail m)) (k + 1))
      where
        go : {r : Out Row} (o : Out Edge) → Same r o
            → ((es₁ : List Edge) → Joined es₁ → (draw_from (codes_at W ns) limit (k + 1) (rows es₁) (map (entry_code W ns) l)
            ≡ numbered (walk_from limit ns (k + 1) es₁ (map (entry_steps W) l)))
            × Sized (draw_from (codes_at W ns) limit (k + 1) (rows es₁) (map (entry_code W ns) l)))
            → (on_out r (λ rs₁. draw_from (codes_at W ns) limit (k + 1) rs₁ (map (entry_code W ns) l)) (λ n a. faulty n k a)
            ≡ numbered (on_out o (λ es₁. walk_from limit ns (k + 1) es₁ (map (entry_steps W) l)) (λ n a. fault n k a)))
            × Sized (on_out r (λ rs₁. draw_from (codes_at W ns) limit (k + 1) rs₁ (map (entry_code W ns) l)) (λ n a. faulty n k a))
        go (built es₁) s ih = rw s.same (ih es₁ s.fine)
        go (refused n a) s ih = rw s.same (refl, tt)

module _ (mode : Mode) (limit : ℕ) (text : Name → Text) (l : PlainLibrary) (revised : Revised l) where
  pub drawing : numbered (walk_of mode limit text l) ≡ drawing_of mode limit text l
  unfolding drawing_of drawing_in
  drawing =
      sym
      (draw_same (nodes_of mode l) (world mode text l) limit (known_node mode l revised) (λ u q. memb_mem u (nodes_of mode l) q) (entries l)
      (entry_is_node mode l revised) 1 [] (λ e m. absurd (Memᴰ.not-nil m))).0
