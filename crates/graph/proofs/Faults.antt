-- The refusals among the steps of an entry are exactly its faults, each number for itself, whether or not something before it is refused. And the edges that
-- an entry gives are asked for by its steps.
-- Assumes nothing.
use mathlib.Core.Path.{◌≡◌, refl, sym, subst, subst₂}
use mathlib.Core.List.Memᴰ
use mathlib.Core.List.{List, [], ◌∷◌, flat_map, Memᴰ}
use mathlib.Core.Logic.{⊎_elim}
use mathlib.Core.Bool.{Bool, true, false, cond}
use Prim.Native.Nat.{ℕ, zero, suc, ◌<◌}
use native.Mathlib.Omega.{arith}
use Rattle.library_image.specs.Library.{Name, PlainLibrary}
use Rattle.graph.specs.Nodes.{Mode, nodes_of, memb}
use Rattle.text.specs.Refusal.{no_refusal}
use Rattle.graph.specs.Graph.{ScanAnswer, Text, missing, refusing, deps, no_entry_text, no_included_text, unknown_module, unknown_submodule, no_node, too_deep}
use Rattle.graph.specs.Graph.{deepest, Edge, edge, Step, arc, stop, halt, World, imported, given, included, reading, text_steps, Entry, entry_steps}
use Rattle.graph.specs.Graph.{entry_names, submodule_names, world}
use Rattle.graph.specs.Meaning.{Follows, ReadAt, entry, included as included-by, Fault, entry_missing, include_missing, scan_refused_lem, import_unknown}
use Rattle.graph.specs.Meaning.{listed_unknown, include_unknown, include_no_node, too_deep_lem, Gives, imports, includes, lists}
use Rattle.graph.proofs.Tests.{both_bools, memb_mem, mem_memb, each_in, each_out}
use Rattle.graph.proofs.Meaning.{below_of, In, Held, text_in, import_in, include_in}

out : {u : Name} {ws : List Name} → memb u ws ≡ false → ¬ Memᴰ u ws
out q m = both_bools (mem_memb m) q

not_memb : (u : Name) (ws : List Name) → ¬ Memᴰ u ws → memb u ws ≡ false
not_memb u ws f = go (memb u ws) refl
  where
    go : (b : Bool) → memb u ws ≡ b → memb u ws ≡ false
    go true q = absurd (f (memb_mem u ws q))
    go false q = q

module _ (mode : Mode) (text : Name → Text) (l : PlainLibrary) (x : Entry) where
  abbrev W : World
  W = world mode text l

  abbrev steps : List Step
  steps = entry_steps W x

  -- ---- the numbers of faults
  pub fault_below : {n : ℕ} {a : ScanAnswer} → Fault mode text l x n a → n < 30
  fault_below (entry_missing h) = omega arith
  fault_below (include_missing r f h) = omega arith
  fault_below (scan_refused_lem r h) = omega arith
  fault_below (import_unknown r i u) = omega arith
  fault_below (listed_unknown m u) = omega arith
  fault_below (include_unknown r i u) = omega arith
  fault_below (include_no_node r i m u) = omega arith
  fault_below (too_deep_lem r f) = omega arith

  -- ---- a refusal is a fault
  fault : {n k : ℕ} {a b : ScanAnswer} → Memᴰ (stop n a) (stop k b ∷ []) → Fault mode text l x k b → Fault mode text l x n a
  fault {n} {k} {a} {b} m f = let p = Memᴰ.eq_of_singleton m in let q : k ≡ n = cc in let r : b ≡ a = cc in subst₂ (λ n a. Fault mode text l x n a) q r f

  no_stop : {n : ℕ} {a : ScanAnswer} {e : Edge} {t : List Step} → Memᴰ (stop n a) (arc e ∷ t) → Memᴰ (stop n a) t
  no_stop m = ⊎_elim (λ p. let z : ◌≡◌ {A = ℕ} 0 1 = cc in absurd (omega arith)) (λ n. n) (Memᴰ.cases_cons m)

  module _ (n : ℕ) (a : ScanAnswer) where
    read_fault : (below : Name → List Step) (left absent : ℕ) (v : Name) → ReadAt mode text l x left v
        → (text v ≡ missing → Fault mode text l x absent no_refusal)
        → ((u : Name) → Follows mode text l v u → Memᴰ (stop n a) (below u) → Fault mode text l x n a)
        → (y : Text) → text v ≡ y → Memᴰ (stop n a) (reading W below absent v y) → Fault mode text l x n a
    read_fault below left absent v r f ih missing q m = fault m (f q)
    read_fault below left absent v r f ih (refusing b) q m = fault m (scan_refused_lem r q)
    read_fault below left absent v r f ih (deps xs ys) q m =
        ⊎_elim
        (λ n. let p = each_out (imported W v) xs n in import p.0 p.1 (W.known p.0) refl p.2)
        (λ n. let p = each_out (included W below v) ys n in include p.0 p.1 (W.listed p.0) (W.node p.0) refl refl p.2)
        (Memᴰ.append_cases (flat_map (imported W v) xs) m)
      where
        import : (u : Name) → Memᴰ u xs → (b : Bool) → W.known u ≡ b → Memᴰ (stop n a) (cond b (arc (edge u v) ∷ []) (halt unknown_module))
            → Fault mode text l x n a
        import u k true e m = absurd (Memᴰ.not-nil (no_stop m))
        import u k false e m = fault m (import_unknown r (record { imports = xs; includes = ys; scan = q; one = k }) (out e))

        include : (u : Name) → Memᴰ u ys → (b c : Bool) → W.listed u ≡ b → W.node u ≡ c
            → Memᴰ (stop n a) (cond b (cond c (arc (edge u v) ∷ below u) (halt no_node)) (halt unknown_submodule)) → Fault mode text l x n a
        include u k true true e d m =
            ih u (record {
              includes = record { imports = xs; includes = ys; scan = q; one = k };
              listed = memb_mem u (submodule_names l) e;
              node = memb_mem u
                  (nodes_of mode l) d;
            }) (no_stop m)
        include u k true false e d m =
            fault m (include_no_node r (record { imports = xs; includes = ys; scan = q; one = k }) (memb_mem u (submodule_names l) e) (out d))
        include u k false c e d m = fault m (include_unknown r (record { imports = xs; includes = ys; scan = q; one = k }) (out e))

    text_fault : (left absent : ℕ) (v : Name) → ReadAt mode text l x left v → (text v ≡ missing → Fault mode text l x absent no_refusal)
        → Memᴰ (stop n a) (text_steps W left absent v) → Fault mode text l x n a
    unfolding text_steps
    text_fault zero absent v r f m = read_fault (λ u. halt too_deep) zero absent v r f (λ u i m. fault m (too_deep_lem r i)) (text v) refl m
    text_fault (suc left) absent v r f m =
        read_fault (text_steps W left no_included_text) (suc left) absent v r f
        (λ u i m. text_fault left no_included_text u (included-by r i) (λ q. include_missing r i q) m) (text v) refl m

    given_fault : (u : Name) → Memᴰ u x.lists → (b : Bool) → W.known u ≡ b
        → Memᴰ (stop n a) (cond b (arc (edge x.name u) ∷ []) (halt unknown_module)) → Fault mode text l x n a
    given_fault u k true e m = absurd (Memᴰ.not-nil (no_stop m))
    given_fault u k false e m = fault m (listed_unknown k (out e))

    pub stop_fault : Memᴰ (stop n a) steps → Fault mode text l x n a
    stop_fault m =
        ⊎_elim
        (λ m. text_fault deepest no_entry_text x.name (entry refl) (λ q. entry_missing q) m)
        (λ m. let p = each_out (given W x.name) x.lists m in given_fault p.0 p.1 (W.known p.0) refl p.2)
        (Memᴰ.append_cases (text_steps W deepest no_entry_text x.name) m)

  -- ---- a fault is a refusal
  pick : (t u : List Step) {b c : Bool} → b ≡ c → In steps (cond b t u) → In steps (cond c t u)
  pick t u q f = subst (λ b. In steps (cond b t u)) q f

  -- an include that is listed and a node: its text is due
  down : {left : ℕ} {v u : Name} → Held mode text l steps left v → Follows mode text l v u → In steps (below_of W left u)
  down {left} {v} {u} h i t m =
      pick (arc (edge u v) ∷ below_of W left u) (halt no_node) (mem_memb i.node)
      (pick _ (halt unknown_submodule) (mem_memb i.listed) (include_in mode text l h i.includes)) t (Memᴰ.tail m)

  entry_in : In steps (text_steps W deepest no_entry_text x.name)
  entry_in s m = Memᴰ.append_left _ m

  list_in : {u : Name} → Memᴰ u x.lists → In steps (given W x.name u)
  list_in k s m = Memᴰ.append_right (text_steps W deepest no_entry_text x.name) (each_in (given W x.name) k m)

  held : {left : ℕ} {v : Name} → ReadAt mode text l x left v → Held mode text l steps left v
  held (entry q) = record { absent = no_entry_text; steps = subst (λ w. In steps (text_steps W deepest no_entry_text w)) (sym q) entry_in }
  held (included-by r i) = record { absent = no_included_text; steps = down (held r) i }

  first : {n : ℕ} {a : ScanAnswer} → In steps (stop n a ∷ []) → Memᴰ (stop n a) steps
  first {n} {a} f = f (stop n a) (Memᴰ.head refl)

  pub fault_stop : {n : ℕ} {a : ScanAnswer} → Fault mode text l x n a → Memᴰ (stop n a) steps
  fault_stop (entry_missing q) = first (text_in mode text l steps deepest no_entry_text x.name entry_in missing q)
  fault_stop (include_missing {left = left} {u = u} r i q) = first (text_in mode text l steps left no_included_text u (down (held r) i) missing q)
  fault_stop (scan_refused_lem {left = left} {v = v} {a = a} r q) =
      let h = held r in
      first (text_in mode text l steps left h.absent v h.steps (refusing a) q)
  fault_stop (import_unknown {v = v} {u = u} r i f) =
      first (pick (arc (edge u v) ∷ []) (halt unknown_module) (not_memb u (entry_names l) f) (import_in mode text l (held r) i))
  fault_stop (listed_unknown {u = u} k f) =
      first (pick (arc (edge x.name u) ∷ []) (halt unknown_module) (not_memb u (entry_names l) f) (list_in k))
  fault_stop (include_unknown {left = left} {v = v} {u = u} r i f) =
      first (pick _ (halt unknown_submodule) (not_memb u (submodule_names l) f) (include_in mode text l (held r) i))
  fault_stop (include_no_node {left = left} {v = v} {u = u} r i s f) =
      first (pick (arc (edge u v) ∷ below_of W left u) (halt no_node) (not_memb u (nodes_of mode l) f)
      (pick _ (halt unknown_submodule) (mem_memb s) (include_in mode text l (held r) i)))
  fault_stop (too_deep_lem r i) = first (down (held r) i)

  -- ---- what the entry gives is asked for
  pub given_arcs : {u v : Name} → Gives mode text l x u v → Memᴰ (arc (edge u v)) steps
  given_arcs {u} {v} (imports r i n) =
      pick (arc (edge u v) ∷ []) (halt unknown_module) (mem_memb n) (import_in mode text l (held r) i) (arc (edge u v)) (Memᴰ.head refl)
  given_arcs {u} {v} (includes {left = left} r f) =
      pick (arc (edge u v) ∷ below_of W left u) (halt no_node) (mem_memb f.node)
      (pick _ (halt unknown_submodule) (mem_memb f.listed) (include_in mode text l (held r) f.includes)) (arc (edge u v)) (Memᴰ.head refl)
  given_arcs {u} {v} (lists q k n) =
      subst (λ w. Memᴰ (arc (edge w v)) steps) (sym q)
      (pick (arc (edge x.name v) ∷ []) (halt unknown_module) (mem_memb n) (list_in k) (arc (edge x.name v)) (Memᴰ.head refl))
