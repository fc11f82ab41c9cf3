-- The walk as code takes it, with the edges so far handed on and a call of itself with the depth left, is the run of the steps: a run of two lists
-- is one run after the other.
-- Assumes nothing.
use mathlib.Core.Path.{◌≡◌, refl, sym, ap, ◌∙◌}
use mathlib.Core.List.{List, [], ◌∷◌, flat_map}
use mathlib.Core.Bool.{Bool, true, false, cond}
use Prim.Native.Nat.{ℕ, zero, suc}
use Rattle.library_image.specs.Library.{Name}
use Rattle.text.specs.Refusal.{no_refusal}
use Rattle.graph.specs.Graph.{Text, missing, refusing, deps, no_entry_text, no_included_text, scan_refused, unknown_module, unknown_submodule, no_node, too_deep}
use Rattle.graph.specs.Graph.{deepest, Edge, edge, mem_e, Step, arc, halt, World, imported, given, included, reading, text_steps, Entry, entry_steps, Out}
use Rattle.graph.specs.Graph.{built, refused, then_o, add_by, run}
use Rattle.graph.proofs.Runs.{run_append}

-- ---- the shape

unfoldable pub each_o : {A : Type 0} → (A → List Edge → Out Edge) → List A → List Edge → Out Edge
each_o f [] es = built es
each_o f (x ∷ xs) es = then_o (f x es) (each_o f xs)

abbrev pub import_o : World → (limit : ℕ) → (v u : Name) → List Edge → Out Edge
import_o W limit v u es = cond (W.known u) (add_by mem_e limit es (edge u v)) (refused unknown_module no_refusal)

abbrev pub given_o : World → (limit : ℕ) → (v u : Name) → List Edge → Out Edge
given_o W limit v u es = cond (W.known u) (add_by mem_e limit es (edge v u)) (refused unknown_module no_refusal)

abbrev pub include_o : World → (limit : ℕ) → (Name → List Edge → Out Edge) → (v u : Name) → List Edge → Out Edge
include_o W limit below v u es =
    cond (W.listed u) (cond (W.node u) (then_o (add_by mem_e limit es (edge u v)) (below u)) (refused no_node no_refusal)) (refused unknown_submodule no_refusal)

abbrev pub visit : World → (limit : ℕ) → (Name → List Edge → Out Edge) → (absent : ℕ) → (v : Name) → Text → List Edge → Out Edge
visit W limit below absent v missing es = refused absent no_refusal
visit W limit below absent v (refusing a) es = refused scan_refused a
visit W limit below absent v (deps imports includes) es = then_o (each_o (import_o W limit v) imports es) (each_o (include_o W limit below v) includes)

unfoldable pub walk : World → (limit left absent : ℕ) → (v : Name) → List Edge → Out Edge
walk W limit zero absent v es = visit W limit (λ u es₁. refused too_deep no_refusal) absent v (W.text v) es
walk W limit (suc left) absent v es = visit W limit (walk W limit left no_included_text) absent v (W.text v) es

abbrev pub walk_entry : World → (limit : ℕ) → Entry → List Edge → Out Edge
walk_entry W limit e es = then_o (walk W limit deepest no_entry_text e.name es) (each_o (given_o W limit e.name) e.lists)

-- ---- it is the run of the steps

then_o_built : (o : Out Edge) → then_o o (λ es. built es) ≡ o
then_o_built (built es) = refl
then_o_built (refused n a) = refl

each_run : {A : Type 0} (limit : ℕ) (f : A → List Edge → Out Edge) (g : A → List Step) → ((x : A) (es : List Edge) → f x es ≡ run limit es (g x))
    → (l : List A) (es : List Edge) → each_o f l es ≡ run limit es (flat_map g l)
unfolding each_o run flat_map
each_run limit f g h [] es = refl
each_run limit f g h (x ∷ l) es = go (f x es) (run limit es (g x)) (h x es) (each_run limit f g h l) ∙ sym (run_append limit (g x) (flat_map g l) es)
  where
    go : (o p : Out Edge) → o ≡ p → ((es₁ : List Edge) → each_o f l es₁ ≡ run limit es₁ (flat_map g l))
        → then_o o (each_o f l) ≡ then_o p (λ es₁. run limit es₁ (flat_map g l))
    go (built es₁) p q ih = ih es₁ ∙ ap (λ o. then_o o (λ es₂. run limit es₂ (flat_map g l))) q
    go (refused n a) p q ih = ap (λ o. then_o o (λ es₂. run limit es₂ (flat_map g l))) q

one_run : (limit : ℕ) (es : List Edge) (e : Edge) → add_by mem_e limit es e ≡ run limit es (arc e ∷ [])
unfolding run
one_run limit es e = sym (then_o_built (add_by mem_e limit es e))

arc_run : (limit : ℕ) (es : List Edge) (e : Edge) (b : Bool)
    → cond b (add_by mem_e limit es e) (refused unknown_module no_refusal) ≡ run limit es (cond b (arc e ∷ []) (halt unknown_module))
unfolding run
arc_run limit es e true = one_run limit es e
arc_run limit es e false = refl

include_run : (limit : ℕ) (below : List Edge → Out Edge) (t : List Step) → ((es : List Edge) → below es ≡ run limit es t)
    → (es : List Edge) (e : Edge) (b c : Bool)
    → cond b (cond c (then_o (add_by mem_e limit es e) below) (refused no_node no_refusal)) (refused unknown_submodule no_refusal)
    ≡ run limit es (cond b (cond c (arc e ∷ t) (halt no_node)) (halt unknown_submodule))
unfolding run
include_run limit below t h es e true true = go (add_by mem_e limit es e)
  where
    go : (o : Out Edge) → then_o o below ≡ then_o o (λ es₁. run limit es₁ t)
    go (built es₁) = h es₁
    go (refused n a) = refl
include_run limit below t h es e true false = refl
include_run limit below t h es e false c = refl

visit_run : (W : World) (limit : ℕ) (below : Name → List Edge → Out Edge) (t : Name → List Step)
    → ((u : Name) (es : List Edge) → below u es ≡ run limit es (t u))
    → (absent : ℕ) (v : Name) (x : Text) (es : List Edge) → visit W limit below absent v x es ≡ run limit es (reading W t absent v x)
unfolding run
visit_run W limit below t h absent v missing es = refl
visit_run W limit below t h absent v (refusing a) es = refl
visit_run W limit below t h absent v (deps xs ys) es =
    go (each_o (import_o W limit v) xs es) (each_run limit (import_o W limit v) (imported W v) (λ u es. arc_run limit es (edge u v) (W.known u)) xs es)
    ∙ sym (run_append limit (flat_map (imported W v) xs) (flat_map (included W t v) ys) es)
  where
    go : (o : Out Edge) → o ≡ run limit es (flat_map (imported W v) xs)
        → then_o o (each_o (include_o W limit below v) ys) ≡ then_o (run limit es (flat_map (imported W v) xs)) (λ es₁. run limit es₁ (flat_map (included W t v) ys))
    go (built es₁) q =
        each_run limit (include_o W limit below v) (included W t v) (λ u es. include_run limit (below u) (t u) (h u) es (edge u v) (W.listed u) (W.node u)) ys
        es₁
        ∙ ap (λ o. then_o o (λ es₂. run limit es₂ (flat_map (included W t v) ys))) q
    go (refused n a) q = ap (λ o. then_o o (λ es₂. run limit es₂ (flat_map (included W t v) ys))) q

pub walk_shape : (W : World) (limit left absent : ℕ) (v : Name) (es : List Edge) → walk W limit left absent v es ≡ run limit es (text_steps W left absent v)
unfolding walk text_steps run
walk_shape W limit zero absent v es = visit_run W limit (λ u es₁. refused too_deep no_refusal) (λ u. halt too_deep) (λ u es₁. refl) absent v (W.text v) es
walk_shape W limit (suc left) absent v es =
    visit_run W limit (walk W limit left no_included_text) (text_steps W left no_included_text) (walk_shape W limit left no_included_text) absent v (W.text v) es

pub entry_shape : (W : World) (limit : ℕ) (e : Entry) (es : List Edge) → walk_entry W limit e es ≡ run limit es (entry_steps W e)
entry_shape W limit e es =
    go (walk W limit deepest no_entry_text e.name es) (walk_shape W limit deepest no_entry_text e.name es)
    ∙ sym (run_append limit (text_steps W deepest no_entry_text e.name) (flat_map (given W e.name) e.lists) es)
  where
    go : (o : Out Edge) → o ≡ run limit es (text_steps W deepest no_entry_text e.name)
        → then_o o (each_o (given_o W limit e.name) e.lists) ≡ then_o (run limit es (text_steps W deepest no_entry_text e.name))
        (λ es₁. run limit es₁ (flat_map (given W e.name) e.lists))
    go (built es₁) q =
        each_run limit (given_o W limit e.name) (given W e.name) (λ u es. arc_run limit es (edge e.name u) (W.known u)) e.lists es₁
        ∙ ap (λ o. then_o o (λ es₂. run limit es₂ (flat_map (given W e.name) e.lists))) q
    go (refused n a) q = ap (λ o. then_o o (λ es₂. run limit es₂ (flat_map (given W e.name) e.lists))) q
