-- The same walk over the numbers of nodes, as code takes it: names are resolved to numbers when a text is read, and the rows so far are handed on.
-- Assumes nothing.
use Rattle.std.specs.Prelude.{ℕ, zero, suc, ◌+◌, Bool, true, false, cond, List, [], ◌∷◌, map, eqb, get_or}
use Rattle.text.specs.Keyword.{same}
use Rattle.library_image.specs.Library.{Name, PlainLibrary}
use Rattle.graph.specs.Nodes.{Mode, nodes_of}
use Rattle.text.specs.Refusal.{no_refusal}
use Rattle.graph.specs.Graph.{ScanAnswer, Text, missing, refusing, deps, no_included_text, scan_refused, unknown_module, unknown_submodule, no_node, too_deep}
use Rattle.graph.specs.Graph.{no_entry_text, deepest, Edge, World, Entry, Out, built, refused, then_o, add_by, on_out, entries, world, Graph, graph, fault}

-- a node's number is its place in the list of nodes
unfoldable pub number_of : List Name → Name → ℕ
number_of [] u = 0
number_of (w ∷ ws) u = cond (same w u) 0 (suc (number_of ws u))

pub record Row : Type 0 where
  pub from : ℕ
  pub to : ℕ

abbrev pub row : ℕ → ℕ → Row
row u v = record { from = u; to = v }

abbrev pub row_of : List Name → Edge → Row
row_of ns e = row (number_of ns e.from) (number_of ns e.to)

abbrev pub eq_r : Row → Row → Bool
eq_r a b = cond (eqb a.from b.from) (eqb a.to b.to) false

unfoldable pub mem_r : Row → List Row → Bool
mem_r r [] = false
mem_r r (x ∷ xs) = cond (eq_r x r) true (mem_r r xs)

abbrev pub add_row : (limit : ℕ) → List Row → Row → Out Row
add_row limit rs r = add_by mem_r limit rs r

-- ---- names resolved

-- an import or a listed module: 0 if it is unknown, else one more than its number
abbrev pub module_code : World → List Name → Name → ℕ
module_code W ns u = cond (W.known u) (suc (number_of ns u)) 0

-- an include: 0 if it is no submodule of a module, 1 if it is one and no node, else two more than its number
abbrev pub submodule_code : World → List Name → Name → ℕ
submodule_code W ns u = cond (W.listed u) (cond (W.node u) (suc (suc (number_of ns u))) 1) 0

pub data Codes : Type 0 where
  no_text : Codes
  refused_scan : ScanAnswer → Codes
  codes : (imports includes : List ℕ) → Codes

abbrev pub codes_of : World → List Name → Text → Codes
codes_of W ns missing = no_text
codes_of W ns (refusing a) = refused_scan a
codes_of W ns (deps imports includes) = codes (map (module_code W ns) imports) (map (submodule_code W ns) includes)

-- ---- the walk

module _ {A : Type 0} where
  unfoldable pub each_o : (A → List Row → Out Row) → List A → List Row → Out Row
  each_o f [] rs = built rs
  each_o f (x ∷ xs) rs = then_o (f x rs) (each_o f xs)

-- an import of v by its code, and a module that v lists
abbrev pub import_code : (limit v : ℕ) → ℕ → List Row → Out Row
import_code limit v zero rs = refused unknown_module no_refusal
import_code limit v (suc u) rs = add_row limit rs (row u v)

abbrev pub given_code : (limit v : ℕ) → ℕ → List Row → Out Row
given_code limit v zero rs = refused unknown_module no_refusal
given_code limit v (suc u) rs = add_row limit rs (row v u)

abbrev pub include_code : (limit : ℕ) → (ℕ → List Row → Out Row) → (v : ℕ) → ℕ → List Row → Out Row
include_code limit below v zero rs = refused unknown_submodule no_refusal
include_code limit below v (suc zero) rs = refused no_node no_refusal
include_code limit below v (suc (suc u)) rs = then_o (add_row limit rs (row u v)) (below u)

abbrev pub visit_codes : (limit : ℕ) → (ℕ → List Row → Out Row) → (absent v : ℕ) → Codes → List Row → Out Row
visit_codes limit below absent v no_text rs = refused absent no_refusal
visit_codes limit below absent v (refused_scan a) rs = refused scan_refused a
visit_codes limit below absent v (codes imports includes) rs =
    then_o (each_o (import_code limit v) imports rs) (each_o (include_code limit below v) includes)

-- `at`: what there is under the name of a node
unfoldable pub walk_codes : (at : ℕ → Codes) → (limit left absent v : ℕ) → List Row → Out Row
walk_codes at limit zero absent v rs = visit_codes limit (λ u rs₁. refused too_deep no_refusal) absent v (at v) rs
walk_codes at limit (suc left) absent v rs = visit_codes limit (walk_codes at limit left no_included_text) absent v (at v) rs

-- an entry by its number and the codes of what it lists
unfoldable pub walk_entry_codes : (at : ℕ → Codes) → (limit v : ℕ) → (lists : List ℕ) → List Row → Out Row
walk_entry_codes at limit v lists rs = then_o (walk_codes at limit deepest no_entry_text v rs) (each_o (given_code limit v) lists)

-- ---- all entries, numbered from 1

pub data Drawing : Type 0 where
  drawn : List Row → Drawing
  faulty : (number entry : ℕ) → ScanAnswer → Drawing

pub record EntryCode : Type 0 where
  pub number : ℕ
  pub lists : List ℕ

unfoldable pub draw_from : (at : ℕ → Codes) → (limit number : ℕ) → List Row → List EntryCode → Drawing
draw_from at limit k rs [] = drawn rs
draw_from at limit k rs (e ∷ es) =
    on_out (walk_entry_codes at limit e.number e.lists rs) (λ rs₁. draw_from at limit (k + 1) rs₁ es) (λ n a. faulty n k a)

-- what there is under the name of the v-th node
unfoldable pub codes_at : World → List Name → ℕ → Codes
codes_at W ns v = codes_of W ns (W.text (get_or ns v []))

abbrev pub entry_code : World → List Name → Entry → EntryCode
entry_code W ns e = record { number = number_of ns e.name; lists = map (module_code W ns) e.lists }

unfoldable pub drawing_in : World → List Name → (limit : ℕ) → List Entry → Drawing
drawing_in W ns limit es = draw_from (codes_at W ns) limit 1 [] (map (entry_code W ns) es)

unfoldable pub drawing_of : Mode → (edge_limit : ℕ) → (Name → Text) → PlainLibrary → Drawing
drawing_of mode edge_limit text l = drawing_in (world mode text l) (nodes_of mode l) edge_limit (entries l)

-- a graph between names as one between numbers
abbrev pub numbered : Graph → Drawing
numbered (graph ns es) = drawn (map (row_of ns) es)
numbered (fault n k a) = faulty n k a
