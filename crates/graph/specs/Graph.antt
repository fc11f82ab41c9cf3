-- The graph of a library as a function: the walk as a list of steps, run up to the first refusal. Walk: per set, modules, then import-only names,
-- numbered from 1 as entries. A text is scanned, then each import u of v gives edge u to v, then each include u does and u's text is walked before the
-- next include. An import, an augmenting module and a deviation must be a module or import-only name. An include must be a submodule of some module;
-- import-only modules' submodules don't count. After its text, a module gives edges to its augmenting modules, then deviations. An edge present is not
-- added again. Included texts are walked by a call of the walk on itself with the depth left: an entry is at depth 0, no text is read at depth 9.
-- Assumes nothing.
use Rattle.std.specs.Prelude.{ℕ, zero, suc, ◌+◌, Bool, true, false, cond, length, ltb, leb}
use mathlib.Core.List.{List, [], ◌∷◌, ◌++◌, map, flat_map}
use Rattle.text.specs.Keyword.{same}
use Rattle.text.specs.Refusal.{no_refusal}
use Rattle.text.specs.declared.Refusal.{Refusal}
use Rattle.library_image.specs.Library.{ModuleOf, ImportOnlyOf, SetOf, Name, PlainModule, PlainImportOnly, PlainLibrary, modules_of, import_only_of, submodules_of}
use Rattle.graph.specs.Nodes.{Mode, nodes_of, memb}

-- ---- what there is under a name: no text, a text whose scan is refused, or a text and the names that it imports and includes

-- what a scan answered
abbrev pub ScanAnswer : Type 0
ScanAnswer = Refusal

pub data Text : Type 0 where
  missing : Text
  refusing : ScanAnswer → Text
  deps : (imports includes : List Name) → Text

-- ---- the refusals of the walk, and of the nodes

abbrev pub no_entry_text : ℕ
no_entry_text = 23

abbrev pub no_included_text : ℕ
no_included_text = 24

abbrev pub scan_refused : ℕ
scan_refused = 25

abbrev pub unknown_module : ℕ
unknown_module = 26

abbrev pub unknown_submodule : ℕ
unknown_submodule = 27

abbrev pub no_node : ℕ
no_node = 28

abbrev pub too_deep : ℕ
too_deep = 29

abbrev pub too_many_nodes : ℕ
too_many_nodes = 30

abbrev pub too_many_edges : ℕ
too_many_edges = 31

-- ---- the walk as a list of steps: an edge that is asked for, or a refusal

pub record Edge : Type 0 where
  pub from : Name
  pub to : Name

abbrev pub edge : Name → Name → Edge
edge u v = record { from = u; to = v }

pub data Step : Type 0 where
  arc : Edge → Step
  stop : (number : ℕ) → ScanAnswer → Step

abbrev pub halt : ℕ → List Step
halt n = stop n no_refusal ∷ []

-- all that a walk asks of the library and the bundle
pub record World : Type 0 where
  pub known : Name → Bool
  pub listed : Name → Bool
  pub node : Name → Bool
  pub text : Name → Text

-- an import of v; a module that v lists as augmenting or deviating
abbrev pub imported : World → (v u : Name) → List Step
imported W v u = cond (W.known u) (arc (edge u v) ∷ []) (halt unknown_module)

abbrev pub given : World → (v u : Name) → List Step
given W v u = cond (W.known u) (arc (edge v u) ∷ []) (halt unknown_module)

-- an include of v, and the steps of its text
abbrev pub included : World → (Name → List Step) → (v u : Name) → List Step
included W below v u = cond (W.listed u) (cond (W.node u) (arc (edge u v) ∷ below u) (halt no_node)) (halt unknown_submodule)

-- a text; `absent` is the number if there is none, `below` gives the steps of an included text
abbrev pub reading : World → (Name → List Step) → (absent : ℕ) → (v : Name) → Text → List Step
reading W below absent v missing = halt absent
reading W below absent v (refusing a) = stop scan_refused a ∷ []
reading W below absent v (deps imports includes) = flat_map (imported W v) imports ++ flat_map (included W below v) includes

-- the text of v and all that it includes, with the depth left
unfoldable pub text_steps : World → (left absent : ℕ) → (v : Name) → List Step
text_steps W zero absent v = reading W (λ u. halt too_deep) absent v (W.text v)
text_steps W (suc left) absent v = reading W (text_steps W left no_included_text) absent v (W.text v)

-- an entry: its text, then what it lists
pub record EntryOf (A : Type 0) : Type 0 where
  pub name : A
  pub lists : List A

abbrev pub Entry : Type 0
Entry = EntryOf Name

module _ {A : Type 0} where
  abbrev pub module_entry : ModuleOf A → EntryOf A
  module_entry m = record { name = m.name; lists = m.augmenting ++ m.deviations }

  abbrev pub import_entry : ImportOnlyOf A → EntryOf A
  import_entry i = record { name = i.name; lists = [] }

  abbrev pub set_entries : SetOf A → List (EntryOf A)
  set_entries s = map module_entry s.modules ++ map import_entry s.import_only

  abbrev pub entries : List (SetOf A) → List (EntryOf A)
  entries l = flat_map set_entries l

-- the depth that is left to an entry's own text
abbrev pub deepest : ℕ
deepest = 8

abbrev pub entry_steps : World → Entry → List Step
entry_steps W e = text_steps W deepest no_entry_text e.name ++ flat_map (given W e.name) e.lists

-- ---- the run: an edge that is present is not added again, and the first refusal ends it

abbrev pub eq_e : Edge → Edge → Bool
eq_e a b = cond (same a.from b.from) (same a.to b.to) false

unfoldable pub mem_e : Edge → List Edge → Bool
mem_e e [] = false
mem_e e (x ∷ xs) = cond (eq_e x e) true (mem_e e xs)

pub data Out (E : Type 0) : Type 0 where
  built : List E → Out E
  refused : (number : ℕ) → ScanAnswer → Out E

module _ {E : Type 0} where
  abbrev pub then_o : {F : Type 0} → Out E → (List E → Out F) → Out F
  then_o (built es) f = f es
  then_o (refused n a) f = refused n a

  -- an edge more, unless it is present; `mem`: whether it is among them
  unfoldable pub add_by : (mem : E → List E → Bool) → (limit : ℕ) → List E → E → Out E
  add_by mem limit es e = cond (mem e es) (built es) (cond (leb limit (length es)) (refused too_many_edges no_refusal) (built (es ++ (e ∷ []))))

abbrev pub step : (limit : ℕ) → List Edge → Step → Out Edge
step limit es (arc e) = add_by mem_e limit es e
step limit es (stop n a) = refused n a

unfoldable pub run : (limit : ℕ) → List Edge → List Step → Out Edge
run limit es [] = built es
run limit es (s ∷ ss) = then_o (step limit es s) (λ es₁. run limit es₁ ss)

-- ---- the graph: entries are numbered from 1, and 30 comes before the walk

pub data Graph : Type 0 where
  graph : (nodes : List Name) → (edges : List Edge) → Graph
  fault : (number entry : ℕ) → ScanAnswer → Graph

abbrev pub on_out : {E F : Type 0} → Out E → (List E → F) → (ℕ → ScanAnswer → F) → F
on_out (built es) f g = f es
on_out (refused n a) f g = g n a

unfoldable pub walk_from : (limit : ℕ) → (nodes : List Name) → (number : ℕ) → List Edge → List (List Step) → Graph
walk_from limit ns k es [] = graph ns es
walk_from limit ns k es (t ∷ ts) = on_out (run limit es t) (λ es₁. walk_from limit ns (k + 1) es₁ ts) (λ n a. fault n k a)

-- the names that an import may have, and those that an include may have
abbrev pub entry_names : PlainLibrary → List Name
entry_names l = map (λ (m : PlainModule). m.name) (modules_of l) ++ map (λ (i : PlainImportOnly). i.name) (import_only_of l)

abbrev pub submodule_names : PlainLibrary → List Name
submodule_names l = submodules_of (modules_of l)

-- what there is where the nodes have these names
abbrev pub world_over : (nodes : List Name) → (Name → Text) → PlainLibrary → World
world_over ns text l = record {
  known = λ u. memb u (entry_names l);
  listed = λ u. memb u (submodule_names l);
  node = λ u. memb u ns;
  text = text;
}

abbrev pub world : Mode → (Name → Text) → PlainLibrary → World
world mode text l = world_over (nodes_of mode l) text l

abbrev pub walk_of : Mode → (edge_limit : ℕ) → (Name → Text) → PlainLibrary → Graph
walk_of mode edge_limit text l = walk_from edge_limit (nodes_of mode l) 1 [] (map (entry_steps (world mode text l)) (entries l))

unfoldable pub graph_of : Mode → (node_limit edge_limit : ℕ) → (Name → Text) → PlainLibrary → Graph
graph_of mode node_limit edge_limit text l =
    cond (ltb node_limit (length (nodes_of mode l))) (fault too_many_nodes 0 no_refusal) (walk_of mode edge_limit text l)
