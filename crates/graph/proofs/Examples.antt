-- Worked examples, as one list with one claim: what the definition gives on each library is what stands beside it. It is computed.
-- Assumes nothing.
use mathlib.Core.Path.{◌≡◌, refl}
use mathlib.Core.List.{List, [], ◌∷◌, map, flat_map}
use mathlib.Core.Bool.{cond}
use Prim.Native.Nat.{ℕ}
use Rattle.text.specs.Keyword.{same}
use Rattle.library_image.specs.Library.{Name, PlainModule, PlainImportOnly, PlainSet, PlainLibrary, modules_of, import_only_of, submodules_of}
use Rattle.library_index.specs.Names.{among, add_all}
use Rattle.graph.specs.Nodes.{pass_over, complete, add_groups, nodes_by}
use Rattle.text.specs.Refusal.{no_refusal}
use Rattle.graph.specs.Graph.{ScanAnswer, Text, missing, refusing, deps, no_entry_text, no_included_text, scan_refused, unknown_module, unknown_submodule}
use Rattle.graph.specs.Graph.{no_node, too_deep, too_many_nodes, too_many_edges, text_steps, edge, mem_e, add_by, run, Graph, graph, fault, walk_from, graph_of}
use Rattle.graph.specs.Numbers.{number_of, row, mem_r, each_o, walk_codes, walk_entry_codes, drawn, draw_from, codes_at, drawing_in, drawing_of}

-- names of one byte
abbrev m : Name
m = 109 ∷ []

abbrev s : Name
s = 115 ∷ []

abbrev b : Name
b = 98 ∷ []

abbrev module_of : Name → List Name → List Name → List Name → PlainModule
module_of w subs augs devs = record { name = w; submodules = subs; augmenting = augs; deviations = devs }

abbrev set_of : List PlainModule → PlainSet
set_of ms = record { modules = ms; import_only = [] }

record Bundle : Type 0 where
  name : Name
  text : Text

find : List Bundle → Name → Text
find [] w = missing
find (x ∷ xs) w = cond (same x.name w) x.text (find xs w)

abbrev under : Name → List Name → List Name → Bundle
under w is us = record { name = w; text = deps is us }

record Example : Type 0 where
  node_limit : ℕ
  edge_limit : ℕ
  bundle : List Bundle
  library : PlainLibrary
  answer : Graph

abbrev answer_6 : ScanAnswer
answer_6 = record { number = 6; keyword = 8; at = 13 }

abbrev two : PlainLibrary
two = set_of (module_of m (s ∷ []) [] [] ∷ module_of b [] [] [] ∷ []) ∷ []

abbrev one : List Name → List Name → PlainLibrary
one augs devs = set_of (module_of m (s ∷ []) augs devs ∷ []) ∷ []

abbrev texts : List Bundle
texts = under m (b ∷ []) (s ∷ []) ∷ under s (b ∷ []) [] ∷ under b [] [] ∷ []

-- a set with import-only modules, and a chain: each name includes the next, from the first to the last
abbrev both_of : List PlainModule → List PlainImportOnly → PlainSet
both_of ms is = record { modules = ms; import_only = is }

abbrev import_of : Name → List (List Name) → PlainImportOnly
import_of w rs = record { name = w; revisions = rs }

abbrev c : ℕ → Name
c k = k ∷ []

abbrev chain : List Bundle
chain = under (c 0) [] (c 1 ∷ []) ∷ under (c 1) [] (c 2 ∷ []) ∷ under (c 2) [] (c 3 ∷ []) ∷ under (c 3) [] (c 4 ∷ []) ∷ under (c 4) [] (c 5 ∷ [])
    ∷ under (c 5) [] (c 6 ∷ []) ∷ under (c 6) [] (c 7 ∷ []) ∷ under (c 7) [] (c 8 ∷ []) ∷ []

abbrev chained : PlainLibrary
chained = set_of (module_of (c 0) (c 1 ∷ c 2 ∷ c 3 ∷ c 4 ∷ c 5 ∷ c 6 ∷ c 7 ∷ c 8 ∷ c 9 ∷ []) [] [] ∷ []) ∷ []

abbrev case : List Bundle → PlainLibrary → Graph → Example
case bundle lib g = record { node_limit = 1024; edge_limit = 8192; bundle = bundle; library = lib; answer = g }

examples : List Example
examples =
    record { node_limit = 1024; edge_limit = 8192; bundle = texts; library = two; answer = graph (m ∷ s ∷ b ∷ []) (edge b m ∷ edge s m ∷ edge b s ∷ []) } ∷
    record {
      node_limit = 1024;
      edge_limit = 8192;
      bundle = under m [] (s ∷ []) ∷ [];
      library = set_of (module_of m [] [] [] ∷ [])
          ∷ set_of (module_of m (s ∷ []) [] [] ∷ []) ∷ [];
      answer = fault no_node 1 no_refusal;
    } ∷
    record { node_limit = 3; edge_limit = 3; bundle = texts; library = two; answer = graph (m ∷ s ∷ b ∷ []) (edge b m ∷ edge s m ∷ edge b s ∷ []) } ∷
    record { node_limit = 2; edge_limit = 3; bundle = texts; library = two; answer = fault too_many_nodes 0 no_refusal } ∷
    record { node_limit = 3; edge_limit = 2; bundle = texts; library = two; answer = fault too_many_edges 1 no_refusal } ∷
    record { node_limit = 3; edge_limit = 3; bundle = under m (b ∷ []) [] ∷ []; library = two; answer = fault no_entry_text 2 no_refusal } ∷
    record { node_limit = 3; edge_limit = 3; bundle = under m [] (s ∷ []) ∷ []; library = two; answer = fault no_included_text 1 no_refusal } ∷
    record {
      node_limit = 3;
      edge_limit = 3;
      bundle = under m [] (s ∷ []) ∷ record { name = s; text = refusing answer_6 }
          ∷ [];
      library = two;
      answer = fault scan_refused 1 answer_6;
    } ∷
    record { node_limit = 3; edge_limit = 3; bundle = texts; library = one [] []; answer = fault unknown_module 1 no_refusal } ∷
    record { node_limit = 3; edge_limit = 3; bundle = under m [] [] ∷ []; library = one (m ∷ []) (s ∷ []); answer = fault unknown_module 1 no_refusal } ∷
    record { node_limit = 3; edge_limit = 3; bundle = under m [] [] ∷ []; library = one (m ∷ []) (m ∷ []); answer = graph (m ∷ s ∷ []) (edge m m ∷ []) } ∷
    record { node_limit = 3; edge_limit = 3; bundle = under m [] (b ∷ []) ∷ []; library = two; answer = fault unknown_submodule 1 no_refusal } ∷
    record { node_limit = 3; edge_limit = 3; bundle = under m [] (s ∷ []) ∷ under s [] (s ∷ []) ∷ []; library = two; answer = fault too_deep 1 no_refusal } ∷
    -- an import-only module's submodules are nodes, but not for the search; of several revisions the first counts
    case (under m [] (s ∷ []) ∷ under b [] [] ∷ []) (both_of (module_of m [] [] [] ∷ []) (import_of b ((s ∷ []) ∷ []) ∷ []) ∷ [])
    (fault unknown_submodule 1 no_refusal) ∷
    case (under b [] [] ∷ []) (both_of [] (import_of b ((s ∷ []) ∷ (m ∷ []) ∷ []) ∷ []) ∷ []) (graph (b ∷ s ∷ []) []) ∷
    case (under b [] [] ∷ []) (both_of [] (import_of b ((m ∷ []) ∷ (s ∷ []) ∷ []) ∷ []) ∷ []) (graph (b ∷ m ∷ []) []) ∷
    -- m with submodule s, and s, a module too, with submodule b: the order matters
    case (under m [] [] ∷ under s [] (b ∷ []) ∷ under b [] [] ∷ []) (set_of (module_of m (s ∷ []) [] [] ∷ module_of s (b ∷ []) [] [] ∷ []) ∷ [])
    (fault no_node 2 no_refusal) ∷
    case (under m [] [] ∷ under s [] (b ∷ []) ∷ under b [] [] ∷ []) (set_of (module_of s (b ∷ []) [] [] ∷ module_of m (s ∷ []) [] [] ∷ []) ∷ [])
    (graph (s ∷ b ∷ m ∷ []) (edge b s ∷ [])) ∷
    -- a repeated module is walked again, with its own lists
    case (under m [] [] ∷ under b [] [] ∷ []) (set_of (module_of m [] [] [] ∷ []) ∷ set_of (module_of m [] (b ∷ []) [] ∷ module_of b [] [] (m ∷ []) ∷ []) ∷ [])
    (graph (m ∷ b ∷ []) (edge m b ∷ edge b m ∷ [])) ∷
    -- a text at depth 8 is read; there an unknown include is 27, and a known one is 29 even where it has no text
    case (under (c 8) [] [] ∷ chain) chained (graph (c 0 ∷ c 1 ∷ c 2 ∷ c 3 ∷ c 4 ∷ c 5 ∷ c 6 ∷ c 7 ∷ c 8 ∷ c 9 ∷ [])
    (edge (c 1) (c 0) ∷ edge (c 2) (c 1) ∷ edge (c 3) (c 2) ∷ edge (c 4) (c 3) ∷ edge (c 5) (c 4) ∷ edge (c 6) (c 5) ∷ edge (c 7) (c 6) ∷ edge (c 8) (c 7)
    ∷ [])) ∷
    case (under (c 8) [] (c 9 ∷ []) ∷ chain) chained (fault too_deep 1 no_refusal) ∷
    case (under (c 8) [] (m ∷ []) ∷ chain) chained (fault unknown_submodule 1 no_refusal) ∷
    case chain chained (fault no_included_text 1 no_refusal) ∷
    []

all_right : map (λ (x : Example). graph_of pass_over x.node_limit x.edge_limit (find x.bundle) x.library) examples
    ≡ map (λ (x : Example). x.answer) examples
unfolding examples find flat_map modules_of import_only_of submodules_of same among add_all add_groups nodes_by text_steps mem_e add_by run walk_from graph_of
all_right = refl

-- the same with all names as nodes (request 2026-02)
complete_examples : List Example
complete_examples =
    -- refused with 28 above: only the nodes differ, and the rest is as above
    case (under m [] (s ∷ []) ∷ under s [] [] ∷ []) (set_of (module_of m [] [] [] ∷ []) ∷ set_of (module_of m (s ∷ []) [] [] ∷ []) ∷ [])
    (graph (m ∷ s ∷ []) (edge s m ∷ [])) ∷
    case (under m [] (s ∷ []) ∷ []) (set_of (module_of m [] [] [] ∷ []) ∷ set_of (module_of m (s ∷ []) [] [] ∷ []) ∷ [])
    (fault no_included_text 1 no_refusal) ∷
    case (under m [] [] ∷ under s [] (b ∷ []) ∷ under b [] [] ∷ []) (set_of (module_of m (s ∷ []) [] [] ∷ module_of s (b ∷ []) [] [] ∷ []) ∷ [])
    (graph (m ∷ s ∷ b ∷ []) (edge b s ∷ [])) ∷
    -- each name where it comes first
    case (under m [] [] ∷ under b [] [] ∷ [])
    (set_of (module_of m [] [] [] ∷ module_of b [] [] [] ∷ []) ∷ set_of (module_of m (s ∷ []) [] [] ∷ []) ∷ []) (graph (m ∷ b ∷ s ∷ []) []) ∷
    -- all revisions count, and their submodules are still not found by the search
    case (under b [] [] ∷ []) (both_of [] (import_of b ((s ∷ []) ∷ (m ∷ []) ∷ []) ∷ []) ∷ []) (graph (b ∷ s ∷ m ∷ []) []) ∷
    case (under m [] (s ∷ []) ∷ under b [] [] ∷ []) (both_of (module_of m [] [] [] ∷ []) (import_of b ((s ∷ []) ∷ []) ∷ []) ∷ [])
    (fault unknown_submodule 1 no_refusal) ∷
    -- 30 goes by all names: m, then m again with two submodules
    record {
      node_limit = 3;
      edge_limit = 3;
      bundle = under m [] [] ∷ [];
      library = set_of (module_of m [] [] [] ∷ []) ∷ set_of (module_of m (s ∷ b ∷ []) [] [] ∷ []) ∷ [];
      answer = graph (m ∷ s ∷ b ∷ []) [];
    } ∷
    record {
      node_limit = 2;
      edge_limit = 3;
      bundle = under m [] [] ∷ [];
      library = set_of (module_of m [] [] [] ∷ []) ∷ set_of (module_of m (s ∷ b ∷ []) [] [] ∷ []) ∷ [];
      answer = fault too_many_nodes 0 no_refusal;
    } ∷
    []

all_complete_right : map (λ (x : Example). graph_of complete x.node_limit x.edge_limit (find x.bundle) x.library) complete_examples
    ≡ map (λ (x : Example). x.answer) complete_examples
unfolding complete_examples find flat_map modules_of import_only_of submodules_of same among add_all add_groups nodes_by text_steps mem_e add_by run walk_from graph_of
all_complete_right = refl

-- the first of all in numbers
drawn_first : drawing_of pass_over 8192 (find texts) two ≡ drawn (row 2 0 ∷ row 1 0 ∷ row 2 1 ∷ [])
unfolding find flat_map modules_of import_only_of submodules_of same among add_all add_groups nodes_by number_of mem_r add_by each_o walk_codes walk_entry_codes draw_from
    codes_at drawing_in drawing_of
drawn_first = refl
