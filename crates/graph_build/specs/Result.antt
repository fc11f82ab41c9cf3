-- A graph as it is answered and left: the answer, the nodes with their places, the edges in numbers. A refusal has no nodes and no edges.
-- Assumes nothing.
use Rattle.std.specs.Prelude.{ℕ, List, [], map, length, Ok, Err, Result as Answer}
use Rattle.text.specs.declared.Refusal.{Refusal}
use Rattle.text.specs.Refusal.{no_refusal}
use Rattle.library_form.specs.Form.{PlacedName}
use Rattle.graph.specs.Graph.{Graph, graph, fault, graph_of}
use Rattle.graph.specs.Limits.{most_edges, most_nodes}
use Rattle.graph.specs.Nodes.{Mode}
use Rattle.graph.specs.Numbers.{Row, row_of}
use Rattle.graph_nodes.specs.Adding.{plain_at, words_at}
use Rattle.graph_texts.specs.Texts.{text_of}
use Rattle.graph_build.specs.declared.GraphRefusal.{GraphRefusal}

pub record Result : Type 0 where
  pub answer : Answer (ℕ × ℕ) GraphRefusal
  pub nodes : List PlacedName
  pub rows : List Row

-- a refusal by no entry and no scan
abbrev pub refused_at : (number place : ℕ) → GraphRefusal
refused_at number place = record { number = number; entry = 0; scan = no_refusal; place = place }

-- a refusal with its number, entry, scan answer and place
abbrev pub refusal : ℕ → ℕ → Refusal → ℕ → Result
refusal number entry scan place = record { answer = Err (record { number = number; entry = entry; scan = scan; place = place }); nodes = []; rows = [] }

-- a graph between names: its nodes with their places, its edges in numbers
abbrev pub result_of : List PlacedName → Graph → Result
result_of ws (graph ns es) = record { answer = Ok ((length ns), (length es)); nodes = ws; rows = map (row_of ns) es }
result_of ws (fault number entry a) = refusal number entry a 0

-- of an image and a bundle that have their form, where enough is lent; the mode says what becomes of a module whose name is already a node
abbrev pub draw_result : Mode → (image bundle : List ℕ) → Result
draw_result mode s b = result_of (words_at mode s) (graph_of mode most_nodes most_edges (text_of b) (plain_at s))
