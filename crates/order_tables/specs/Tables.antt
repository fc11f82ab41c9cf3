-- A built graph's tables as they are lent: two words a node, two words an edge, of each table as many as its count says. Refusal 43: more than 1,024
-- nodes or 8,192 edges, a table shorter than its count, an edge with a number that is no node.
-- Assumes nothing.
use Rattle.std.specs.Prelude.{ℕ, ◌*◌, ◌≤◌, ◌≡◌, Bool, true, ◌&&◌, List, [], ◌∷◌, leb, ltb, length}
use Rattle.graph.specs.Numbers.{Row}
use Rattle.graph.specs.Limits.{most_nodes, most_edges}
use Rattle.graph_edges.specs.Edges.{rows_in}

abbrev pub tables_unfit : ℕ
tables_unfit = 43

-- both ends of an edge are nodes
abbrev pub within : ℕ → Row → Bool
within n e = ltb e.from n && ltb e.to n

unfoldable pub all_within : ℕ → List Row → Bool
all_within n [] = true
all_within n (e ∷ es) = within n e && all_within n es

-- n nodes and m edges, from tables of `nodes` words and of the words `edges`
abbrev pub fits : (nodes n : ℕ) (edges : List ℕ) (m : ℕ) → Bool
fits nodes n edges m =
    leb n most_nodes && (leb m most_edges && (leb (n * 2) nodes && (leb (m * 2) (length edges) && all_within n (rows_in m edges))))

-- what every further step asks of them
pub record Fit (n : ℕ) (edges : List ℕ) (m : ℕ) : Type 0 where
  pub few_nodes : n ≤ most_nodes
  pub few_edges : m ≤ most_edges
  pub long : m * 2 ≤ length edges
  pub inside : all_within n (rows_in m edges) ≡ true
