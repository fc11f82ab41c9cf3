-- The lengths of what a call is lent, and whether one of them is too short: the node table, 2,048 words, the edge table, 16,384, a value store as long as the
-- longest text, one pair of scan tables, and 4,352 words for the memory and the levels.
-- Assumes nothing.
use Rattle.std.specs.Prelude.{ℕ, ◌*◌, Bool, ◌||◌, List, length, ltb}
use Rattle.scan_rows.specs.Rows.{most_rows, import_size, include_size}
use Rattle.graph.specs.Limits.{most_nodes}
use Rattle.graph_edges.specs.Edges.{edge_table}
use Rattle.graph_link.specs.Link.{all_levels}

-- node table, edge table, value store, import table, include table, levels
pub record Lengths : Type 0 where
  pub nodes : ℕ
  pub edges : ℕ
  pub store : ℕ
  pub imports : ℕ
  pub includes : ℕ
  pub levels : ℕ

abbrev pub lengths_of : List ℕ → List ℕ → List ℕ → List ℕ → List ℕ → List ℕ → Lengths
lengths_of n e d f g l =
    record { nodes = length n; edges = length e; store = length d; imports = length f; includes = length g; levels = length l }

-- two words a node, place and length of its name
abbrev pub node_table : ℕ
node_table = most_nodes * 2

unfoldable pub is_too_short : (longest : ℕ) → Lengths → Bool
is_too_short longest k =
    ltb k.nodes node_table || ltb k.edges edge_table || ltb k.store longest
    || ltb k.imports (most_rows * import_size) || ltb k.includes (most_rows * include_size) || ltb k.levels all_levels
