-- The most nodes and edges of a graph: a 1,025th node is refused with 30, an 8,193rd edge with 31.
-- Assumes nothing.
use Rattle.std.specs.Prelude.{ℕ}

abbrev pub most_nodes : ℕ
most_nodes = 1024

abbrev pub most_edges : ℕ
most_edges = 8192
