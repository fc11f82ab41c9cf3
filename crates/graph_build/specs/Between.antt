-- What the functions below the call ask and leave: the tables zero at first, and at the end the nodes and edges of a result; scratch as long as before.
-- Assumes nothing.
use Rattle.std.specs.Prelude.{ℕ, ◌≤◌, ◌≡◌, List, length, Result as Answer}
use Rattle.text_lent.specs.Padded.{zeros, padded}
use Rattle.graph_visit.specs.Visit.{AsLong}
use Rattle.graph_tables.specs.Lengths.{node_table}
use Rattle.graph_tables.specs.Tables.{node_words, row_words}
use Rattle.graph_build.specs.Result.{Result}
use Rattle.graph_build.specs.declared.GraphRefusal.{GraphRefusal}

-- enough is lent for the nodes, whose table is zero
pub record LentNodes (nodes : List ℕ) : Type 0 where
  pub room : node_table ≤ length nodes
  pub zero : nodes ≡ zeros (length nodes)

-- the tables hold a result, scratch is not yet cleared
pub record Holds (x : Result) (n e d f g l : List ℕ) (r : Answer (ℕ × ℕ) GraphRefusal) (n₁ e₁ d₁ f₁ g₁ l₁ : List ℕ) : Type 0 where
  pub answer : r ≡ x.answer
  pub nodes : n₁ ≡ padded (length n) (node_words x.nodes)
  pub edges : e₁ ≡ padded (length e) (row_words x.rows)
  pub kept : AsLong d f g l d₁ f₁ g₁ l₁
