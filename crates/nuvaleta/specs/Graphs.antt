-- What a host is answered for a graph, in either mode. answer[8]: number, entry, scan number, scan keyword, scan position, place, nodes, edges. The call
-- returns the number.
-- Assumes nothing.
use Rattle.std.specs.Prelude.{ℕ, List}
use Rattle.nuvaleta.specs.Finds.{Told}
use Rattle.graph.specs.Nodes.{Mode}
use Rattle.graph_build.specs.Result.{Result}
use Rattle.yanglib.specs.ToGraph.{Leaves, graphed}
use Rattle.graph_tables.specs.Lengths.{lengths_of}
use Rattle.nuvaleta.specs.Words.{graph_words}

-- the answer to a graph x, beside what it leaves
pub record Drawn (x : Result) (n e d f g l : List ℕ) (r : ℕ) (n₁ e₁ d₁ f₁ g₁ l₁ a : List ℕ) : Type 0 where
  pub graph : Leaves x n e d f g l x.answer n₁ e₁ d₁ f₁ g₁ l₁
  pub told : Told (graph_words x.answer) r a

abbrev pub GraphAnswered : Mode → (image bundle n e d f g l : List ℕ) → ℕ → (n₁ e₁ d₁ f₁ g₁ l₁ a : List ℕ) → Type 0
GraphAnswered mode s b n e d f g l r n₁ e₁ d₁ f₁ g₁ l₁ a = Drawn (graphed mode s b (lengths_of n e d f g l)) n e d f g l r n₁ e₁ d₁ f₁ g₁ l₁ a
