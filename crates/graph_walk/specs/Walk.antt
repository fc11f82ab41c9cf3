-- What the walk of a text and of all that it includes does: edges, marks and the includes below it are those of the walk with a memory.
-- Assumes nothing.
use Rattle.std.specs.Prelude.{ℕ, ◌≡◌, List, length, Ok, Err, Result}
use Rattle.graph.specs.Once.{Went, walked, halted}
use Rattle.graph_edges.specs.Edges.{rows_in}
use Rattle.graph_memory.specs.Memory.{height_in, remembered}
use Rattle.graph_visit.specs.Visit.{Recalls}
use Rattle.graph_link.specs.declared.Stopped.{Stopped}

-- how many includes lie below v stands in the memory
abbrev pub walked_seen : (v : ℕ) → Result ℕ Stopped → (levels edges : List ℕ) → Went
walked_seen v (Ok n) levels edges = walked (rows_in n edges) (remembered levels) (height_in levels v)
walked_seen v (Err w) levels edges = halted w.number w.scan

abbrev pub WalkReady : (left v : ℕ) → Result ℕ Stopped → List ℕ → List ℕ → List ℕ → Type 0
WalkReady left v (Ok n) levels edges chains = Recalls left v n levels edges chains
WalkReady left v (Err w) levels edges chains = Unit {0}

-- the text of v was walked, as `expected` says; the tables of edges are as long as before
pub record Through (expected : Went) (left v : ℕ) (edges chains : List ℕ) (r : Result ℕ Stopped) (levels₁ edges₁ chains₁ : List ℕ) : Type 0 where
  pub seen : walked_seen v r levels₁ edges₁ ≡ expected
  pub ready : WalkReady left v r levels₁ edges₁ chains₁
  pub kept_edges : length edges₁ ≡ length edges
  pub kept_chains : length chains₁ ≡ length chains
