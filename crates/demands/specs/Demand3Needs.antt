-- What the second part of demand 3 asks is needed: well-formed images with the same entries in another order, and a bundle, whose graphs are not alike.
-- `once`: a name is a module twice (for `permuted`, and so for `spread`). `single`: an import-only module has two revisions, in the one order or the other
-- (for `spread`); `differ`, which counts its name once for each revision, fails there too.
-- Assumes nothing.
use Rattle.std.specs.Prelude.{ℕ, ◌≡◌, List, [], ◌∷◌}
use Rattle.library_image.specs.Library.{import_only_of}
use Rattle.graph.specs.Demand3.{SameEntries, Permuted}
use Rattle.graph_nodes.specs.Adding.{plain_at}
use Rattle.graph.specs.Nodes.{pass_over}
use Rattle.yanglib.specs.ToGraph.{graphed}
use Rattle.graph_tables.specs.Lengths.{Lengths}
use Rattle.demands.specs.Demand3.{WellFormed, Alike}

-- what is lent: enough for texts of up to 16 bytes
abbrev pub lent : Lengths
lent = record { nodes = 2048; edges = 16384; store = 16; imports = 1792; includes = 1280; levels = 4352 }

pub record Unlike (s s₁ b : List ℕ) : Type 0 where
  pub first : WellFormed s
  pub second : WellFormed s₁
  pub unlike : ¬ Alike s s₁ (graphed pass_over s b lent) (graphed pass_over s₁ b lent)

-- a name that is a module twice: m without submodules in set 1 and with s in set 2, or the other way round; m is `include s;`, s is empty
abbrev pub empty_first : List ℕ
empty_first = 2 ∷ 1 ∷ 1 ∷ 109 ∷ 0 ∷ 0 ∷ 0 ∷ 0 ∷ 1 ∷ 1 ∷ 109 ∷ 1 ∷ 1 ∷ 115 ∷ 0 ∷ 0 ∷ 0 ∷ []

abbrev pub full_first : List ℕ
full_first = 2 ∷ 1 ∷ 1 ∷ 109 ∷ 1 ∷ 1 ∷ 115 ∷ 0 ∷ 0 ∷ 0 ∷ 1 ∷ 1 ∷ 109 ∷ 0 ∷ 0 ∷ 0 ∷ 0 ∷ []

abbrev pub includes : List ℕ
includes = 2 ∷ 1 ∷ 109 ∷ 10 ∷ 105 ∷ 110 ∷ 99 ∷ 108 ∷ 117 ∷ 100 ∷ 101 ∷ 32 ∷ 115 ∷ 59 ∷ 1 ∷ 115 ∷ 0 ∷ []

-- an import-only module with two revisions: b with the submodule s in one and t in the other, or the other way round; b is empty
abbrev pub s_first : List ℕ
s_first = 1 ∷ 0 ∷ 1 ∷ 1 ∷ 98 ∷ 2 ∷ 1 ∷ 1 ∷ 115 ∷ 1 ∷ 1 ∷ 116 ∷ []

abbrev pub t_first : List ℕ
t_first = 1 ∷ 0 ∷ 1 ∷ 1 ∷ 98 ∷ 2 ∷ 1 ∷ 1 ∷ 116 ∷ 1 ∷ 1 ∷ 115 ∷ []

abbrev pub alone : List ℕ
alone = 1 ∷ 1 ∷ 98 ∷ 0 ∷ []

pub record Needed : Type 0 where
  -- refused with 28, and built
  pub once : Unlike empty_first full_first includes × Permuted (plain_at empty_first) (plain_at full_first) × (import_only_of (plain_at empty_first) ≡ [])
  -- nodes b and s, and nodes b and t
  pub single : Unlike s_first t_first alone × SameEntries (plain_at s_first) (plain_at t_first)
