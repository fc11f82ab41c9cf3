-- The rows of a table, counted, and looked through for one.
-- Assumes nothing.
use mathlib.Core.Path.{◌≡◌, refl, ◌∙◌}
use mathlib.Core.List.{List, [], ◌∷◌, ◌++◌}
use mathlib.Core.Bool.{Bool, true, false, cond}
use Prim.Native.Nat.{ℕ, zero, suc}
use native.Mathlib.Numerals.{add-one}
use lib.ListN.{length, length-append}
use Rattle.graph.specs.Numbers.{Row, eq_r, mem_r}
use Rattle.graph.proofs.Tests.{or_not}
use Rattle.graph_edges.specs.Edges.{row_at, rows_in}

pub rows_length : (n : ℕ) (w : List ℕ) → length (rows_in n w) ≡ n
unfolding rows_in
rows_length zero w = refl
rows_length (suc n) w = length-append (rows_in n w) (row_at w n ∷ []) ∙ rw (rows_length n w, add-one)

pub mem_snoc : (r : Row) (rs : List Row) (x : Row) → mem_r r (rs ++ (x ∷ [])) ≡ cond (mem_r r rs) true (eq_r x r)
unfolding mem_r
mem_snoc r [] x = or_not (eq_r x r)
mem_snoc r (y ∷ rs) x = go (eq_r y r) (mem_snoc r rs x)
  where
    go : (b : Bool) → mem_r r (rs ++ (x ∷ [])) ≡ cond (mem_r r rs) true (eq_r x r)
        → cond b true (mem_r r (rs ++ (x ∷ []))) ≡ cond (cond b true (mem_r r rs)) true (eq_r x r)
    go true ih = refl
    go false ih = ih
