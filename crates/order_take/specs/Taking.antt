-- The order of registration: each time the lowest node that is free, until none is.
-- Assumes nothing.
use Rattle.std.specs.Prelude.{ℕ, zero, suc, cond, List, [], ◌∷◌, ◌++◌, ltb}
use Rattle.graph.specs.Numbers.{Row}
use Rattle.order_tables.specs.Free.{free, lowest}

abbrev pub next : ℕ → List Row → (done : List ℕ) → ℕ
next n es done = lowest (free n es done) n

-- at most `turns` nodes more behind `done`
unfoldable pub take_from : (turns n : ℕ) → List Row → (done : List ℕ) → List ℕ
take_from zero n es done = done
take_from (suc k) n es done = cond (ltb (next n es done) n) (take_from k n es (done ++ (next n es done ∷ []))) done

-- no node can be taken twice, so n turns are enough
abbrev pub taken : ℕ → List Row → List ℕ
taken n es = take_from n n es []
