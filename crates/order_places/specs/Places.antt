-- The check of a list: each place in turn must hold a node that is free after those before it. The first wrong place is one whose number is no node, is
-- there already, or has an edge from a node not earlier in the list, itself too; or the list's end if it is too short.
-- Assumes nothing.
use Rattle.std.specs.Prelude.{ℕ, cond, List, [], ◌∷◌, ◌++◌, ltb, length, Ok, Err, Result}
use Rattle.graph.specs.Numbers.{Row}
use Rattle.order_tables.specs.Free.{free}

-- `done` is what stands before the rest of the list
unfoldable pub place_from : ℕ → List Row → (done rest : List ℕ) → Result (Unit {0}) ℕ
place_from n es done [] = cond (ltb (length done) n) (Err (length done)) (Ok tt)
place_from n es done (x ∷ xs) = cond (free n es done x) (place_from n es (done ++ (x ∷ [])) xs) (Err (length done))

abbrev pub place_of : ℕ → List Row → List ℕ → Result (Unit {0}) ℕ
place_of n es list = place_from n es [] list
