-- Worked examples: the definition computes what stands beside it. Three nodes; an edge from 0 to 1 and one from 2 to 0, so the one good list is 2 0 1.
-- Assumes nothing.
use Rattle.std.specs.Prelude.{Ok, Err}
use mathlib.Core.Path.{◌≡◌, refl}
use mathlib.Core.List.{List, [], ◌∷◌}
use Rattle.graph.specs.Numbers.{Row, row}
use Rattle.order_tables.specs.Free.{mem, ready}
use Rattle.order_places.specs.Places.{place_from, place_of}

abbrev edges : List Row
edges = row 0 1 ∷ row 2 0 ∷ []

-- no node, and no place
empty : place_of 0 [] [] ≡ (Ok tt)
unfolding place_from
empty = refl

good : place_of 3 edges (2 ∷ 0 ∷ 1 ∷ []) ≡ (Ok tt)
unfolding place_from mem ready
good = refl

-- wrong at its end
too_short : place_of 3 edges (2 ∷ 0 ∷ []) ≡ Err 2
unfolding place_from mem ready
too_short = refl

nothing : place_of 3 edges [] ≡ Err 0
unfolding place_from
nothing = refl

-- wrong at the first place too many, whatever it holds
too_long : place_of 3 edges (2 ∷ 0 ∷ 1 ∷ 2 ∷ []) ≡ Err 3
unfolding place_from mem ready
too_long = refl

no_node : place_of 3 edges (2 ∷ 3 ∷ 0 ∷ 1 ∷ []) ≡ Err 1
unfolding place_from mem ready
no_node = refl

repeated : place_of 3 edges (2 ∷ 0 ∷ 0 ∷ 1 ∷ []) ≡ Err 2
unfolding place_from mem ready
repeated = refl

-- at the edge's second node, not at its first
broken : place_of 3 edges (2 ∷ 1 ∷ 0 ∷ []) ≡ Err 1
unfolding place_from mem ready
broken = refl

-- the first wrong place, of two
first_of_two : place_of 3 edges (2 ∷ 1 ∷ 5 ∷ []) ≡ Err 1
unfolding place_from mem ready
first_of_two = refl

-- a node with an edge to itself fits nowhere
to_itself : place_of 2 (row 1 1 ∷ []) (0 ∷ 1 ∷ []) ≡ Err 1
unfolding place_from mem ready
to_itself = refl
