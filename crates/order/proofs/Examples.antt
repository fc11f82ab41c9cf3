-- Small graphs with their orders and rings, computed.
-- Assumes nothing.
use mathlib.Core.Path.{◌≡◌, refl}
use mathlib.Core.List.{[], ◌∷◌}
use Rattle.graph.specs.Numbers.{row, mem_r}
use Rattle.order_tables.specs.Free.{mem, ready, lowest_from}
use Rattle.order_take.specs.Taking.{take_from}
use Rattle.order_ring.specs.Ring.{until, since, go_back, least_of, lowest_first}
use Rattle.order.specs.Order.{sorted, sorted_of}

no_nodes : sorted_of 0 [] ≡ sorted 0 []
unfolding sorted_of take_from
no_nodes = refl

-- 1 before 0: 1 is the lowest that is free, then 0, which is lower than 2
lowest_each_time : sorted_of 3 (row 1 0 ∷ []) ≡ sorted 0 (1 ∷ 0 ∷ 2 ∷ [])
unfolding sorted_of take_from lowest_from ready mem
lowest_each_time = refl

-- an edge that stands twice is one
edge_twice : sorted_of 2 (row 1 0 ∷ row 1 0 ∷ []) ≡ sorted 0 (1 ∷ 0 ∷ [])
unfolding sorted_of take_from lowest_from ready mem
edge_twice = refl

to_itself : sorted_of 2 (row 1 1 ∷ []) ≡ sorted 40 (1 ∷ [])
unfolding sorted_of take_from lowest_from ready mem mem_r until since go_back least_of lowest_first
to_itself = refl

-- 0 waits for the ring, which is met at 2 and written from its lowest node on: 1 to 3, 3 to 2, 2 to 1
along_the_edges : sorted_of 4 (row 1 3 ∷ row 3 2 ∷ row 2 1 ∷ row 2 0 ∷ []) ≡ sorted 40 (1 ∷ 3 ∷ 2 ∷ [])
unfolding sorted_of take_from lowest_from ready mem mem_r until since go_back least_of lowest_first
along_the_edges = refl

-- of two rings the one that the lowest node left over waits for, by the lowest node each time: 0 waits for 1 and for 3
of_two_rings : sorted_of 5 (row 1 2 ∷ row 2 1 ∷ row 3 4 ∷ row 4 3 ∷ row 3 0 ∷ row 1 0 ∷ []) ≡ sorted 40 (1 ∷ 2 ∷ [])
unfolding sorted_of take_from lowest_from ready mem mem_r until since go_back least_of lowest_first
of_two_rings = refl

-- 1 is left over too, and lies behind the ring and not in it
behind_the_ring : sorted_of 3 (row 0 2 ∷ row 2 0 ∷ row 2 1 ∷ []) ≡ sorted 40 (0 ∷ 2 ∷ [])
unfolding sorted_of take_from lowest_from ready mem mem_r until since go_back least_of lowest_first
behind_the_ring = refl
