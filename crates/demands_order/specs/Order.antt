-- The order of registration, beside the words of the request. A graph has n nodes, the numbers below n, and edges es; `row u v` is the edge from u to v.
-- What is computed is defined where code promises it: `taken` the order (crate order_take), `ring_of` the cycle that is written out (crate order_ring),
-- `place_of` the answer of the check (crate order_places). Here stands what these are, said by edges alone.
-- Assumes nothing.
use Rattle.std.specs.Prelude.{ℕ, zero, suc, ◌+◌, ◌-◌, ◌≤◌, ◌<◌, ◌≡◌, true, false, length, get_or, take, Ok, Err}
use mathlib.Core.List.{List, [], ◌∷◌, ◌++◌, Nodup, Perm}
use Rattle.graph.specs.Numbers.{Row, row, mem_r}
use Rattle.order_tables.specs.Free.{mem}
use Rattle.order_tables.specs.Tables.{all_within}
use Rattle.order_take.specs.Taking.{taken}
use Rattle.order_ring.specs.Ring.{until, ring_of}
use Rattle.order_places.specs.Places.{place_of}

-- ---- edges and chains of edges

abbrev pub Edge : List Row → ℕ → ℕ → Type 0
Edge es u v = mem_r (row u v) es ≡ true

-- from u along one edge or more to v; a self-edge is a chain from a node to itself
pub data Chain (es : List Row) : ℕ → ℕ → Type 0 where
  one : {u v : ℕ} → Edge es u v → Chain es u v
  on : {u v w : ℕ} → Edge es u v → Chain es v w → Chain es u w

-- "some chain of edges comes back to its start"
pub record Returns (es : List Row) : Type 0 where
  pub node : ℕ
  pub chain : Chain es node node

-- ---- lists of nodes

-- 0, 1, .., n - 1
unfoldable pub up_to : ℕ → List ℕ
up_to zero = []
up_to (suc n) = up_to n ++ (n ∷ [])

-- "holds each node once and breaks no edge": it is all nodes in some order, and each stands after all that have an edge to it
-- (`until v xs` is what stands in xs before v)
pub record Valid (n : ℕ) (es : List Row) (xs : List ℕ) : Type 0 where
  pub once : Perm xs (up_to n)
  pub unbroken : (u v : ℕ) → Edge es u v → mem u (until v xs) ≡ true

-- two lists are the same, or the first has the lower number where they first differ
pub data NotAfter : List ℕ → List ℕ → Type 0 where
  same : {xs : List ℕ} → NotAfter xs xs
  lower : {x y : ℕ} {xs ys : List ℕ} → x < y → NotAfter (x ∷ xs) (y ∷ ys)
  later : {x : ℕ} {xs ys : List ℕ} → NotAfter xs ys → NotAfter (x ∷ xs) (x ∷ ys)

-- of all lists that hold each node once and break no edge, the first
pub record First (n : ℕ) (es : List Row) (xs : List ℕ) : Type 0 where
  pub valid : Valid n es xs
  pub lowest : (ys : List ℕ) → Valid n es ys → NotAfter xs ys

-- ---- what may come next

-- x may stand behind the nodes `earlier`: it is a node, is not among them, and every edge to it comes from one of them
pub record Good (n : ℕ) (es : List Row) (earlier : List ℕ) (x : ℕ) : Type 0 where
  pub node : x < n
  pub new : mem x earlier ≡ false
  pub after : (u : ℕ) → Edge es u x → mem u earlier ≡ true

-- "the lowest number that is free"
pub record LowestGood (n : ℕ) (es : List Row) (earlier : List ℕ) (x : ℕ) : Type 0 where
  pub good : Good n es earlier x
  pub lowest : (w : ℕ) → Good n es earlier w → x ≤ w

-- ---- "one such cycle is written out"

-- different nodes, each with an edge to the next and the last with one to the first
pub record Cycle (es : List Row) (xs : List ℕ) : Type 0 where
  pub some : 0 < length xs
  pub differ : Nodup xs
  pub to_next : (i : ℕ) → i + 1 < length xs → Edge es (get_or xs i 0) (get_or xs (i + 1) 0)
  pub to_first : Edge es (get_or xs (length xs - 1) 0) (get_or xs 0 0)

-- "the lowest node left over" when the nodes of `done` are taken
pub record LowestLeft (n : ℕ) (done : List ℕ) (v : ℕ) : Type 0 where
  pub node : v < n
  pub left_over : mem v done ≡ false
  pub lowest : (w : ℕ) → w < n → mem w done ≡ false → v ≤ w

-- u is "the lowest left-over node with an edge to" v
pub record LowestTo (es : List Row) (done : List ℕ) (u v : ℕ) : Type 0 where
  pub edge : Edge es u v
  pub left_over : mem u done ≡ false
  pub lowest : (w : ℕ) → Edge es w v → mem w done ≡ false → u ≤ w

-- "from the lowest node left over, go each time to the lowest left-over node with an edge to it": so a node is reached
pub data Reached (n : ℕ) (es : List Row) (done : List ℕ) : ℕ → Type 0 where
  first : {v : ℕ} → LowestLeft n done v → Reached n es done v
  further : {u v : ℕ} → Reached n es done v → LowestTo es done u v → Reached n es done u

-- "until one comes twice; the nodes of that ring, lowest first, then along the edges": the way back comes to each of them and goes round
pub record BackCycle (n : ℕ) (es : List Row) (done xs : List ℕ) : Type 0 where
  pub cycle : Cycle es xs
  pub nodes : (v : ℕ) → mem v xs ≡ true → v < n
  pub left_over : (v : ℕ) → mem v xs ≡ true → mem v done ≡ false
  pub reached : (v : ℕ) → mem v xs ≡ true → Reached n es done v
  pub back_next : (i : ℕ) → i + 1 < length xs → LowestTo es done (get_or xs i 0) (get_or xs (i + 1) 0)
  pub back_first : LowestTo es done (get_or xs (length xs - 1) 0) (get_or xs 0 0)
  pub lowest_first : (v : ℕ) → mem v xs ≡ true → get_or xs 0 0 ≤ v

-- ---- "42 list wrong, at the first place .."

-- ".. whose number is no node, is there already or has an edge from a node not earlier in the list, itself too"
pub data Fault (n : ℕ) (es : List Row) (earlier : List ℕ) (x : ℕ) : Type 0 where
  no_node : n ≤ x → Fault n es earlier x
  there_already : mem x earlier ≡ true → Fault n es earlier x
  from_later : (u : ℕ) → Edge es u x → mem u earlier ≡ false → Fault n es earlier x

-- ".. or at the list's end if it is too short"
pub data WrongHere (n : ℕ) (es : List Row) (xs : List ℕ) (i : ℕ) : Type 0 where
  at_place : i < length xs → Fault n es (take i xs) (get_or xs i 0) → WrongHere n es xs i
  at_end : i ≡ length xs → i < n → WrongHere n es xs i

pub record FirstWrong (n : ℕ) (es : List Row) (xs : List ℕ) (i : ℕ) : Type 0 where
  pub within : i ≤ length xs
  pub good_before : (j : ℕ) → j < i → Good n es (take j xs) (get_or xs j 0)
  pub wrong : WrongHere n es xs i

-- ---- the demand

-- The order is refused where fewer than n nodes are taken.
pub record RightOrder (n : ℕ) (es : List Row) : Type 0 where
  -- "always taking the lowest number that is free", until none is
  pub taking : (i : ℕ) → i < length (taken n es) → LowestGood n es (take i (taken n es)) (get_or (taken n es) i 0)
  pub none_free : (v : ℕ) → Good n es (taken n es) v → ⊥
  -- "each node after all that have an edge to it"; of all such lists it is the first, and no other is
  pub ordered : length (taken n es) ≡ n → First n es (taken n es)
  pub only_order : (xs : List ℕ) → First n es xs → xs ≡ taken n es
  -- where there is an order at all, it is not refused
  pub found : (xs : List ℕ) → Valid n es xs → length (taken n es) ≡ n
  -- "refuse exactly when some chain of edges comes back to its start, a self-edge included"
  pub chain_refused : Returns es → length (taken n es) < n
  pub refused_chain : length (taken n es) < n → Returns es
  -- "and one such cycle is written out", the only one of which the words are true
  pub ring : length (taken n es) < n → BackCycle n es (taken n es) (ring_of n es (taken n es))
  pub only_ring : length (taken n es) < n → (xs : List ℕ) → BackCycle n es (taken n es) xs → xs ≡ ring_of n es (taken n es)
  -- "a small check accepts a list of node numbers exactly if it holds each node once and breaks no edge"
  pub accepts : (xs : List ℕ) → place_of n es xs ≡ Ok tt → Valid n es xs
  pub accepted : (xs : List ℕ) → Valid n es xs → place_of n es xs ≡ Ok tt
  pub accepts_own : length (taken n es) ≡ n → place_of n es (taken n es) ≡ Ok tt
  -- "42 list wrong, at the first place .."
  pub first_wrong : (xs : List ℕ) (i : ℕ) → place_of n es xs ≡ Err i → FirstWrong n es xs i
  pub wrong_first : (xs : List ℕ) (i : ℕ) → FirstWrong n es xs i → place_of n es xs ≡ Err i

-- of all graphs whose edges are between their nodes; others are refused before (43)
abbrev pub OrderDemand : Type 0
OrderDemand = (n : ℕ) (es : List Row) → all_within n es ≡ true → RightOrder n es
