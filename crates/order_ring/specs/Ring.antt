-- The ring that is written out where nodes are left over: from the lowest node left over go each time to the lowest left-over node with an edge to it,
-- until one comes twice; the nodes of that ring, lowest first, then along the edges.
-- Assumes nothing.
use Rattle.std.specs.Prelude.{ℕ, zero, suc, Bool, cond, not, ◌&&◌, List, [], ◌∷◌, ◌++◌, eqb, ltb}
use Rattle.graph.specs.Numbers.{Row, row, mem_r}
use Rattle.order_tables.specs.Free.{mem, lowest}

-- a number that is not among those taken
abbrev pub left : (done : List ℕ) → ℕ → Bool
left done v = not (mem v done)

abbrev pub first_left : ℕ → (done : List ℕ) → ℕ
first_left n done = lowest (left done) n

-- the lowest left-over node with an edge to v
abbrev pub before : ℕ → List Row → (done : List ℕ) → ℕ → ℕ
before n es done v = lowest (λ u. left done u && mem_r (row u v) es) n

-- what stands in a list before m, and from m on
unfoldable pub until : ℕ → List ℕ → List ℕ
until m [] = []
until m (x ∷ xs) = cond (eqb x m) [] (x ∷ until m xs)

unfoldable pub since : ℕ → List ℕ → List ℕ
since m [] = []
since m (x ∷ xs) = cond (eqb x m) (x ∷ xs) (since m xs)

-- `seen` are the nodes gone through, the latest first. From v the way goes on to `step v`. Where v comes again, the ring is all that came since, and v. If
-- the step is `before`, each node of it has an edge to the one that stands behind it, and v has one to the first: the ring stands along its edges.
unfoldable pub go_back : (step : ℕ → ℕ) (turns : ℕ) (seen : List ℕ) → ℕ → List ℕ
go_back step zero seen v = []
go_back step (suc k) seen v = cond (mem v seen) (until v seen ++ (v ∷ [])) (go_back step k (v ∷ seen) (step v))

-- the lowest of a list
unfoldable pub least_of : ℕ → List ℕ → ℕ
least_of m [] = m
least_of m (x ∷ xs) = least_of (cond (ltb x m) x m) xs

-- a ring from its lowest node on
unfoldable pub lowest_first : List ℕ → List ℕ
lowest_first [] = []
lowest_first (x ∷ xs) = since (least_of x xs) (x ∷ xs) ++ until (least_of x xs) (x ∷ xs)

-- one more turn than there are nodes, so that one comes twice
abbrev pub ring_of : ℕ → List Row → (done : List ℕ) → List ℕ
ring_of n es done = lowest_first (go_back (before n es done) (suc n) [] (first_left n done))
