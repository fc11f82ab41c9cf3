-- What the steps to the ring ask and leave: which nodes are taken, the lowest node left over before each, the trail of the way back and its parts.
-- Assumes nothing.
use Rattle.std.specs.Prelude.{ℕ, suc, ◌-◌, ◌*◌, ◌≤◌, ◌<◌, ◌≡◌, Bool, true, false, cond, ◌&&◌, List, [], ◌∷◌, ◌++◌, ltb, length, get_or, set, take, drop}
use Rattle.std.proofs.Math.Seq.{slice}
use Rattle.graph.specs.Numbers.{Row, row, mem_r}
use Rattle.graph.specs.Limits.{most_nodes}
use Rattle.graph_edges.specs.Edges.{row_at}
use Rattle.order_tables.specs.Free.{mem, lowest, zero_at}
use Rattle.order_ring.specs.Ring.{first_left, before, until, go_back, lowest_first}
use Rattle.order_ring.specs.declared.Met.{Met}

-- ---- marks

-- 1 at each number of the list, 0 at every other
pub record Flags (xs t : List ℕ) : Type 0 where
  pub long : most_nodes ≤ length t
  pub same : (v : ℕ) → v < most_nodes → get_or t v 0 ≡ cond (mem v xs) 1 0

pub record Marks (list : List ℕ) (count : ℕ) (t : List ℕ) : Type 0 where
  pub clear : Flags [] t
  pub all : count ≤ length list
  pub below : (v : ℕ) → mem v (take count list) ≡ true → v < most_nodes

-- ---- the lowest node left over before each

abbrev pub noted : (gone before : List ℕ) → Row → List ℕ
noted gone before e = cond (zero_at gone e.from && ltb e.from (get_or before e.to 0)) (set before e.to e.from) before

-- the lowest left-over number with an edge to v; 1,024 if there is none
abbrev pub lowest_to : (gone : List ℕ) → List Row → ℕ → ℕ
lowest_to gone es v = lowest (λ u. zero_at gone u && mem_r (row u v) es) most_nodes

pub record Notes (edges : List ℕ) (m : ℕ) (gone before : List ℕ) : Type 0 where
  pub all : m * 2 ≤ length edges
  pub ends : (i : ℕ) → i < m → ((row_at edges i).from < most_nodes) × ((row_at edges i).to < most_nodes)
  pub long_gone : most_nodes ≤ length gone
  pub long_before : most_nodes ≤ length before
  pub none : (v : ℕ) → v < most_nodes → get_or before v 0 ≡ most_nodes

pub record Noted (gone : List ℕ) (es : List Row) (before : List ℕ) : Type 0 where
  pub long : most_nodes ≤ length before
  pub same : (v : ℕ) → v < most_nodes → get_or before v 0 ≡ lowest_to gone es v

-- ---- the way back

-- a step by a table that says which node comes before each
abbrev pub word_of : List ℕ → ℕ → ℕ
word_of t v = get_or t v 0

-- the way from v never leaves the numbers that have p, each below n
pub record Closed (before : List ℕ) (v n : ℕ) (p : ℕ → Bool) : Type 0 where
  pub below : (u : ℕ) → p u ≡ true → u < n
  pub start : p v ≡ true
  pub next : (u : ℕ) → p u ≡ true → p (word_of before u) ≡ true

-- the marks are of numbers that the way never comes to
pub record Goes (before : List ℕ) (v : ℕ) (gone trail : List ℕ) : Type 0 where
  pub own : ℕ → Bool
  pub closed : Closed before v most_nodes own
  pub marked : List ℕ
  pub flags : Flags marked gone
  pub apart : (u : ℕ) → own u ≡ true → mem u marked ≡ false
  pub long_before : most_nodes ≤ length before
  pub long_trail : length trail ≡ most_nodes

-- what the trail holds is distinct, so it is no longer than there are numbers to go through; with so many turns the way back ends
pub record Went (before : List ℕ) (v : ℕ) (trail : List ℕ) (r : Met) : Type 0 where
  pub low : r.at ≤ most_nodes
  pub again : mem r.node (drop r.at trail) ≡ true
  pub few : (n : ℕ) (p : ℕ → Bool) → Closed before v n p → most_nodes - r.at ≤ n
  pub same : (n : ℕ) → most_nodes - r.at ≤ n → go_back (word_of before) (suc n) [] v ≡ until r.node (drop r.at trail) ++ (r.node ∷ [])

-- ---- the trail of a graph

pub record Trailed (n : ℕ) (es : List Row) (done trail : List ℕ) (r : Met) : Type 0 where
  pub low : r.at ≤ most_nodes
  pub again : mem r.node (drop r.at trail) ≡ true
  pub few : most_nodes - r.at ≤ n
  pub same : go_back (before n es done) (suc n) [] (first_left n done) ≡ until r.node (drop r.at trail) ++ (r.node ∷ [])

-- ---- parts of the trail

pub record Behind (trail : List ℕ) (at v r : ℕ) : Type 0 where
  pub past : at < r
  pub within : r ≤ length trail
  pub part : slice at r trail ≡ until v (drop at trail) ++ (v ∷ [])

pub record LowestAt (trail : List ℕ) (at end p : ℕ) : Type 0 where
  pub from : at ≤ p
  pub below : p < end
  pub same : lowest_first (slice at end trail) ≡ slice p end trail ++ slice at p trail
