-- The chains of edges by their first node, and how many edges each node waits for. A head and a link are one more than the number of an edge, or 0.
-- Assumes nothing.
use Rattle.std.specs.Prelude.{ℕ, zero, suc, ◌+◌, ◌-◌, ◌*◌, ◌/◌, ◌≤◌, ◌<◌, ◌≡◌, Bool, cond, not, ◌&&◌, List, [], length, get_or, eqb}
use Rattle.graph.specs.Numbers.{Row}
use Rattle.graph.specs.Limits.{most_nodes, most_edges}
use Rattle.graph_edges.specs.Edges.{row_at, last_by}
use Rattle.order_tables.specs.Free.{mem, lowest, zero_at}

-- what stands for a node that was taken: more than there are edges
abbrev pub taken_mark : ℕ
taken_mark = 8193

-- how many nodes a group has, and how many groups there are
abbrev pub group : ℕ
group = 32

abbrev pub groups : ℕ
groups = 32

abbrev pub one : Bool → ℕ
one b = cond b 1 0

-- one more than the number of the last of the first k edges that comes from u; 0 where none does
abbrev pub last_from : List ℕ → (u k : ℕ) → ℕ
last_from edges u k = last_by (λ (r : Row). r.from) edges u k

-- how many of the first k edges lead to v from a node that is not among `done`
unfoldable pub waiting : List ℕ → (done : List ℕ) → (v k : ℕ) → ℕ
waiting edges done v zero = 0
waiting edges done v (suc k) = one (eqb (row_at edges k).to v && not (mem (row_at edges k).from done)) + waiting edges done v k

-- how many of the first k edges lead from v to w
unfoldable pub pending : List ℕ → (v w k : ℕ) → ℕ
pending edges v w zero = 0
pending edges v w (suc k) = one (eqb (row_at edges k).to w && eqb (row_at edges k).from v) + pending edges v w k

-- the first k edges stand in the table, and lie between nodes
pub record Rows (edges : List ℕ) (k : ℕ) : Type 0 where
  pub few : k ≤ most_edges
  pub long : k * 2 ≤ length edges
  pub froms : (i : ℕ) → i < k → get_or edges (i * 2) 0 < most_nodes
  pub tos : (i : ℕ) → i < k → get_or edges (i * 2 + 1) 0 < most_nodes

-- the links of the first k edges
pub record Links (edges : List ℕ) (k : ℕ) (links : List ℕ) : Type 0 where
  pub room : length links ≡ most_edges
  pub links_of : (i : ℕ) → i < k → get_or links i 0 ≡ last_from edges (row_at edges i).from i

pub record Heads (edges : List ℕ) (k : ℕ) (heads : List ℕ) : Type 0 where
  pub room : length heads ≡ most_nodes
  pub heads_of : (u : ℕ) → get_or heads u 0 ≡ last_from edges u k

pub record Counts (edges : List ℕ) (k : ℕ) (waits : List ℕ) : Type 0 where
  pub room : length waits ≡ most_nodes
  pub waits_of : (v : ℕ) → get_or waits v 0 ≡ waiting edges [] v k

pub record Chained (edges : List ℕ) (k : ℕ) (heads links waits : List ℕ) : Type 0 where
  pub linked : Links edges k links
  pub headed : Heads edges k heads
  pub counted : Counts edges k waits

-- bounds: for each group a number below which no zero of it stands, and behind them the number of a group below which no group has one
pub record Lows (n : ℕ) (waits lows : List ℕ) : Type 0 where
  pub room : length lows ≡ groups + 1
  pub near : get_or lows groups 0 ≤ groups
  pub low : (w : ℕ) → w < n → get_or waits w 0 ≡ 0 → get_or lows (w / group) 0 ≤ w
  pub start : (w : ℕ) → w < n → get_or waits w 0 ≡ 0 → get_or lows groups 0 ≤ w / group

-- ---- what the code asks and does

pub record GroupEnd (first n r : ℕ) : Type 0 where
  pub most : r ≤ n
  pub near : r ≤ first + group
  pub all : (w : ℕ) → w < n → w < first + group → w < r

-- what the search for the lowest zero asks, and answers
pub record Looks (waits lows : List ℕ) (n : ℕ) : Type 0 where
  pub few : n ≤ most_nodes
  pub room : length waits ≡ most_nodes
  pub kept : Lows n waits lows

pub record Looked (waits : List ℕ) (n r : ℕ) (lows₁ : List ℕ) : Type 0 where
  pub answer : r ≡ lowest (zero_at waits) n
  pub kept : Lows n waits lows₁

-- and of one group, which begins below n
pub record LooksIn (waits lows : List ℕ) (g n : ℕ) : Type 0 where
  pub looks : Looks waits lows n
  pub here : g * group < n

pub record LookedIn (waits lows : List ℕ) (g n r : ℕ) (lows₁ : List ℕ) : Type 0 where
  pub room : length lows₁ ≡ length lows
  pub near : r < n → r < g * group + group
  pub none : (w : ℕ) → g * group ≤ w → w < g * group + group → w < n → w < r → get_or waits w 0 ≡ 0 → ⊥
  pub zero_at_lem : r < n → get_or waits r 0 ≡ 0
  pub kept : Lows n waits lows₁

-- no number of a table grows, and the one at i is at most `most`
pub record Lowered (lows : List ℕ) (i most : ℕ) (lows₁ : List ℕ) : Type 0 where
  pub room : length lows₁ ≡ length lows
  pub here : get_or lows₁ i 0 ≤ most
  pub less : (j : ℕ) → get_or lows₁ j 0 ≤ get_or lows j 0

-- one edge less for v; bounds that held still hold
pub record Releases (waits lows : List ℕ) (v : ℕ) : Type 0 where
  pub low : v < most_nodes
  pub room : length waits ≡ most_nodes
  pub lows_room : length lows ≡ groups + 1
  pub some : 1 ≤ get_or waits v 0

pub record Released (waits lows : List ℕ) (v : ℕ) (waits₁ lows₁ : List ℕ) : Type 0 where
  pub room : length waits₁ ≡ length waits
  pub lows_room : length lows₁ ≡ length lows
  pub less : get_or waits₁ v 0 + 1 ≡ get_or waits v 0
  pub others : (w : ℕ) → (w ≡ v → ⊥) → get_or waits₁ w 0 ≡ get_or waits w 0
  pub kept : (n : ℕ) → Lows n waits lows → Lows n waits₁ lows₁

-- e is a place of the chain of v, from which no edge leads back to v
pub record Chain (edges links : List ℕ) (v e : ℕ) : Type 0 where
  pub rows : Rows edges e
  pub linked : Links edges e links
  pub own : 0 < e → (row_at edges (e - 1)).from ≡ v
  pub self : pending edges v v e ≡ 0

-- a node that is taken: each other waits for as many edges less as lead from it
pub record Takes (edges heads links waits lows : List ℕ) (v : ℕ) : Type 0 where
  pub low : v < most_nodes
  pub heads_room : length heads ≡ most_nodes
  pub room : length waits ≡ most_nodes
  pub lows_room : length lows ≡ groups + 1
  pub chain : Chain edges links v (get_or heads v 0)
  pub enough : (w : ℕ) → (w ≡ v → ⊥) → pending edges v w (get_or heads v 0) ≤ get_or waits w 0

pub record Freed (edges heads waits lows : List ℕ) (v : ℕ) (waits₁ lows₁ : List ℕ) : Type 0 where
  pub room : length waits₁ ≡ length waits
  pub lows_room : length lows₁ ≡ length lows
  pub own : get_or waits₁ v 0 ≡ get_or waits v 0
  pub others : (w : ℕ) → (w ≡ v → ⊥) → get_or waits₁ w 0 + pending edges v w (get_or heads v 0) ≡ get_or waits w 0
  pub kept : (n : ℕ) → Lows n waits lows → Lows n waits₁ lows₁

pub record Took (edges heads waits lows : List ℕ) (v : ℕ) (waits₁ lows₁ : List ℕ) : Type 0 where
  pub room : length waits₁ ≡ length waits
  pub lows_room : length lows₁ ≡ length lows
  pub own : get_or waits₁ v 0 ≡ taken_mark
  pub others : (w : ℕ) → (w ≡ v → ⊥) → get_or waits₁ w 0 + pending edges v w (get_or heads v 0) ≡ get_or waits w 0
  pub kept : (n : ℕ) → Lows n waits lows → Lows n waits₁ lows₁
