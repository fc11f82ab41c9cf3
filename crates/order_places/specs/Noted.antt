-- The place of each node in a list, as a table; a node that has none has one behind all. By that table an edge lets a place stand or not: it bars the
-- place of its second node if its first one does not stand earlier.
-- Assumes nothing.
use Rattle.std.specs.Prelude.{ℕ, ◌+◌, ◌*◌, ◌≤◌, ◌<◌, ◌≡◌, Bool, true, false, cond, ◌&&◌, List, [], ◌∷◌, eqb, leb, ltb, length, get_or}
use Rattle.graph.specs.Numbers.{Row}
use Rattle.graph.specs.Limits.{most_nodes}
use Rattle.graph_edges.specs.Edges.{row_at}

abbrev pub nowhere : ℕ
nowhere = 4294967295

abbrev pub place_in : List ℕ → ℕ → ℕ
place_in places v = get_or places v nowhere

-- a table with no place yet
pub record Blank (n : ℕ) (places : List ℕ) : Type 0 where
  pub few : n ≤ most_nodes
  pub long : n ≤ length places
  pub empty : (v : ℕ) → place_in places v ≡ nowhere

-- the first r places of the list hold nodes, each its own, and the table has their places
pub record Noted (list : List ℕ) (n : ℕ) (places : List ℕ) (r : ℕ) : Type 0 where
  pub within : r ≤ length list
  pub low : n ≤ most_nodes
  pub long : n ≤ length places
  pub below : (i : ℕ) → i < r → get_or list i 0 < n
  pub placed : (i : ℕ) → i < r → place_in places (get_or list i 0) ≡ i
  pub there : (v : ℕ) → (place_in places v ≡ nowhere → ⊥) → (place_in places v < r) × (get_or list (place_in places v) 0 ≡ v)

-- and the next one, if there is one, holds no node or one that is there already
pub record AllNoted (list : List ℕ) (n : ℕ) (places : List ℕ) (r : ℕ) : Type 0 where
  pub noted : Noted list n places r
  pub few : r ≤ n
  pub stop : r < length list → get_or list r 0 < n → place_in places (get_or list r 0) ≡ nowhere → ⊥

-- ---- edges by the places of their nodes

-- the edge does not make the place k wrong: it leads to another place, or comes from an earlier one
abbrev pub lets : List ℕ → Row → ℕ → Bool
lets places e k = cond (eqb (place_in places e.to) k) (ltb (place_in places e.from) k) true

unfoldable pub all_let : List ℕ → List Row → ℕ → Bool
all_let places [] k = true
all_let places (e ∷ es) k = lets places e k && all_let places es k

-- the edge makes one of the first `good` places wrong
abbrev pub bars : List ℕ → Row → (good : ℕ) → Bool
bars places e good = ltb (place_in places e.to) good && leb (place_in places e.to) (place_in places e.from)

-- every edge is between nodes that the table knows
pub record Known (edges : List ℕ) (m : ℕ) (places : List ℕ) : Type 0 where
  pub long : m * 2 ≤ length edges
  pub from_in : (i : ℕ) → i < m → (row_at edges i).from < length places
  pub to_in : (i : ℕ) → i < m → (row_at edges i).to < length places

pub record KnownAt (edges : List ℕ) (i : ℕ) (places : List ℕ) : Type 0 where
  pub long : i * 2 + 1 < length edges
  pub from_in : (row_at edges i).from < length places
  pub to_in : (row_at edges i).to < length places

pub record NodeAt (edges : List ℕ) (at : ℕ) (places : List ℕ) : Type 0 where
  pub there : at < length edges
  pub known : get_or edges at 0 < length places

-- the edges let the first r of the places stand; and the next one not, if r is less than good
pub record Unbroken (places : List ℕ) (es : List Row) (good r : ℕ) : Type 0 where
  pub most : r ≤ good
  pub stand : (k : ℕ) → k < r → all_let places es k ≡ true
  pub falls : r < good → all_let places es r ≡ false

-- r is the first edge at `first` or behind it that bars one of the first `good` places, or m
pub record NextBreak (places edges : List ℕ) (first m good r : ℕ) : Type 0 where
  pub low : first ≤ r
  pub most : r ≤ m
  pub pass : (k : ℕ) → first ≤ k → k < r → bars places (row_at edges k) good ≡ false
  pub barred : r < m → bars places (row_at edges r) good ≡ true
