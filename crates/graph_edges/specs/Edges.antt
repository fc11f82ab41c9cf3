-- The edge table: two words an edge, from and to, in order of adding; rest zero. Beside it the edges in chains: a head for each chain, behind the heads
-- a link for each edge. A head and a link are one more than the number of an edge, or 0. Both ends together say in which chain an edge is, so that an
-- edge is looked for among few, however many lead to its node.
-- Assumes nothing.
use Rattle.std.specs.Prelude.{ℕ, zero, suc, ◌+◌, ◌-◌, ◌*◌, ◌%◌, ◌≤◌, ◌<◌, ◌≡◌, cond, List, [], ◌∷◌, ◌++◌, length, get_or, eqb, Some, None, Option}
use Rattle.graph.specs.Limits.{most_nodes, most_edges}
use Rattle.text.specs.Refusal.{no_refusal}
use Rattle.graph.specs.Graph.{too_many_edges, Out, built, refused}
use Rattle.graph.specs.Numbers.{Row, row, add_row}

-- how many chains there are
abbrev pub buckets : ℕ
buckets = 8192

-- how many words the two tables have at the least: two an edge; a head for each chain and a link for each edge
abbrev pub edge_table : ℕ
edge_table = most_edges * 2

abbrev pub chain_table : ℕ
chain_table = buckets + most_edges

-- the chain of an edge: edges to one node, or from one, are in different chains
abbrev pub bucket_of : Row → ℕ
bucket_of r = (r.from * 131 + r.to) % buckets

-- ---- the edges in the table

abbrev pub row_at : List ℕ → ℕ → Row
row_at w i = row (get_or w (i * 2) 0) (get_or w (i * 2 + 1) 0)

unfoldable pub rows_in : ℕ → List ℕ → List Row
rows_in zero w = []
rows_in (suc n) w = rows_in n w ++ (row_at w n ∷ [])

-- every word from n on is 0
pub record Blank (n : ℕ) (w : List ℕ) : Type 0 where
  pub zeros : (j : ℕ) → n ≤ j → get_or w j 0 ≡ 0

-- ---- the chains

-- one more than the number of the last of the first k edges of which `at` is u; 0 where it is of none
unfoldable pub last_by : (at : Row → ℕ) → List ℕ → (u k : ℕ) → ℕ
last_by at edges u zero = 0
last_by at edges u (suc k) = cond (eqb (at (row_at edges k)) u) (suc k) (last_by at edges u k)

abbrev pub last_in : List ℕ → (h k : ℕ) → ℕ
last_in edges h k = last_by bucket_of edges h k

abbrev pub link_of : List ℕ → ℕ → ℕ
link_of chains i = get_or chains (buckets + i) 0

-- count edges, each between nodes, and their chains
pub record Filed (edges chains : List ℕ) (count : ℕ) : Type 0 where
  pub few : count ≤ most_edges
  pub long : edge_table ≤ length edges
  pub wide : chain_table ≤ length chains
  pub blank : Blank (count * 2) edges
  pub nodes : (i : ℕ) → i < count → ((row_at edges i).from < most_nodes) × ((row_at edges i).to < most_nodes)
  pub heads_of : (h : ℕ) → h < buckets → get_or chains h 0 ≡ last_in edges h count
  pub links_of : (i : ℕ) → i < count → link_of chains i ≡ last_in edges (bucket_of (row_at edges i)) i

-- e is a place of the chain h, which is the chain of r
pub record Chain (edges chains : List ℕ) (r : Row) (h e : ℕ) : Type 0 where
  pub its : h ≡ bucket_of r
  pub few : e ≤ most_edges
  pub long : edge_table ≤ length edges
  pub wide : chain_table ≤ length chains
  pub own : 0 < e → bucket_of (row_at edges (e - 1)) ≡ h
  pub links_of : (i : ℕ) → i < e → link_of chains i ≡ last_in edges (bucket_of (row_at edges i)) i

-- ---- what the code asks and does

abbrev pub link_seen : Option ℕ → List ℕ → Out Row
link_seen (Some n) w = built (rows_in n w)
link_seen None w = refused too_many_edges no_refusal

abbrev pub LinkFiled : Option ℕ → List ℕ → List ℕ → Type 0
LinkFiled (Some n) edges chains = Filed edges chains n
LinkFiled None edges chains = Unit {0}

-- an edge more, unless it is present; the 8,193rd is refused
pub record Linked (rows : List Row) (r : Row) (edges chains : List ℕ) (x : Option ℕ) (edges₁ chains₁ : List ℕ) : Type 0 where
  pub seen : link_seen x edges₁ ≡ add_row most_edges rows r
  pub filed : LinkFiled x edges₁ chains₁
  pub kept_edges : length edges₁ ≡ length edges
  pub kept_chains : length chains₁ ≡ length chains

-- tables with no edge yet
pub record Empty (edges chains : List ℕ) : Type 0 where
  pub long : edge_table ≤ length edges
  pub wide : chain_table ≤ length chains
  pub no_edges : (j : ℕ) → get_or edges j 0 ≡ 0
  pub no_chains : (j : ℕ) → get_or chains j 0 ≡ 0

-- what the laying of an edge into the chain h needs, and what it leaves: two words of each table, and all others as they were
pub record Puts (edges chains : List ℕ) (count h : ℕ) : Type 0 where
  pub few : count < most_edges
  pub long : edge_table ≤ length edges
  pub wide : chain_table ≤ length chains
  pub low : h < buckets

pub record Laid (edges chains : List ℕ) (count h from to : ℕ) (edges₁ chains₁ : List ℕ) : Type 0 where
  pub kept_edges : length edges₁ ≡ length edges
  pub kept_chains : length chains₁ ≡ length chains
  pub from_of : get_or edges₁ (count * 2) 0 ≡ from
  pub to_of : get_or edges₁ (count * 2 + 1) 0 ≡ to
  pub link_of_lem : link_of chains₁ count ≡ get_or chains h 0
  pub head_of : get_or chains₁ h 0 ≡ count + 1
  pub other_edges : (j : ℕ) → (j ≡ count * 2 → ⊥) → (j ≡ count * 2 + 1 → ⊥) → get_or edges₁ j 0 ≡ get_or edges j 0
  pub other_chains : (j : ℕ) → (j ≡ h → ⊥) → (j ≡ buckets + count → ⊥) → get_or chains₁ j 0 ≡ get_or chains j 0
