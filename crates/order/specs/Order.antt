-- The answers of `order` and of `order_check`, and every word that is left. 43: the tables do not fit; then 41: the order table is shorter than the node
-- count; then 40: a chain of edges comes back to its start, and a ring is written out. 42: the list is wrong, with the first wrong place.
-- Assumes nothing.
use Rattle.std.specs.Prelude.{ℕ, ◌≡◌, cond, List, [], eqb, leb, length, Ok, Err, Result}
use Rattle.text_lent.specs.Padded.{padded}
use Rattle.graph.specs.Numbers.{Row}
use Rattle.graph_edges.specs.Edges.{rows_in}
use Rattle.order_tables.specs.Tables.{fits, tables_unfit}
use Rattle.order_take.specs.Taking.{taken}
use Rattle.order_ring.specs.Ring.{ring_of}
use Rattle.order_places.specs.Places.{place_of}
use Rattle.order.specs.declared.Ordered.{Ordered}
use Rattle.order.specs.declared.Checked.{Checked}

abbrev pub cycle_met : ℕ
cycle_met = 40

abbrev pub order_too_short : ℕ
order_too_short = 41

abbrev pub list_wrong : ℕ
list_wrong = 42

-- a number, and the nodes that are written
pub record Sorted : Type 0 where
  pub number : ℕ
  pub nodes : List ℕ

abbrev pub sorted : ℕ → List ℕ → Sorted
sorted k ns = record { number = k; nodes = ns }

-- all nodes in order; or, if some are left over, a ring of them
unfoldable pub sorted_of : ℕ → List Row → Sorted
sorted_of n es = cond (eqb (length (taken n es)) n) (sorted 0 (taken n es)) (sorted cycle_met (ring_of n es (taken n es)))

-- table: how long the order table is; after: what it holds at the end
pub record Sorts (n : ℕ) (es : List Row) (table : ℕ) (r : Ordered) (after : List ℕ) : Type 0 where
  pub number : r.number ≡ (sorted_of n es).number
  pub count : r.length ≡ length (sorted_of n es).nodes
  pub written : after ≡ padded table (sorted_of n es).nodes

-- nodes, edges: the tables; n, m: the counts; table: how long the order table is
unfoldable pub order_of : (nodes : ℕ) (n : ℕ) (edges : List ℕ) (m table : ℕ) → Sorted
order_of nodes n edges m table =
    cond (fits nodes n edges m) (cond (leb n table) (sorted_of n (rows_in m edges)) (sorted order_too_short [])) (sorted tables_unfit [])

-- table: the order table at entry; after: at exit
pub record Orders (nodes : List ℕ) (n : ℕ) (edges : List ℕ) (m : ℕ) (table : List ℕ) (r : Ordered) (after : List ℕ) : Type 0 where
  pub number : r.number ≡ (order_of (length nodes) n edges m (length table)).number
  pub count : r.length ≡ length (order_of (length nodes) n edges m (length table)).nodes
  pub written : after ≡ padded (length table) (order_of (length nodes) n edges m (length table)).nodes

-- ---- a given list

abbrev pub checked : ℕ → ℕ → Checked
checked k p = record { number = k; place = p }

unfoldable pub told_place : Result (Unit {0}) ℕ → Checked
told_place (Ok tt) = checked 0 0
told_place (Err i) = checked list_wrong i

unfoldable pub check_of : (nodes : ℕ) (n : ℕ) (edges : List ℕ) (m : ℕ) (list : List ℕ) → Checked
check_of nodes n edges m list = cond (fits nodes n edges m) (told_place (place_of n (rows_in m edges) list)) (checked tables_unfit 0)
