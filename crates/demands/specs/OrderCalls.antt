-- What `order` and `order_check` answer, and when, over the definitions that the calls promise (crate order); what an order, a chain and a wrong place
-- are is in crate demands_order (Order). And what it means for a graph that to_graph built: its tables fit, and no schema comes before one that it needs.
-- Assumes nothing.
use Rattle.std.specs.Prelude.{ℕ, ◌≤◌, ◌<◌, ◌≡◌, true, false, ◌↔◌, List, [], length, get_or, take, Ok}
use Rattle.library_form.specs.Writer.{AllBytes}
use Rattle.graph.specs.Nodes.{Mode}
use Rattle.graph.specs.Meaning.{IsEdge}
use Rattle.graph_edges.specs.Edges.{rows_in}
use Rattle.graph_nodes.specs.Adding.{plain_at}
use Rattle.graph_texts.specs.Texts.{text_of}
use Rattle.yanglib.specs.ToGraph.{Graphs}
use Rattle.order_tables.specs.Tables.{fits}
use Rattle.order_tables.specs.Free.{mem}
use Rattle.order_take.specs.Taking.{taken}
use Rattle.order_ring.specs.Ring.{until}
use Rattle.order.specs.Order.{order_of, checked, check_of}
use Rattle.demands.specs.Demand3.{named, table_names}
use Rattle.demands_order.specs.Order.{Returns, Valid, First, LowestGood, BackCycle, FirstWrong}

-- nodes: how long the node table is; n, m: the counts; edges: the edge table's words; table: how long the order table is
module _ (nodes n : ℕ) (edges : List ℕ) (m : ℕ) where
  -- which number is given why; 0 is no refusal
  pub data OrderCause (table : ℕ) : ℕ → Type 0 where
    unfit : fits nodes n edges m ≡ false → OrderCause table 43
    too_short : fits nodes n edges m ≡ true → table < n → OrderCause table 41
    chain_back : fits nodes n edges m ≡ true → n ≤ table → Returns (rows_in m edges) → OrderCause table 40
    in_order : fits nodes n edges m ≡ true → n ≤ table → (Returns (rows_in m edges) → ⊥) → OrderCause table 0

  -- the same of a list, with the place
  pub data CheckCause (list : List ℕ) : (number place : ℕ) → Type 0 where
    unfit : fits nodes n edges m ≡ false → CheckCause list 43 0
    wrong : {i : ℕ} → fits nodes n edges m ≡ true → FirstWrong n (rows_in m edges) list i → CheckCause list 42 i
    right : fits nodes n edges m ≡ true → Valid n (rows_in m edges) list → CheckCause list 0 0

  pub record OrderAnswers (table : ℕ) : Type 0 where
    pub given : (k : ℕ) → ((order_of nodes n edges m table).number ≡ k) ↔ OrderCause table k
    -- at 41 and 43 nothing is written, at 40 the ring
    pub nothing : (k : ℕ) → OrderCause table k → 40 < k → (order_of nodes n edges m table).nodes ≡ []
    pub ring : (order_of nodes n edges m table).number ≡ 40
        → BackCycle n (rows_in m edges) (taken n (rows_in m edges)) (order_of nodes n edges m table).nodes
    -- else the first of all orders, at each place the lowest node that is free there; and the check accepts it
    pub taking : (order_of nodes n edges m table).number ≡ 0 → (i : ℕ) → i < n
        → LowestGood n (rows_in m edges) (take i (order_of nodes n edges m table).nodes) (get_or (order_of nodes n edges m table).nodes i 0)
    pub order : (order_of nodes n edges m table).number ≡ 0 → First n (rows_in m edges) (order_of nodes n edges m table).nodes
    pub accepted : (order_of nodes n edges m table).number ≡ 0 → check_of nodes n edges m (order_of nodes n edges m table).nodes ≡ checked 0 0

pub record OrderCalls : Type 0 where
  pub ordered : (nodes n : ℕ) (edges : List ℕ) (m table : ℕ) → OrderAnswers nodes n edges m table
  pub check : (nodes n : ℕ) (edges : List ℕ) (m : ℕ) (list : List ℕ) (k p : ℕ)
      → (check_of nodes n edges m list ≡ checked k p) ↔ CheckCause nodes n edges m list k p
  -- the tables that to_graph leaves fit: 43 never comes for a built graph; n₁ with the nodes, e₁ with the edges
  pub tables_fit : (mode : Mode) (s b n e d f g l : List ℕ) (i j : ℕ) {n₁ e₁ d₁ f₁ g₁ l₁ : List ℕ} → AllBytes s
      → Graphs mode s b n e d f g l (Ok (i, j)) n₁ e₁ d₁ f₁ g₁ l₁ → fits (length n₁) i e₁ j ≡ true
  -- and where they are ordered, a schema that must be registered before another is: u stands in the order before v
  pub registered : (mode : Mode) (s b n e d f g l : List ℕ) (i j table : ℕ) {n₁ e₁ d₁ f₁ g₁ l₁ : List ℕ} → AllBytes s
      → Graphs mode s b n e d f g l (Ok (i, j)) n₁ e₁ d₁ f₁ g₁ l₁ → (order_of (length n₁) i e₁ j table).number ≡ 0 → (u v : ℕ) → u < i → v < i
      → IsEdge (text_of b) (plain_at s) (named (table_names s i n₁) u) (named (table_names s i n₁) v)
      → mem u (until v (order_of (length n₁) i e₁ j table).nodes) ≡ true
