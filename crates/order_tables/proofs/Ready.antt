-- A node is ready exactly if every edge to it comes from a node that is done; an edge of tables that fit is between nodes.
-- Assumes nothing.
use mathlib.Core.Path.{◌≡◌, refl, sym, ◌∙◌}
use mathlib.Core.Bool.{Bool, true, false, cond, ◌&&◌}
use mathlib.Core.Logic.{⊎_elim}
use mathlib.Core.List.{List, [], ◌∷◌}
use Prim.Native.Nat.{ℕ, zero, suc, ◌<◌}
use native.Mathlib.Omega.{arith}
use native.Mathlib.Nat.{eq-or-lt_of_le}
use lib.Dec.{eqb}
use borrow.Author.Tests.{eqb-true, eqb-false, eq-eqb}
use Rattle.text.proofs.Here.{never, both}
use Rattle.graph.specs.Numbers.{Row, row, eq_r, mem_r}
use Rattle.graph_edges.specs.Edges.{row_at, rows_in}
use Rattle.order_tables.specs.Tables.{within, all_within}
use Rattle.order_tables.specs.Free.{mem, ready}
use Rattle.order_tables.proofs.Within.{inside_both, all_snoc}

row_same : (e : Row) (u v : ℕ) → eq_r e (row u v) ≡ true → (e.from ≡ u) × (e.to ≡ v)
row_same e u v h = go (eqb e.from u) refl h
  where
    go : (b : Bool) → eqb e.from u ≡ b → cond b (eqb e.to v) false ≡ true → (e.from ≡ u) × (e.to ≡ v)
    go true q k = (eqb-true _ _ q, eqb-true _ _ k)
    go false q k = absurd (never refl k)

module _ (done : List ℕ) (v : ℕ) where
  pub ready_edge : (es : List Row) (u : ℕ) → ready es done v ≡ true → mem_r (row u v) es ≡ true → mem u done ≡ true
  unfolding ready mem_r
  ready_edge [] u h k = absurd (never refl k)
  ready_edge (e ∷ es) u h k = go (ready_edge es u) (eq_r e (row u v)) refl (eqb e.to v) refl h k
    where
      go : (ready es done v ≡ true → mem_r (row u v) es ≡ true → mem u done ≡ true) → (c : Bool) → eq_r e (row u v) ≡ c
          → (b : Bool) → eqb e.to v ≡ b → cond b (mem e.from done && ready es done v) (ready es done v) ≡ true
          → cond c true (mem_r (row u v) es) ≡ true → mem u done ≡ true
      go ih true p true q a z = let s = row_same e u v p in rw s.0 at (both (mem e.from done) (ready es done v) a).0
      go ih true p false q a z = absurd (eqb-false e.to v q (row_same e u v p).1)
      go ih false p true q a z = ih (both (mem e.from done) (ready es done v) a).1 z
      go ih false p false q a z = ih a z

  pub ready_all : (es : List Row) → ((u : ℕ) → mem_r (row u v) es ≡ true → mem u done ≡ true) → ready es done v ≡ true
  unfolding ready mem_r
  ready_all [] h = refl
  ready_all (e ∷ es) h = go (ready_all es (λ u k. h u (still u (eq_r e (row u v)) k))) (eqb e.to v) refl
    where
      still : (u : ℕ) (b : Bool) → mem_r (row u v) es ≡ true → cond b true (mem_r (row u v) es) ≡ true
      still u true k = refl
      still u false k = k

      go : ready es done v ≡ true → (b : Bool) → eqb e.to v ≡ b → cond b (mem e.from done && ready es done v) (ready es done v) ≡ true
      go rest true q =
          let first : mem_r (row e.from v) (e ∷ es) ≡ true = rw (eq-eqb e.from e.from refl, q) in
          rw (h e.from first, rest)
      go rest false q = rest

  pub record Awaited (es : List Row) : Type 0 where
    pub from : ℕ
    pub edge : mem_r (row from v) es ≡ true
    pub missing : mem from done ≡ false

  pub unready : (es : List Row) → ready es done v ≡ false → Awaited es
  unfolding ready mem_r
  unready [] h = absurd (never h refl)
  unready (e ∷ es) h = go (unready es) (eqb e.to v) refl (mem e.from done) refl h
    where
      later : Awaited es → Awaited (e ∷ es)
      later a = record { from = a.from; edge = still (eq_r e (row a.from v)); missing = a.missing }
        where
          still : (b : Bool) → cond b true (mem_r (row a.from v) es) ≡ true
          still true = refl
          still false = a.edge

      go : (ready es done v ≡ false → Awaited es) → (b : Bool) → eqb e.to v ≡ b → (c : Bool) → mem e.from done ≡ c
          → cond b (c && ready es done v) (ready es done v) ≡ false → Awaited (e ∷ es)
      go ih true q true p a = later (ih a)
      go ih true q false p a = record { from = e.from; edge = rw (eq-eqb e.from e.from refl, q); missing = p }
      go ih false q c p a = later (ih a)

-- ---- edges between nodes

pub within_edge : (n : ℕ) (es : List Row) (u v : ℕ) → all_within n es ≡ true → mem_r (row u v) es ≡ true → (u < n) × (v < n)
unfolding all_within mem_r
within_edge n [] u v h k = absurd (never refl k)
within_edge n (e ∷ es) u v h k = go (within_edge n es u v) (eq_r e (row u v)) refl k
  where
    go : (all_within n es ≡ true → mem_r (row u v) es ≡ true → (u < n) × (v < n)) → (c : Bool) → eq_r e (row u v) ≡ c
        → cond c true (mem_r (row u v) es) ≡ true → (u < n) × (v < n)
    go ih true p z =
        let s = row_same e u v p in
        let i = inside_both n e (both (within n e) (all_within n es) h).0 in
        (rw (← s.0) i.0, rw (← s.1) i.1)
    go ih false p z = ih (both (within n e) (all_within n es) h).1 z

pub within_row : (n m : ℕ) (w : List ℕ) (i : ℕ) → i < m → all_within n (rows_in m w) ≡ true → ((row_at w i).from < n) × ((row_at w i).to < n)
unfolding rows_in
within_row n zero w i l h = absurd (omega arith)
within_row n (suc m) w i l h =
    let p = both (all_within n (rows_in m w)) (within n (row_at w m)) (sym (all_snoc n (rows_in m w) (row_at w m)) ∙ h) in
    ⊎_elim (λ e. rw e (inside_both n (row_at w m) p.1)) (λ k. within_row n m w i k p.0) (eq-or-lt_of_le {n = i} {m = m} (omega arith))
