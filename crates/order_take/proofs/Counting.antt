-- Edges counted one by one. The chain of a node leads over the edges from it, so that those behind its head can be left out; a node that is taken
-- makes each other wait for as many edges less as lead there from it; a node that waits for none is ready.
-- Assumes nothing.
use mathlib.Core.Path.{◌≡◌, refl, sym, ◌∙◌}
use mathlib.Core.Bool.{Bool, true, false, cond, not, ◌&&◌, and-true, and-false}
use mathlib.Core.List.{List, [], ◌∷◌, ◌++◌}
use Prim.Native.Nat.{ℕ, zero, suc, ◌+◌, ◌≤◌}
use native.Mathlib.Nat.{zero-add}
use native.Mathlib.Numerals.{add-one}
use native.Mathlib.Omega.{arith}
use lib.Dec.{eqb}
use borrow.Author.Tests.{eqb-true, eqb-false, eq-eqb, ne_eqb}
use Rattle.graph.specs.Numbers.{Row}
use Rattle.graph_edges.specs.Edges.{row_at, rows_in, last_by}
use Rattle.order_tables.specs.Free.{mem, ready}
use Rattle.order_tables.proofs.Mem.{mem_snoc_new, mem_snoc_else}
use Rattle.order_take.specs.Chains.{one, last_from, waiting, pending}

one_most : (b : Bool) → one b ≤ 1
one_most true = omega arith
one_most false = omega arith

-- ---- the rows of a table, one row more

ready_snoc : (es : List Row) (e : Row) (done : List ℕ) (v : ℕ)
    → ready (es ++ (e ∷ [])) done v ≡ (ready es done v && cond (eqb e.to v) (mem e.from done) true)
unfolding ready
ready_snoc [] e done v = go (eqb e.to v)
  where
    go : (b : Bool) → cond b (mem e.from done && true) true ≡ cond b (mem e.from done) true
    go true = and-true (mem e.from done)
    go false = refl
ready_snoc (x ∷ es) e done v =
    go (eqb x.to v) (mem x.from done) (ready es done v) (cond (eqb e.to v) (mem e.from done) true) (ready_snoc es e done v)
  where
    go : (b c s t : Bool) {r : Bool} → r ≡ (s && t) → cond b (c && r) r ≡ (cond b (c && s) s && t)
    go true true s t ih = ih
    go true false s t ih = refl
    go false c s t ih = ih

module _ (edges : List ℕ) where
  -- ---- the edges from v to w

  module _ (v w : ℕ) where
    pub pending_here : (k : ℕ) → (row_at edges k).from ≡ v → (row_at edges k).to ≡ w → pending edges v w (suc k) ≡ pending edges v w k + 1
    unfolding pending
    pending_here k e f = rw (eq-eqb _ _ e, eq-eqb _ _ f) (omega arith)

    pub pending_else : (k : ℕ) → ((row_at edges k).to ≡ w → ⊥) → pending edges v w (suc k) ≡ pending edges v w k
    unfolding pending
    pending_else k d = rw (ne_eqb _ _ d) (omega arith)

    -- those behind the last from v can be left out
    pub pending_last : (k : ℕ) → pending edges v w k ≡ pending edges v w (last_from edges v k)
    unfolding last_by pending
    pending_last zero = refl
    pending_last (suc k) = go (eqb (row_at edges k).from v) refl (pending_last k)
      where
        go : (b : Bool) → eqb (row_at edges k).from v ≡ b → pending edges v w k ≡ pending edges v w (last_from edges v k)
            → pending edges v w (suc k) ≡ pending edges v w (cond b (suc k) (last_from edges v k))
        go true e ih = refl
        go false e ih = rw (e, and-false (eqb (row_at edges k).to w), zero-add) ih

  -- ---- the edges that a node waits for

  pub wait_most : (done : List ℕ) (v k : ℕ) → waiting edges done v k ≤ k
  unfolding waiting
  wait_most done v zero = omega arith
  wait_most done v (suc k) = omega (arith, wait_most done v k, one_most (eqb (row_at edges k).to v && not (mem (row_at edges k).from done)))

  pub wait_here : (v k : ℕ) → (row_at edges k).to ≡ v → waiting edges [] v (k + 1) ≡ waiting edges [] v k + 1
  unfolding waiting mem
  wait_here v k e = rw (add-one, eq-eqb _ _ e) (omega arith)

  pub wait_else : (v k : ℕ) → ((row_at edges k).to ≡ v → ⊥) → waiting edges [] v (k + 1) ≡ waiting edges [] v k
  unfolding waiting
  wait_else v k d = rw (add-one, ne_eqb _ _ d) (omega arith)

  pub wait_split : (done : List ℕ) (v : ℕ) → mem v done ≡ false → (w k : ℕ)
      → waiting edges done w k ≡ waiting edges (done ++ (v ∷ [])) w k + pending edges v w k
  unfolding waiting pending
  wait_split done v free w zero = omega arith
  wait_split done v free w (suc k) =
      go (row_at edges k).from (waiting edges (done ++ (v ∷ [])) w k) (pending edges v w k) (eqb (row_at edges k).to w) (eqb (row_at edges k).from v) refl
      (wait_split done v free w k)
    where
      go : (u y z : ℕ) (t f : Bool) → eqb u v ≡ f → {x : ℕ} → x ≡ y + z
          → one (t && not (mem u done)) + x ≡ one (t && not (mem u (done ++ (v ∷ [])))) + y + (one (t && f) + z)
      go u y z false f e ih = omega arith
      go u y z true true e ih =
          let q : u ≡ v = eqb-true u v e in
          let a : mem u done ≡ false = rw q free in
          let b : mem u (done ++ (v ∷ [])) ≡ true = rw q (mem_snoc_new v done) in
          rw (a, b) (omega arith)
      go u y z true false e ih = rw (mem_snoc_else u v done (eqb-false u v e)) (omega arith)

  pub ready_wait : (done : List ℕ) (v k : ℕ) → ready (rows_in k edges) done v ≡ eqb (waiting edges done v k) 0
  unfolding waiting rows_in ready
  ready_wait done v zero = refl
  ready_wait done v (suc k) =
      ready_snoc (rows_in k edges) (row_at edges k) done v
      ∙ go (waiting edges done v k) (eqb (row_at edges k).to v) (mem (row_at edges k).from done) (ready_wait done v k)
    where
      go : (x : ℕ) (t c : Bool) {r : Bool} → r ≡ eqb x 0 → (r && cond t c true) ≡ eqb (one (t && not c) + x) 0
      go x true true {r} ih = and-true r ∙ rw zero-add ih
      go x true false {r} ih = and-false r ∙ sym (ne_eqb (1 + x) 0 (λ e. omega arith))
      go x false c {r} ih = and-true r ∙ rw zero-add ih
