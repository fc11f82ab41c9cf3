-- A row that is equal to another is in the same chain, so a look along that chain is a look among all rows.
-- Assumes nothing.
use mathlib.Core.Path.{◌≡◌, refl, sym, ap, ap₂, ◌∙◌}
use mathlib.Core.List.{List}
use mathlib.Core.Bool.{Bool, true, false, cond}
use Prim.Native.Nat.{ℕ, zero, suc, ◌+◌, ◌-◌, ◌*◌, ◌%◌, ◌≤◌, ◌<◌}
use native.Mathlib.Omega.{arith}
use native.Mathlib.Numerals.{add-one, sub-one}
use lib.ListN.{length, get_or}
use lib.Dec.{eqb}
use borrow.Author.Tests.{eqb-true, eqb-false, eq-eqb, ne_eqb}
use Rattle.graph.specs.Numbers.{Row, row, eq_r, mem_r}
use Rattle.graph.specs.Limits.{most_edges}
use Rattle.graph_edges.specs.Edges.{edge_table, chain_table, buckets, bucket_of, row_at, rows_in, last_by, last_in, link_of, Filed, Chain, Empty}
use Rattle.graph.proofs.Tests.{or_not, always}
use Rattle.graph_edges.proofs.Rows.{mem_snoc}

-- ---- one row beside another

-- rows of which a number differs, differ
differ : (at : Row → ℕ) (a b c d : ℕ) → (at (row a b) ≡ at (row c d) → ⊥) → eq_r (row a b) (row c d) ≡ false
differ at a b c d n = go (eqb a c) refl (eqb b d) refl
  where
    go : (x : Bool) → eqb a c ≡ x → (y : Bool) → eqb b d ≡ y → cond x y false ≡ false
    go true p true q = absurd (n (ap₂ (λ (s t : ℕ). at (row s t)) (eqb-true a c p) (eqb-true b d q)))
    go true p false q = refl
    go false p y q = refl

-- the chain of an edge
pub bucketed : (a b : ℕ) {x y : ℕ} → x ≡ a → y ≡ b → ((x * 131 + y) % 8192 ≡ bucket_of (row a b)) × ((x * 131 + y) % 8192 < buckets)
bucketed a b p q = (rw (p, q), omega arith)

-- ---- the last edge of a chain

module _ (at : Row → ℕ) (edges : List ℕ) where
  pub last_low : (u k : ℕ) → last_by at edges u k ≤ k
  unfolding last_by
  last_low u zero = omega arith
  last_low u (suc k) = go (eqb (at (row_at edges k)) u) (last_low u k)
    where
      go : (b : Bool) → last_by at edges u k ≤ k → cond b (suc k) (last_by at edges u k) ≤ suc k
      go true l = omega arith
      go false l = omega arith

  pub last_own : (u k : ℕ) → 0 < last_by at edges u k → at (row_at edges (last_by at edges u k - 1)) ≡ u
  unfolding last_by
  last_own u zero l = absurd (omega arith)
  last_own u (suc k) l = go (eqb (at (row_at edges k)) u) refl (last_own u k) l
    where
      go : (b : Bool) → eqb (at (row_at edges k)) u ≡ b → (0 < last_by at edges u k → at (row_at edges (last_by at edges u k - 1)) ≡ u)
          → 0 < cond b (suc k) (last_by at edges u k) → at (row_at edges (cond b (suc k) (last_by at edges u k) - 1)) ≡ u
      go true e ih l = rw sub-one (eqb-true _ _ e)
      go false e ih l = ih l

  pub last_here : (u k : ℕ) → at (row_at edges k) ≡ u → last_by at edges u (k + 1) ≡ k + 1
  unfolding last_by
  last_here u k e = rw (add-one, eq-eqb _ _ e)

  pub last_else : (u k : ℕ) → (at (row_at edges k) ≡ u → ⊥) → last_by at edges u (k + 1) ≡ last_by at edges u k
  unfolding last_by
  last_else u k d = rw (add-one, ne_eqb _ _ d)

  -- it hangs on the first k edges alone
  pub last_same : (edges₁ : List ℕ) (u k : ℕ) → ((i : ℕ) → i < k → row_at edges₁ i ≡ row_at edges i) → last_by at edges₁ u k ≡ last_by at edges u k
  unfolding last_by
  last_same edges₁ u zero h = refl
  last_same edges₁ u (suc k) h =
      ap₂ (λ (r : Row) (n : ℕ). cond (eqb (at r) u) (suc k) n) (h k (omega arith)) (last_same edges₁ u k (λ i l. h i (omega arith)))

  -- a row is not behind the last edge of its chain
  mem_last : (a b k : ℕ) → mem_r (row a b) (rows_in k edges) ≡ mem_r (row a b) (rows_in (last_by at edges (at (row a b)) k) edges)
  unfolding last_by rows_in
  mem_last a b zero = refl
  mem_last a b (suc k) = go (eqb (at (row_at edges k)) (at (row a b))) refl (mem_last a b k)
    where
      go : (x : Bool) → eqb (at (row_at edges k)) (at (row a b)) ≡ x
          → mem_r (row a b) (rows_in k edges) ≡ mem_r (row a b) (rows_in (last_by at edges (at (row a b)) k) edges)
          → mem_r (row a b) (rows_in (suc k) edges) ≡ mem_r (row a b) (rows_in (cond x (suc k) (last_by at edges (at (row a b)) k)) edges)
      go true e ih = refl
      go false e ih =
          let other : eq_r (row_at edges k) (row a b) ≡ false = differ at (get_or edges (k * 2) 0) (get_or edges (k * 2 + 1) 0) a b (eqb-false _ _ e) in
          mem_snoc (row a b) (rows_in k edges) (row_at edges k) ∙ ap (λ (x : Bool). cond (mem_r (row a b) (rows_in k edges)) true x) other ∙ or_not _ ∙ ih

-- ---- along the chain h

module _ (edges chains : List ℕ) (a b h : ℕ) where
  chain_at : (k : ℕ) → h ≡ bucket_of (row a b) → k ≤ most_edges → edge_table ≤ length edges → chain_table ≤ length chains
      → ((i : ℕ) → i < k → link_of chains i ≡ last_in edges (bucket_of (row_at edges i)) i) → {e : ℕ} → e ≡ last_in edges h k
      → Chain edges chains (row a b) h e
  chain_at k its few long wide links {e} q =
      let most : e ≤ k = omega (arith, last_low bucket_of edges h k) in
      record {
        its = its;
        few = omega arith;
        long = long;
        wide = wide;
        own = rw q (last_own bucket_of edges h k);
        links_of = λ i l. links i (omega arith);
      }

  -- what the loop keeps
  pub record Seeking (e : ℕ) : Type 0 where
    pub chain : Chain edges chains (row a b) h e
    pub same : mem_r (row a b) (rows_in (get_or chains h 0) edges) ≡ mem_r (row a b) (rows_in e edges)

  pub seek_begun : Chain edges chains (row a b) h (get_or chains h 0) → {e : ℕ} → e ≡ get_or chains h 0 → Seeking e
  seek_begun c q = record { chain = rw q c; same = rw q refl }

  module _ (e : ℕ) (g : Seeking e) where
    pub seek_none : e ≤ 0 → false ≡ mem_r (row a b) (rows_in (get_or chains h 0) edges)
    unfolding rows_in mem_r
    seek_none l = let z : e ≡ 0 = omega arith in sym (g.same ∙ rw z)

    module _ (l : 0 < e) where
      module _ {x : Bool} (k : x ≡ eq_r (row_at edges (e - 1)) (row a b)) where
        step : mem_r (row a b) (rows_in e edges) ≡ cond (mem_r (row a b) (rows_in (e - 1) edges)) true x
        unfolding rows_in
        step =
            let here : e ≡ suc (e - 1) = omega arith in
            ap (λ (n : ℕ). mem_r (row a b) (rows_in n edges)) here ∙ mem_snoc (row a b) (rows_in (e - 1) edges) (row_at edges (e - 1))
            ∙ ap (λ (y : Bool). cond (mem_r (row a b) (rows_in (e - 1) edges)) true y) (sym k)

        pub seek_found : x ≡ true → true ≡ mem_r (row a b) (rows_in (get_or chains h 0) edges)
        seek_found z = sym (g.same ∙ step ∙ rw z (always (mem_r (row a b) (rows_in (e - 1) edges))))

      module _ {next : ℕ} (q : next ≡ get_or chains (8192 + (e - 1)) 0) where
        link_last : next ≡ last_in edges h (e - 1)
        link_last = q ∙ g.chain.links_of (e - 1) (omega arith) ∙ ap (λ (u : ℕ). last_in edges u (e - 1)) (g.chain.own l)

        pub seek_falls : next < e
        seek_falls = omega (arith, link_last, last_low bucket_of edges h (e - 1))

        rest_last : mem_r (row a b) (rows_in (e - 1) edges) ≡ mem_r (row a b) (rows_in next edges)
        rest_last = mem_last bucket_of edges a b (e - 1)
            ∙ ap (λ (u : ℕ). mem_r (row a b) (rows_in (last_in edges u (e - 1)) edges)) (sym g.chain.its)
            ∙ ap (λ (n : ℕ). mem_r (row a b) (rows_in n edges)) (sym link_last)

        pub seek_next : {x : Bool} → x ≡ eq_r (row_at edges (e - 1)) (row a b) → x ≡ false → Seeking next
        seek_next k z = record {
          chain = chain_at (e - 1) g.chain.its (omega (arith, g.chain.few)) g.chain.long g.chain.wide
              (λ i m. g.chain.links_of i (omega arith)) link_last;
          same = g.same ∙ step k ∙ rw z (or_not (mem_r (row a b) (rows_in (e - 1) edges))) ∙ rest_last;
        }

-- ---- the look of `add_edge`; h: the chain of the edge

module _ (edges chains : List ℕ) (count : ℕ) (g : Filed edges chains count) (from to : ℕ) {h : ℕ} (q : h ≡ bucket_of (row from to)) (l : h < buckets) where
  pub look_in : Chain edges chains (row from to) h (get_or chains h 0)
  look_in = chain_at edges chains from to h count q g.few g.long g.wide g.links_of (g.heads_of h l)

  pub looked : {x : Bool} → x ≡ mem_r (row from to) (rows_in (get_or chains h 0) edges) → mem_r (row from to) (rows_in count edges) ≡ x
  looked k = mem_last bucket_of edges from to count ∙ ap (λ (u : ℕ). mem_r (row from to) (rows_in (last_in edges u count) edges)) (sym q)
      ∙ ap (λ (n : ℕ). mem_r (row from to) (rows_in n edges)) (sym (g.heads_of h l)) ∙ sym k

-- ---- no edge yet

pub empty_filed : (edges chains : List ℕ) → Empty edges chains → Filed edges chains 0
unfolding last_by
empty_filed edges chains e = record {
  few = omega arith;
  long = e.long;
  wide = e.wide;
  blank = record { zeros = λ j l. e.no_edges j };
  nodes = λ i l. absurd (omega arith);
  heads_of = λ h l. e.no_chains h;
  links_of = λ i l. absurd (omega arith);
}
