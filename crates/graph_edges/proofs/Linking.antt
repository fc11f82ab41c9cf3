-- An edge that is laid behind the others keeps every chain: its own now begins with it, and goes on as it was.
-- Assumes nothing.
use Rattle.std.specs.Prelude.{Some, None}
use mathlib.Core.Path.{◌≡◌, refl, sym, ap, ap₂, ◌∙◌}
use mathlib.Core.Logic.{⊎_elim}
use mathlib.Core.List.{List, [], ◌∷◌, ◌++◌}
use mathlib.Core.Bool.{Bool, true, false}
use Prim.Native.Nat.{ℕ, zero, suc, ◌+◌, ◌*◌, ◌≤◌, ◌<◌}
use native.Mathlib.Omega.{arith}
use native.Mathlib.Nat.{eq-or-lt_of_le}
use native.Mathlib.Numerals.{add-one}
use lib.ListN.{get_or}
use borrow.Author.Tests.{le-leb, lt-leb}
use Rattle.text_lent.proofs.Numbers.{decide}
use Rattle.graph.specs.Graph.{add_by}
use Rattle.graph.specs.Numbers.{Row, row, mem_r}
use Rattle.graph.specs.Limits.{most_edges, most_nodes}
use Rattle.graph_edges.specs.Edges.{row_at, rows_in, buckets, bucket_of, last_in, link_of, Filed, Laid, Linked}
use Rattle.graph_edges.proofs.Rows.{rows_length}
use Rattle.graph_edges.proofs.Chains.{last_here, last_else, last_same, looked}

-- ---- one edge more

module _ (edges chains edges₁ chains₁ : List ℕ) (count from to h : ℕ) (g : Filed edges chains count)
    (p : Laid edges chains count h from to edges₁ chains₁) (q : h ≡ bucket_of (row from to)) (b : h < buckets) (f : from < most_nodes) (t : to < most_nodes)
    (few : count < most_edges) where
  word_same : (j : ℕ) → j < count * 2 → get_or edges₁ j 0 ≡ get_or edges j 0
  word_same j l = p.other_edges j (λ e. omega arith) (λ e. omega arith)

  row_same : (i : ℕ) → i < count → row_at edges₁ i ≡ row_at edges i
  row_same i l = ap₂ row (word_same (i * 2) (omega arith)) (word_same (i * 2 + 1) (omega arith))

  rows_same : (n : ℕ) → n ≤ count → rows_in n edges₁ ≡ rows_in n edges
  unfolding rows_in
  rows_same zero l = refl
  rows_same (suc n) l = ap₂ (λ (rs : List Row) (r : Row). rs ++ (r ∷ [])) (rows_same n (omega arith)) (row_same n (omega arith))

  pub grown : rows_in (count + 1) edges₁ ≡ rows_in count edges ++ (row from to ∷ [])
  unfolding rows_in
  grown = rw add-one (ap₂ (λ (rs : List Row) (r : Row). rs ++ (r ∷ [])) (rows_same count (omega arith)) (ap₂ row p.from_of p.to_of))

  to_same : (i : ℕ) → i < count → get_or edges₁ (i * 2 + 1) 0 ≡ get_or edges (i * 2 + 1) 0
  to_same i l = word_same (i * 2 + 1) (omega arith)

  to_own : (i : ℕ) → i ≡ count → get_or edges₁ (i * 2 + 1) 0 ≡ to
  to_own i e = ap (λ (k : ℕ). get_or edges₁ (k * 2 + 1) 0) e ∙ p.to_of

  from_own : (i : ℕ) → i ≡ count → get_or edges₁ (i * 2) 0 ≡ from
  from_own i e = ap (λ (k : ℕ). get_or edges₁ (k * 2) 0) e ∙ p.from_of

  -- the chains
  bucket_own : bucket_of (row_at edges₁ count) ≡ h
  bucket_own = ap bucket_of (ap₂ row p.from_of p.to_of) ∙ sym q

  lasts_same : (u k : ℕ) → k ≤ count → last_in edges₁ u k ≡ last_in edges u k
  lasts_same u k l = last_same bucket_of edges edges₁ u k (λ i m. row_same i (omega arith))

  head_own : get_or chains₁ h 0 ≡ last_in edges₁ h (count + 1)
  head_own = p.head_of ∙ sym (last_here bucket_of edges₁ h count bucket_own)

  head_else : (u : ℕ) → u < buckets → (u ≡ h → ⊥) → get_or chains₁ u 0 ≡ last_in edges₁ u (count + 1)
  head_else u l d = p.other_chains u d (λ e. omega arith) ∙ g.heads_of u l ∙ sym (lasts_same u count (omega arith))
      ∙ sym (last_else bucket_of edges₁ u count (λ e. d (sym e ∙ bucket_own)))

  link_own : link_of chains₁ count ≡ last_in edges₁ (bucket_of (row_at edges₁ count)) count
  link_own = p.link_of_lem ∙ g.heads_of h b ∙ sym (lasts_same h count (omega arith)) ∙ ap (λ (u : ℕ). last_in edges₁ u count) (sym bucket_own)

  link_else : (i : ℕ) → i < count → link_of chains₁ i ≡ last_in edges₁ (bucket_of (row_at edges₁ i)) i
  link_else i l = p.other_chains (8192 + i) (λ e. omega arith) (λ e. omega arith) ∙ g.links_of i l
      ∙ sym (lasts_same (bucket_of (row_at edges i)) i (omega arith)) ∙ ap (λ (r : Row). last_in edges₁ (bucket_of r) i) (sym (row_same i l))

  pub kept : Filed edges₁ chains₁ (count + 1)
  kept = record {
    few = omega arith;
    long = omega (arith, p.kept_edges, g.long);
    wide = omega (arith, p.kept_chains, g.wide);
    blank = record { zeros = λ j l. p.other_edges j (λ e. omega arith) (λ e. omega arith) ∙ g.blank.zeros j (omega arith) };
    nodes = λ i l. ⊎_elim
        (λ e. (omega (arith, from_own i e), omega (arith, to_own i e)))
        (λ m. (omega (arith, word_same (i * 2) (omega arith), (g.nodes i m).0), omega (arith, to_same i m, (g.nodes i m).1)))
        (eq-or-lt_of_le {n = i} {m = count} (omega arith));
    heads_of = λ u l. ⊎_elim (λ e. rw e head_own) (head_else u l) (decide u h);
    links_of = λ i l. ⊎_elim (λ e. rw e link_own) (link_else i) (eq-or-lt_of_le {n = i} {m = count} (omega arith));
  }

-- ---- the ways through `add_edge`; h: the chain of the edge

module _ (edges chains : List ℕ) (count from to h : ℕ) (g : Filed edges chains count) (q : h ≡ bucket_of (row from to)) (b : h < buckets) {x : Bool}
    (k : x ≡ mem_r (row from to) (rows_in (get_or chains h 0) edges)) where
  answer : mem_r (row from to) (rows_in count edges) ≡ x
  answer = looked edges chains count g from to q b k

  pub already : x ≡ true → Linked (rows_in count edges) (row from to) edges chains (Some count) edges chains
  unfolding add_by
  already z = record { seen = rw (answer, z); filed = g; kept_edges = refl; kept_chains = refl }

  pub full : x ≡ false → most_edges ≤ count → Linked (rows_in count edges) (row from to) edges chains None edges chains
  unfolding add_by
  full z l = record { seen = rw (answer, z, rows_length, le-leb _ _ l); filed = tt; kept_edges = refl; kept_chains = refl }

  pub linked : {edges₁ chains₁ : List ℕ} → Laid edges chains count h from to edges₁ chains₁ → x ≡ false → from < most_nodes → to < most_nodes
      → count < most_edges → Linked (rows_in count edges) (row from to) edges chains (Some (count + 1)) edges₁ chains₁
  unfolding add_by
  linked {edges₁} {chains₁} p z f t l = record {
    seen = rw (answer, z, rows_length, lt-leb _ _ l, grown edges chains edges₁ chains₁ count from to h g p q b f t l);
    filed = kept edges chains edges₁ chains₁ count from to h g p q b f t l;
    kept_edges = p.kept_edges;
    kept_chains = p.kept_chains;
  }
