-- Each edge from a node left over lowers the word of the node that it leads to, so the word is the lowest of them all.
-- Assumes nothing.
use mathlib.Core.Path.{◌≡◌, refl, sym, ◌∙◌}
use mathlib.Core.Logic.{⊎_elim}
use mathlib.Core.Bool.{Bool, true, false, cond, ◌&&◌, and-false}
use mathlib.Core.List.{List, [], ◌∷◌, ◌++◌}
use Prim.Native.Nat.{ℕ, ◌+◌, ◌*◌, ◌≤◌, ◌<◌}
use native.Mathlib.Omega.{arith}
use native.Mathlib.Nat.{eq-or-lt_of_le}
use native.Mathlib.Numerals.{add-one}
use lib.ListN.{length, get_or, set, length-set}
use lib.Seq.{get_or-set_same, get_or-set_other}
use lib.Dec.{eqb, ltb}
use borrow.Author.Tests.{eq-eqb, ne_eqb, ltb-true, ltb-false}
use Rattle.text_lent.proofs.Numbers.{decide}
use Rattle.graph.specs.Numbers.{Row, row, mem_r}
use Rattle.graph.specs.Limits.{most_nodes}
use Rattle.graph_edges.specs.Edges.{row_at, rows_in}
use Rattle.graph.proofs.Tests.{or_not, always}
use Rattle.graph_edges.proofs.Rows.{mem_snoc}
use Rattle.order_tables.specs.Free.{lowest, zero_at}
use Rattle.order_tables.proofs.Lowest.{lowest_has, lowest_none, lowest_is, lowest_not, lowest_same}
use Rattle.order_ring.specs.Trail.{noted, lowest_to, Notes, Noted}

-- ---- the lowest number with one property or another

-- p' is p, and x has it too
module _ (p p' : ℕ → Bool) (n x : ℕ) (below : x < n) (own : p' x ≡ true) (else : (u : ℕ) → (u ≡ x → ⊥) → p' u ≡ p u) where
  with_lower : x < lowest p n → lowest p' n ≡ x
  with_lower l = lowest_is p' n x below own (λ j m. else j (λ e. omega arith) ∙ lowest_none p n j (omega arith))

  with_higher : lowest p n ≤ x → lowest p' n ≡ lowest p n
  with_higher l = ⊎_elim
      (λ e. lowest_is p' n (lowest p n) (omega arith) (rw e own) (λ j m. else j (λ k. omega arith) ∙ lowest_none p n j m))
      (λ k. lowest_is p' n (lowest p n) (omega arith) (else (lowest p n) (λ e. omega arith) ∙ lowest_has p n (omega arith))
      (λ j m. else j (λ q. omega arith) ∙ lowest_none p n j m))
      (eq-or-lt_of_le {n = lowest p n} {m = x} l)

-- ---- the rows, one more

module _ (es : List Row) (from to : ℕ) where
  abbrev More : List Row
  More = es ++ (row from to ∷ [])

  new_row : mem_r (row from to) More ≡ true
  new_row = mem_snoc (row from to) es (row from to) ∙ rw (eq-eqb from from refl, eq-eqb to to refl) (always (mem_r (row from to) es))

  other_from : (u v : ℕ) → (u ≡ from → ⊥) → mem_r (row u v) More ≡ mem_r (row u v) es
  other_from u v d = mem_snoc (row u v) es (row from to) ∙ rw (ne_eqb from u (λ e. d (sym e))) (or_not (mem_r (row u v) es))

  other_to : (u v : ℕ) → (v ≡ to → ⊥) → mem_r (row u v) More ≡ mem_r (row u v) es
  other_to u v d = mem_snoc (row u v) es (row from to) ∙ rw (ne_eqb to v (λ e. d (sym e))) (go (eqb from u) (mem_r (row u v) es))
    where
      go : (a b : Bool) → cond b true (cond a false false) ≡ b
      go true true = refl
      go true false = refl
      go false true = refl
      go false false = refl

  -- ---- what one more row does to the lowest numbers

  module _ (gone : List ℕ) where
    to_other : (v : ℕ) → (v ≡ to → ⊥) → lowest_to gone More v ≡ lowest_to gone es v
    to_other v d = lowest_same (λ u. zero_at gone u && mem_r (row u v) More) (λ u. zero_at gone u && mem_r (row u v) es) most_nodes
        (λ u l. rw (other_to u v d))

    from_taken : (v : ℕ) → zero_at gone from ≡ false → lowest_to gone More v ≡ lowest_to gone es v
    from_taken v k = lowest_same (λ u. zero_at gone u && mem_r (row u v) More) (λ u. zero_at gone u && mem_r (row u v) es) most_nodes
        (λ u l. ⊎_elim (λ e. rw e (rw k)) (λ d. rw (other_from u v d)) (decide u from))

    module _ (low : from < most_nodes) (k : zero_at gone from ≡ true) where
      lower : from < lowest_to gone es to → lowest_to gone More to ≡ from
      lower l = with_lower (λ u. zero_at gone u && mem_r (row u to) es) (λ u. zero_at gone u && mem_r (row u to) More) most_nodes from low
          (rw (k, new_row)) (λ u d. rw (other_from u to d)) l

      higher : lowest_to gone es to ≤ from → lowest_to gone More to ≡ lowest_to gone es to
      higher l = with_higher (λ u. zero_at gone u && mem_r (row u to) es) (λ u. zero_at gone u && mem_r (row u to) More) most_nodes from low
          (rw (k, new_row)) (λ u d. rw (other_from u to d)) l

    -- the word of each node follows
    module _ (before : List ℕ) (h : Noted gone es before) (f : from < most_nodes) (t : to < most_nodes) where
      at_other : (v : ℕ) → v < most_nodes → (v ≡ to → ⊥) → get_or (noted gone before (row from to)) v 0 ≡ lowest_to gone More v
      at_other v l d = go (zero_at gone from && ltb from (get_or before to 0))
        where
          go : (b : Bool) → get_or (cond b (set before to from) before) v 0 ≡ lowest_to gone More v
          go true = get_or-set_other before to v from 0 d ∙ h.same v l ∙ sym (to_other v d)
          go false = h.same v l ∙ sym (to_other v d)

      at_own : get_or (noted gone before (row from to)) to 0 ≡ lowest_to gone More to
      at_own = go (zero_at gone from) refl (ltb from (get_or before to 0)) refl
        where
          now_is : get_or before to 0 ≡ lowest_to gone es to
          now_is = h.same to t

          go : (a : Bool) → zero_at gone from ≡ a → (b : Bool) → ltb from (get_or before to 0) ≡ b
              → get_or (cond (a && b) (set before to from) before) to 0 ≡ lowest_to gone More to
          go true p true q = get_or-set_same before to from 0 (omega (arith, h.long))
              ∙ sym (lower f p (omega (arith, ltb-true from (get_or before to 0) q, now_is)))
          go true p false q = now_is ∙ sym (higher f p (omega (arith, ltb-false from (get_or before to 0) q, now_is)))
          go false p b q = now_is ∙ sym (from_taken to p)

      noted_more : Noted gone More (noted gone before (row from to))
      noted_more = record {
        long = go (zero_at gone from && ltb from (get_or before to 0));
        same = λ v l. ⊎_elim (λ e. rw e at_own) (λ d. at_other v l d) (decide v to);
      }
        where
          go : (b : Bool) → most_nodes ≤ length (cond b (set before to from) before)
          go true = rw length-set h.long
          go false = h.long

-- ---- the loop of `note_edges`

pub record Noting (edges : List ℕ) (m : ℕ) (gone before₀ before : List ℕ) (i : ℕ) : Type 0 where
  pub kept : length before ≡ length before₀
  pub most : i ≤ m
  pub sofar : Noted gone (rows_in i edges) before

module _ (edges : List ℕ) (m : ℕ) (gone before₀ : List ℕ) (g : Notes edges m gone before₀) where
  pub note_begun : Noting edges m gone before₀ before₀ 0
  unfolding rows_in mem_r
  note_begun = record {
    kept = refl;
    most = omega arith;
    sofar = record {
      long = g.long_before;
      same = λ v l. g.none v l ∙ sym (lowest_not (λ u. zero_at gone u && false) most_nodes (λ u k. and-false (zero_at gone u)));
    };
  }

  module _ (before : List ℕ) (i : ℕ) (h : Noting edges m gone before₀ before i) where
    pub row_in : i < m → i * 2 + 1 < length edges
    row_in l = omega (arith, g.all)

    pub from_in : i < m → (row_at edges i).from < length gone
    from_in l = omega (arith, (g.ends i l).0, g.long_gone)

    pub to_in : i < m → (row_at edges i).to < length before
    to_in l = omega (arith, (g.ends i l).1, h.sofar.long)

    pub note_more : {after : List ℕ} → after ≡ noted gone before (row_at edges i) → length after ≡ length before → i < m
        → Noting edges m gone before₀ after (i + 1)
    unfolding rows_in
    note_more e k l = record {
      kept = k ∙ h.kept;
      most = omega arith;
      sofar = rw (e, add-one i) (noted_more (rows_in i edges) (row_at edges i).from (row_at edges i).to gone before h.sofar
          (g.ends i l).0 (g.ends i l).1);
    }

    pub note_done : m ≤ i → Noted gone (rows_in m edges) before
    note_done l = let e : i ≡ m = omega (arith, h.most) in rw (← e) h.sofar
