-- A node left over waits for a left-over node, so there is a lowest one with an edge to it: the way back never leaves the nodes left over, and the
-- table's words are the definition's nodes.
-- Assumes nothing.
use mathlib.Core.Path.{◌≡◌, refl, sym, ap, ◌∙◌}
use mathlib.Core.Bool.{Bool, true, false, cond, not, ◌&&◌}
use mathlib.Core.List.{List, [], ◌∷◌}
use Prim.Native.Nat.{ℕ, zero, suc, ◌-◌, ◌≤◌, ◌<◌}
use native.Mathlib.Omega.{arith}
use lib.ListN.{length, get_or, take, replicate, length-replicate, get_or-replicate}
use lib.Dec.{eqb, ltb}
use borrow.Author.Tests.{ltb-true, lt-ltb, not-true}
use Rattle.text.proofs.Here.{both}
use Rattle.graph.specs.Numbers.{Row, row, mem_r}
use Rattle.graph.specs.Limits.{most_nodes}
use Rattle.graph_edges.specs.Edges.{rows_in}
use Rattle.order_tables.specs.Tables.{Fit}
use Rattle.order_tables.specs.Free.{mem, lowest_from, lowest, zero_at, Stuck}
use Rattle.order_tables.proofs.Lowest.{lowest_has, lowest_wider, lowest_same}
use Rattle.order_tables.proofs.Ready.{within_row}
use Rattle.order_ring.specs.declared.Met.{Met}
use Rattle.order_ring.specs.Ring.{left, first_left, before, go_back}
use Rattle.order_ring.specs.Trail.{Flags, Marks, Notes, Noted, word_of, Closed, Goes, Went, Trailed}
use Rattle.order_ring.proofs.Round.{before_below}

none_marked : Flags [] (replicate most_nodes 0)
unfolding mem
none_marked = record { long = rw length-replicate (omega arith); same = λ v l. get_or-replicate most_nodes v 0 0 l }

module _ (edges : List ℕ) (n m : ℕ) (list : List ℕ) (count : ℕ) (f : Fit n edges m) (s : Stuck n (rows_in m edges) (take count list)) where
  abbrev es : List Row
  es = rows_in m edges

  abbrev done : List ℕ
  done = take count list

  pub marks : count ≤ length list → Marks list count (replicate most_nodes 0)
  marks l = record { clear = none_marked; all = l; below = λ v h. omega (arith, s.below v h, f.few_nodes) }

  module _ (gone : List ℕ) (g : Flags done gone) where
    pub notes : Notes edges m gone (replicate most_nodes most_nodes)
    notes = record {
      all = f.long;
      ends = λ i l. let w = within_row n m edges i l f.inside in (omega (arith, w.0, f.few_nodes), omega (arith, w.1, f.few_nodes));
      long_gone = g.long;
      long_before = rw length-replicate (omega arith);
      none = λ v l. get_or-replicate most_nodes v most_nodes 0 l;
    }

    pub look_in : n ≤ length gone
    look_in = omega (arith, f.few_nodes, g.long)

    is_left : (v : ℕ) → v < most_nodes → zero_at gone v ≡ left done v
    is_left v l = ap (λ (w : ℕ). eqb w 0) (g.same v l) ∙ go (mem v done)
      where
        go : (b : Bool) → eqb (cond b 1 0) 0 ≡ not b
        go true = refl
        go false = refl

    -- ---- the nodes of the way

    abbrev own : ℕ → Bool
    own v = ltb v n && left done v

    own_low : (v : ℕ) → own v ≡ true → v < n
    own_low v h = ltb-true v n (both (ltb v n) (left done v) h).0

    own_left : (v : ℕ) → own v ≡ true → mem v done ≡ false
    own_left v h = not-true (mem v done) (both (ltb v n) (left done v) h).1

    own_is : (v : ℕ) → v < n → left done v ≡ true → own v ≡ true
    own_is v l h = rw (lt-ltb v n l, h)

    module _ (table : List ℕ) (t : Noted gone es table) where
      module _ (v : ℕ) (h : own v ≡ true) where
        abbrev has : ℕ → Bool
        has u = left done u && mem_r (row u v) es

        found : lowest has n < n
        found = before_below n es done s f.inside v (own_low v h) (own_left v h)

        word_is : get_or table v 0 ≡ before n es done v
        word_is = t.same v (omega (arith, own_low v h, f.few_nodes))
            ∙ lowest_same (λ u. zero_at gone u && mem_r (row u v) es) has most_nodes (λ u l. rw (is_left u l))
            ∙ lowest_wider has n most_nodes f.few_nodes found

        word_own : own (get_or table v 0) ≡ true
        word_own = rw word_is (own_is (lowest has n) found (both (left done (lowest has n)) (mem_r (row (lowest has n) v) es) (lowest_has has n found)).0)

      module _ (start : ℕ) (q : start ≡ lowest_from (zero_at gone) 0 (n - 0)) where
        start_is : start ≡ first_left n done
        start_is =
            let e : n - 0 ≡ n = omega arith in
            q ∙ ap (lowest_from (zero_at gone) 0) e ∙ lowest_same (zero_at gone) (left done) n (λ u l. is_left u (omega (arith, f.few_nodes)))

        start_own : own start ≡ true
        start_own = rw start_is (own_is (first_left n done) s.some (lowest_has (left done) n s.some))

        closed : (k : ℕ) → n ≤ k → Closed table start k own
        closed k l = record { below = λ u h. omega (arith, own_low u h); start = start_own; next = word_own }

        pub goes : {trail : List ℕ} → length trail ≡ most_nodes → Goes table start gone trail
        goes e = record {
          own = own;
          closed = closed most_nodes f.few_nodes;
          marked = done;
          flags = g;
          apart = own_left;
          long_before = t.long;
          long_trail = e;
        }

        walk_same : (k : ℕ) (seen : List ℕ) (v : ℕ) → own v ≡ true → go_back (word_of table) k seen v ≡ go_back (before n es done) k seen v
        unfolding go_back
        walk_same zero seen v h = refl
        walk_same (suc k) seen v h = rw (walk_same k (v ∷ seen) (get_or table v 0) (word_own v h), word_is v h)

        pub trailed : (trail : List ℕ) (r : Met) → Went table start trail r → Trailed n es done trail r
        trailed trail r w =
            let l = w.few n own (closed n (omega arith)) in
            record {
              low = w.low;
              again = w.again;
              few = l;
              same = rw (← start_is) (sym (walk_same (suc n) [] start start_own) ∙ w.same n l);
            }
