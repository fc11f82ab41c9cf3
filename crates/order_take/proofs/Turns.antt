-- A turn takes the lowest free node: a count of 0 says that a node is neither done nor waits, so the lowest zero is what the order takes next. Each
-- turn leaves one less to take, and where none is free the order is at its end.
-- Assumes nothing.
use mathlib.Core.Path.{◌≡◌, refl, sym, ap, ◌∙◌}
use mathlib.Core.Bool.{Bool, true, false, cond, not, ◌&&◌}
use mathlib.Core.Logic.{⊎_elim}
use mathlib.Core.List.{List, [], ◌∷◌, ◌++◌}
use Prim.Native.Nat.{ℕ, suc, ◌+◌, ◌-◌, ◌/◌, ◌≤◌, ◌<◌}
use native.Mathlib.Nat.{zero-add}
use native.Mathlib.Omega.{arith}
use lib.ListN.{length, get_or, set, replicate, length-replicate, length-append}
use lib.Seq.{sets, length-sets}
use lib.Dec.{eqb}
use borrow.Author.Tests.{eqb-true, lt-ltb, le-ltb}
use Rattle.text.proofs.Here.{by_test, never}
use Rattle.text.proofs.Writing.{sets_append}
use Rattle.text_lent.proofs.Numbers.{decide}
use Rattle.graph_edges.specs.Edges.{rows_in, last_by}
use Rattle.text_lent.proofs.Zeros.{zeros_zero}
use Rattle.order_tables.specs.Free.{mem, ready, free, zero_at}
use Rattle.order_tables.specs.Tables.{Fit}
use Rattle.order_tables.proofs.Mem.{mem_snoc_new, mem_snoc_else}
use Rattle.order_tables.proofs.Lowest.{lowest_has, lowest_same}
use Rattle.order_tables.proofs.Ready.{within_row}
use Rattle.order_take.specs.Taking.{next, take_from, taken}
use Rattle.order_take.specs.Chains.{waiting, pending, Rows, Links, Heads, Chained, Lows, Looks, Looked, Takes, Took}
use Rattle.order_take.proofs.Counting.{pending_last, wait_split, ready_wait}
use Rattle.order_take.proofs.Releasing.{chain_at}

-- ---- before the first turn

pub rows_fit : (n m : ℕ) (edges : List ℕ) → Fit n edges m → Rows edges m
rows_fit n m edges f = record {
  few = f.few_edges;
  long = f.long;
  froms = λ i l. omega (arith, (within_row n m edges i l f.inside).0, f.few_nodes);
  tos = λ i l. omega (arith, (within_row n m edges i l f.inside).1, f.few_nodes);
}

-- sizes of the tables
pub none_chained : (edges : List ℕ) (a b : ℕ) → a ≡ 1024 → b ≡ 8192 → Chained edges 0 (replicate a 0) (replicate b 0) (replicate a 0)
unfolding last_by waiting
none_chained edges a b p q = record {
  linked = record { room = length-replicate {A = ℕ} b 0 ∙ q; links_of = λ i l. absurd (omega arith) };
  headed = record { room = length-replicate {A = ℕ} a 0 ∙ p; heads_of = λ u. zeros_zero a u };
  counted = record { room = length-replicate {A = ℕ} a 0 ∙ p; waits_of = λ v. zeros_zero a v };
}

lows_begun : (n : ℕ) (waits : List ℕ) (a : ℕ) → a ≡ 33 → Lows n waits (replicate a 0)
lows_begun n waits a p = record {
  room = length-replicate {A = ℕ} a 0 ∙ p;
  near = omega (arith, zeros_zero a 32);
  low = λ w l z. omega (arith, zeros_zero a (w / 32));
  start = λ w l z. omega (arith, zeros_zero a 32);
}

-- ---- what the loop keeps

pub record Taking (edges : List ℕ) (n m : ℕ) (order₀ heads links order waits lows : List ℕ) (k : ℕ) : Type 0 where
  pub done : List ℕ
  pub count : k ≡ length done
  pub linked : Links edges m links
  pub headed : Heads edges m heads
  pub room : length waits ≡ 1024
  pub waits_of : (w : ℕ) → get_or waits w 0 ≡ cond (mem w done) 8193 (waiting edges done w m)
  pub closed : (w : ℕ) → mem w done ≡ true → waiting edges done w m ≡ 0
  pub kept : Lows n waits lows
  pub same : take_from (n - k) n (rows_in m edges) done ≡ taken n (rows_in m edges)
  pub written : order ≡ sets order₀ 0 done

module _ (edges : List ℕ) (n m : ℕ) (f : Fit n edges m) (order₀ heads links : List ℕ) where
  pub take_begun : (waits : List ℕ) (a : ℕ) → a ≡ 33 → Chained edges m heads links waits
      → Taking edges n m order₀ heads links order₀ waits (replicate a 0) 0
  unfolding mem
  take_begun waits a p c = record {
    done = [];
    count = refl;
    linked = c.linked;
    headed = c.headed;
    room = c.counted.room;
    waits_of = c.counted.waits_of;
    closed = λ w h. absurd (never refl h);
    kept = lows_begun n waits a p;
    same = ap (λ (k : ℕ). take_from k n (rows_in m edges) []) (omega arith);
    written = refl;
  }

  module _ (order waits lows : List ℕ) (k : ℕ) (g : Taking edges n m order₀ heads links order waits lows k) where
    abbrev done : List ℕ
    done = g.done

    pub may_seek : Looks waits lows n
    may_seek = record { few = f.few_nodes; room = g.room; kept = g.kept }

    ended : done ≡ taken n (rows_in m edges)
        → (k ≡ length (taken n (rows_in m edges))) × (order ≡ sets order₀ 0 (taken n (rows_in m edges)))
    ended e = (g.count ∙ ap length e, g.written ∙ ap (sets order₀ 0) e)

    pub take_full : n ≤ k → k ≤ n → (n ≡ length (taken n (rows_in m edges))) × (order ≡ sets order₀ 0 (taken n (rows_in m edges)))
    unfolding take_from
    take_full l h =
        let z : n - k ≡ 0 = omega arith in
        let e : n ≡ k = omega arith in
        let t = ended (rw z at g.same) in
        (e ∙ t.0, t.1)

    pub same_room : length order ≡ length order₀
    same_room = ap length g.written ∙ length-sets order₀ 0 done

    pub place_in : n ≤ length order₀ → k < n → k < length order
    place_in a b = omega (arith, same_room)

    -- a count of 0 says that a node is free
    free_zero : (w : ℕ) → w < n → free n (rows_in m edges) done w ≡ zero_at waits w
    free_zero w l = rw (lt-ltb w n l, g.waits_of w) (go (mem w done) (ready_wait edges done w m))
      where
        go : (b : Bool) → ready (rows_in m edges) done w ≡ eqb (waiting edges done w m) 0
            → (not b && ready (rows_in m edges) done w) ≡ eqb (cond b 8193 (waiting edges done w m)) 0
        go true e = refl
        go false e = e

    module _ {v : ℕ} {lows₁ : List ℕ} (s : Looked waits n v lows₁) (turn : k < n) where
      next_is : v ≡ next n (rows_in m edges) done
      next_is = s.answer ∙ sym (lowest_same (free n (rows_in m edges) done) (zero_at waits) n free_zero)

      left : n - k ≡ suc (n - (k + 1))
      left = omega arith

      pub take_stuck : n ≤ v → (k ≡ length (taken n (rows_in m edges))) × (order ≡ sets order₀ 0 (taken n (rows_in m edges)))
      unfolding take_from
      take_stuck l = ended (rw (left, ← next_is, le-ltb v n l) at g.same)

      module _ (l : v < n) where
        zero_v : get_or waits v 0 ≡ 0
        zero_v = eqb-true _ _ (rw (← s.answer) at (lowest_has (zero_at waits) n (rw (← s.answer) l)))

        not_done : mem v done ≡ false
        not_done = by_test (mem v done)
            (λ t. let z : get_or waits v 0 ≡ 8193 = g.waits_of v ∙ rw t in absurd (omega (arith, zero_v)))
            (λ t. t)

        no_wait : waiting edges done v m ≡ 0
        no_wait = let z : get_or waits v 0 ≡ waiting edges done v m = g.waits_of v ∙ rw not_done in sym z ∙ zero_v

        split : (w : ℕ) → waiting edges done w m ≡ waiting edges (done ++ (v ∷ [])) w m + pending edges v w (get_or heads v 0)
        split w = wait_split edges done v not_done w m
            ∙ ap (λ (k : ℕ). waiting edges (done ++ (v ∷ [])) w m + k) (pending_last edges v w m ∙ ap (pending edges v w) (sym (g.headed.heads_of v)))

        self : pending edges v v m ≡ 0
        self = omega (arith, wait_split edges done v not_done v m, no_wait)

        pub may_take : Takes edges heads links waits lows₁ v
        may_take = record {
          low = omega (arith, f.few_nodes);
          heads_room = g.headed.room;
          room = g.room;
          lows_room = s.kept.room;
          chain = chain_at edges links v m (rows_fit n m edges f) g.linked self (g.headed.heads_of v);
          enough = λ w d. by_test (mem w done)
              (λ t. omega (arith, split w, g.closed w t))
              (λ t. let z : get_or waits w 0 ≡ waiting edges done w m = g.waits_of w ∙ rw t in omega (arith, split w));
        }

        pub take_more : {waits₁ lows₂ : List ℕ} → Took edges heads waits lows₁ v waits₁ lows₂
            → Taking edges n m order₀ heads links (set order k v) waits₁ lows₂ (k + 1)
        unfolding take_from
        take_more {waits₁} {lows₂} t = record {
          done = done ++ (v ∷ []);
          count = omega (arith, length-append done (v ∷ []), g.count);
          linked = g.linked;
          headed = g.headed;
          room = t.room ∙ g.room;
          waits_of = λ w. ⊎_elim
              (λ e. rw e (t.own ∙ sym (rw (mem_snoc_new v done))))
              (λ d. other w d ∙ ap (λ (b : Bool). cond b 8193 (waiting edges (done ++ (v ∷ [])) w m)) (sym (mem_snoc_else w v done d)))
              (decide w v);
          closed = λ w h. ⊎_elim
              (λ e. rw e (omega (arith, split v, no_wait)))
              (λ d. omega (arith, split w, g.closed w (sym (mem_snoc_else w v done d) ∙ h)))
              (decide w v);
          kept = t.kept n s.kept;
          same = sym (rw (left, ← next_is, lt-ltb v n l) refl) ∙ g.same;
          written = ap (λ o. set o k v) g.written ∙ ap (λ i. set (sets order₀ 0 done) i v) (g.count ∙ sym (zero-add (length done)))
              ∙ sym (sets_append order₀ 0 done (v ∷ []));
        }
          where
            other : (w : ℕ) → (w ≡ v → ⊥) → get_or waits₁ w 0 ≡ cond (mem w done) 8193 (waiting edges (done ++ (v ∷ [])) w m)
            other w d = by_test (mem w done)
                (λ c. rw c (let z : get_or waits w 0 ≡ 8193 = g.waits_of w ∙ rw c in omega (arith, t.others w d, split w, g.closed w c)))
                (λ c. rw c (let z : get_or waits w 0 ≡ waiting edges done w m = g.waits_of w ∙ rw c in omega (arith, t.others w d, split w)))
