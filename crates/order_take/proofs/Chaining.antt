-- An edge laid in front of the chain of its first node: that node's head is the edge's number and one, the edge's link what the head was, and the
-- node it leads to waits for one edge more. All else is as it was.
-- Assumes nothing.
use mathlib.Core.Path.{◌≡◌, sym, ap, ◌∙◌}
use mathlib.Core.Logic.{⊎_elim}
use mathlib.Core.List.{List, []}
use Prim.Native.Nat.{ℕ, ◌+◌, ◌*◌, ◌^◌, ◌≤◌, ◌<◌}
use native.Mathlib.Nat.{eq-or-lt_of_le}
use native.Mathlib.Omega.{arith}
use lib.ListN.{length, get_or, set, length-set}
use lib.Seq.{get_or-set_same, get_or-set_other}
use Rattle.text_lent.proofs.Numbers.{decide}
use Rattle.graph.specs.Numbers.{Row}
use Rattle.graph_edges.proofs.Chains.{last_here, last_else}
use Rattle.order_take.specs.Chains.{last_from, Rows, Links, Heads, Counts, Chained}
use Rattle.order_take.proofs.Counting.{wait_most, wait_here, wait_else}

pub fewer : (edges : List ℕ) (i m : ℕ) → Rows edges m → i ≤ m → Rows edges i
fewer edges i m r l = record {
  few = omega (arith, r.few);
  long = omega (arith, r.long);
  froms = λ j k. r.froms j (omega arith);
  tos = λ j k. r.tos j (omega arith);
}

pub row_there : (edges : List ℕ) (i m : ℕ) → Rows edges m → i < m → Rows edges (i + 1)
row_there edges i m r l = fewer edges (i + 1) m r (omega arith)

pub chained_all : (edges : List ℕ) (i m : ℕ) (heads links waits : List ℕ) → Chained edges i heads links waits → i ≤ m → m ≤ i
    → Chained edges m heads links waits
chained_all edges i m heads links waits g a b = let e : i ≡ m = omega arith in rw e at g

module _ (edges : List ℕ) (i : ℕ) (heads links waits : List ℕ) (r : Rows edges (i + 1)) (g : Chained edges i heads links waits) where
  module _ {from : ℕ} (e : from ≡ get_or edges (i * 2) 0) where
    pub from_low : from < 1024
    from_low = omega (arith, e, r.froms i (omega arith))

    pub from_in : from < length heads
    from_in = omega (arith, from_low, g.headed.room)

    headed_more : Heads edges (i + 1) (set heads from (i + 1))
    headed_more = record {
      room = length-set heads from (i + 1) ∙ g.headed.room;
      heads_of = λ u. ⊎_elim
          (λ q. ap (λ (k : ℕ). get_or (set heads from (i + 1)) k 0) q ∙ get_or-set_same heads from (i + 1) 0 from_in
          ∙ sym (last_here (λ (r : Row). r.from) edges u i (sym (q ∙ e))))
          (λ d. get_or-set_other heads from u (i + 1) 0 d ∙ g.headed.heads_of u ∙ sym (last_else (λ (r : Row). r.from) edges u i (λ q. d (sym (e ∙ q)))))
          (decide u from);
    }

    linked_more : Links edges (i + 1) (set links i (get_or heads from 0))
    linked_more = record {
      room = length-set links i (get_or heads from 0) ∙ g.linked.room;
      links_of = λ k l. ⊎_elim
          (λ q. rw q (get_or-set_same links i (get_or heads from 0) 0 (omega (arith, r.few, g.linked.room))
          ∙ g.headed.heads_of from ∙ ap (λ (u : ℕ). last_from edges u i) e))
          (λ m. get_or-set_other links i k (get_or heads from 0) 0 (λ q. omega arith) ∙ g.linked.links_of k m)
          (eq-or-lt_of_le {n = k} {m = i} (omega arith));
    }

  module _ {to : ℕ} (e : to ≡ get_or edges (i * 2 + 1) 0) where
    pub to_low : to < 1024
    to_low = omega (arith, e, r.tos i (omega arith))

    pub to_in : to < length waits
    to_in = omega (arith, to_low, g.counted.room)

    pub few_waits : get_or waits to 0 + 1 < 2 ^ 32
    few_waits = omega (arith, g.counted.waits_of to, wait_most edges [] to i, r.few)

    counted_more : Counts edges (i + 1) (set waits to (get_or waits to 0 + 1))
    counted_more = record {
      room = length-set waits to (get_or waits to 0 + 1) ∙ g.counted.room;
      waits_of = λ v. ⊎_elim
          (λ q. rw q (get_or-set_same waits to (get_or waits to 0 + 1) 0 to_in ∙ ap (λ (k : ℕ). k + 1) (g.counted.waits_of to)
          ∙ sym (wait_here edges to i (sym e))))
          (λ d. get_or-set_other waits to v (get_or waits to 0 + 1) 0 d ∙ g.counted.waits_of v ∙ sym (wait_else edges v i (λ q. d (sym (e ∙ q)))))
          (decide v to);
    }

  pub chained : {from to : ℕ} → from ≡ get_or edges (i * 2) 0 → to ≡ get_or edges (i * 2 + 1) 0
      → Chained edges (i + 1) (set heads from (i + 1)) (set links i (get_or heads from 0)) (set waits to (get_or waits to 0 + 1))
  chained a b = record { linked = linked_more a; headed = headed_more a; counted = counted_more b }
