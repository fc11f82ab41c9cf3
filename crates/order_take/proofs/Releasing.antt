-- A node is taken: it is marked, and along its chain each edge makes the node that it leads to wait for one edge less. A node that then waits for
-- none lowers the bound of its group, and the bound of the groups.
-- Assumes nothing.
use mathlib.Core.Path.{◌≡◌, refl, sym, ap, ◌∙◌}
use mathlib.Core.Logic.{⊎_elim}
use mathlib.Core.List.{List}
use Prim.Native.Nat.{ℕ, suc, ◌+◌, ◌-◌, ◌*◌, ◌/◌, ◌≤◌, ◌<◌}
use native.Mathlib.Omega.{arith}
use lib.ListN.{length, get_or, set, length-set}
use lib.Seq.{get_or-set_same, get_or-set_other}
use Rattle.text_lent.proofs.Numbers.{decide}
use Rattle.graph.specs.Numbers.{Row}
use Rattle.graph_edges.proofs.Chains.{last_low, last_own}
use Rattle.order_take.specs.Chains.{last_from, pending, Rows, Links, Lows, Lowered, Releases, Released, Chain, Takes, Freed, Took}
use Rattle.order_take.proofs.Counting.{pending_here, pending_else, pending_last}
use Rattle.order_take.proofs.Chaining.{fewer}

-- ---- one edge less

-- where no zero is new, the bounds still hold
fewer_zeros : {waits waits₁ lows : List ℕ} (n : ℕ) → ((w : ℕ) → get_or waits₁ w 0 ≡ 0 → get_or waits w 0 ≡ 0) → Lows n waits lows → Lows n waits₁ lows
fewer_zeros n f h = record { room = h.room; near = h.near; low = λ w a b. h.low w a (f w b); start = λ w a b. h.start w a (f w b) }

module _ (waits lows : List ℕ) (v : ℕ) (p : Releases waits lows v) where
  -- the count at v is x now
  module _ {x : ℕ} (e : x ≡ get_or waits v 0 - 1) where
    at_v : get_or (set waits v x) v 0 ≡ x
    at_v = get_or-set_same waits v x 0 (omega (arith, p.low, p.room))

    less : get_or (set waits v x) v 0 + 1 ≡ get_or waits v 0
    less = omega (arith, at_v, p.some)

    pub last_released : get_or (set waits v x) v 0 ≡ 0 → {lows₁ lows₂ : List ℕ} → Lowered lows (v / 32) v lows₁ → Lowered lows₁ 32 (v / 32) lows₂
        → Released waits lows v (set waits v x) lows₂
    last_released z {lows₁} {lows₂} s t = record {
      room = length-set waits v x;
      lows_room = t.room ∙ s.room;
      less = less;
      others = λ w d. get_or-set_other waits v w x 0 d;
      kept = λ n h. record {
        room = t.room ∙ s.room ∙ h.room;
        near = omega (arith, t.less 32, s.less 32, h.near);
        low = λ w a b. ⊎_elim
            (λ q. rw q (omega (arith, t.less (v / 32), s.here)))
            (λ d. omega (arith, t.less (w / 32), s.less (w / 32), h.low w a (sym (get_or-set_other waits v w x 0 d) ∙ b)))
            (decide w v);
        start = λ w a b. ⊎_elim
            (λ q. rw q t.here)
            (λ d. omega (arith, t.less 32, s.less 32, h.start w a (sym (get_or-set_other waits v w x 0 d) ∙ b)))
            (decide w v);
      };
    }

    pub one_released : (get_or (set waits v x) v 0 ≡ 0 → ⊥) → Released waits lows v (set waits v x) lows
    one_released z = record {
      room = length-set waits v x;
      lows_room = refl;
      less = less;
      others = λ w d. get_or-set_other waits v w x 0 d;
      kept = λ n h. fewer_zeros n (λ w b. ⊎_elim
          (λ q. absurd (z (sym (ap (λ (k : ℕ). get_or (set waits v x) k 0) q) ∙ b)))
          (λ d. sym (get_or-set_other waits v w x 0 d) ∙ b)
          (decide w v)) h;
    }

-- ---- along the chain of v

-- a place of the chain, and the next; what hangs on e is the edge of number e - 1
module _ (edges links : List ℕ) (v : ℕ) where
  pub chain_at : (k : ℕ) → Rows edges k → Links edges k links → pending edges v v k ≡ 0 → {e : ℕ} → e ≡ last_from edges v k → Chain edges links v e
  chain_at k r l s {e} q =
      let low : e ≤ k = omega (arith, last_low (λ (r : Row). r.from) edges v k) in
      record {
        rows = fewer edges e k r low;
        linked = record { room = l.room; links_of = λ i m. l.links_of i (omega arith) };
        own = rw q (last_own (λ (r : Row). r.from) edges v k);
        self = rw q (sym (pending_last edges v v k) ∙ s);
      }

  module _ (e : ℕ) (c : Chain edges links v e) (l : 0 < e) where
    here : e ≡ suc (e - 1)
    here = omega arith

    link_last : {next : ℕ} → next ≡ get_or links (e - 1) 0 → next ≡ last_from edges v (e - 1)
    link_last q = q ∙ c.linked.links_of (e - 1) (omega arith) ∙ ap (λ (u : ℕ). last_from edges u (e - 1)) (c.own l)

    -- w is where the edge leads
    module _ {w : ℕ} (q : w ≡ get_or edges ((e - 1) * 2 + 1) 0) where
      some_pending : pending edges v w e ≡ pending edges v w (e - 1) + 1
      some_pending = ap (pending edges v w) here ∙ pending_here edges v w (e - 1) (c.own l) (sym q)

      none_pending : (x : ℕ) → (x ≡ w → ⊥) → pending edges v x e ≡ pending edges v x (e - 1)
      none_pending x d = ap (pending edges v x) here ∙ pending_else edges v x (e - 1) (λ y. d (sym y ∙ sym q))

      not_back : w ≡ v → ⊥
      not_back y = let z : pending edges v v e ≡ pending edges v v (e - 1) + 1 = rw y at some_pending in omega (arith, c.self)

    no_self : pending edges v v (e - 1) ≡ 0
    no_self = omega (arith, none_pending refl v (λ y. not_back refl (sym y)), c.self)

    chain_next : {next : ℕ} → next ≡ get_or links (e - 1) 0 → Chain edges links v next
    chain_next q = chain_at (e - 1) (fewer edges (e - 1) e c.rows (omega arith))
        (record { room = c.linked.room; links_of = λ i m. c.linked.links_of i (omega arith) }) no_self (link_last q)

-- what the loop keeps
pub record Releasing (edges heads links waits₀ lows₀ : List ℕ) (v : ℕ) (waits lows : List ℕ) (e : ℕ) : Type 0 where
  pub room : length waits ≡ length waits₀
  pub lows_room : length lows ≡ length lows₀
  pub chain : Chain edges links v e
  pub own : get_or waits v 0 ≡ get_or waits₀ v 0
  pub others : (w : ℕ) → (w ≡ v → ⊥) → get_or waits w 0 + pending edges v w (get_or heads v 0) ≡ get_or waits₀ w 0 + pending edges v w e
  pub kept : (n : ℕ) → Lows n waits₀ lows₀ → Lows n waits lows

module _ (edges heads links waits₀ lows₀ : List ℕ) (v : ℕ) (p : Takes edges heads links waits₀ lows₀ v) where
  pub release_begun : {e : ℕ} → e ≡ get_or heads v 0 → Releasing edges heads links waits₀ lows₀ v waits₀ lows₀ e
  release_begun q = record { room = refl; lows_room = refl; chain = rw q p.chain; own = refl; others = λ w d. rw q refl; kept = λ n h. h }

  module _ (waits lows : List ℕ) (e : ℕ) (g : Releasing edges heads links waits₀ lows₀ v waits lows e) where
    pub release_done : e ≤ 0 → Freed edges heads waits₀ lows₀ v waits lows
    unfolding pending
    release_done l =
        let z : e ≡ 0 = omega arith in
        record {
          room = g.room;
          lows_room = g.lows_room;
          own = g.own;
          others = λ w d. omega (arith, g.others w d, ap (pending edges v w) z);
          kept = g.kept;
        }

    module _ (l : 0 < e) where
      pub release_falls : {next : ℕ} → next ≡ get_or links (e - 1) 0 → next < e
      release_falls q = omega (arith, link_last edges links v e g.chain l q, last_low (λ (r : Row). r.from) edges v (e - 1))

      module _ {w : ℕ} (q : w ≡ get_or edges ((e - 1) * 2 + 1) 0) where
        other : w ≡ v → ⊥
        other = not_back edges links v e g.chain l q

        pub may_release : Releases waits lows w
        may_release = record {
          low = omega (arith, g.chain.rows.tos (e - 1) (omega arith));
          room = g.room ∙ p.room;
          lows_room = g.lows_room ∙ p.lows_room;
          some = omega (arith, g.others w other, p.enough w other, some_pending edges links v e g.chain l q);
        }

        pub release_more : {waits₁ lows₁ : List ℕ} {next : ℕ} → Released waits lows w waits₁ lows₁ → next ≡ get_or links (e - 1) 0
            → Releasing edges heads links waits₀ lows₀ v waits₁ lows₁ next
        release_more {waits₁} {lows₁} {next} r y =
            let last = link_last edges links v e g.chain l y in
            let rest : (x : ℕ) → pending edges v x (e - 1) ≡ pending edges v x next =
            λ x. pending_last edges v x (e - 1) ∙ sym (ap (pending edges v x) last) in
            record {
              room = r.room ∙ g.room;
              lows_room = r.lows_room ∙ g.lows_room;
              chain = chain_next edges links v e g.chain l y;
              own = r.others v (λ z. other (sym z)) ∙ g.own;
              others = λ x d. ⊎_elim
                  (λ z. rw z (omega (arith, r.less, g.others w other, some_pending edges links v e g.chain l q, rest w)))
                  (λ z. omega (arith, r.others x z, g.others x d, none_pending edges links v e g.chain l q x z, rest x))
                  (decide x w);
              kept = λ n h. r.kept n (g.kept n h);
            }

-- ---- a node is marked, and all that wait for it are released

module _ (edges heads links waits lows : List ℕ) (v : ℕ) (p : Takes edges heads links waits lows v) where
  mark_own : get_or (set waits v 8193) v 0 ≡ 8193
  mark_own = get_or-set_same waits v 8193 0 (omega (arith, p.low, p.room))

  pub marked : Takes edges heads links (set waits v 8193) lows v
  marked = record {
    low = p.low;
    heads_room = p.heads_room;
    room = length-set waits v 8193 ∙ p.room;
    lows_room = p.lows_room;
    chain = p.chain;
    enough = λ w d. rw (get_or-set_other waits v w 8193 0 d) (p.enough w d);
  }

  still_kept : (n : ℕ) → Lows n waits lows → Lows n (set waits v 8193) lows
  still_kept n h = fewer_zeros n (λ w b. ⊎_elim
      (λ q. let z : get_or (set waits v 8193) v 0 ≡ 0 = rw q at b in absurd (omega (arith, mark_own)))
      (λ d. sym (get_or-set_other waits v w 8193 0 d) ∙ b)
      (decide w v)) h

  pub took : {waits₁ lows₁ : List ℕ} → Freed edges heads (set waits v 8193) lows v waits₁ lows₁ → Took edges heads waits lows v waits₁ lows₁
  took r = record {
    room = r.room ∙ length-set waits v 8193;
    lows_room = r.lows_room;
    own = r.own ∙ mark_own;
    others = λ w d. r.others w d ∙ get_or-set_other waits v w 8193 0 d;
    kept = λ n h. r.kept n (still_kept n h);
  }

  pub took_room : {waits₁ lows₁ : List ℕ} → Freed edges heads (set waits v 8193) lows v waits₁ lows₁ → length waits₁ ≡ length waits
  took_room r = r.room ∙ length-set waits v 8193
