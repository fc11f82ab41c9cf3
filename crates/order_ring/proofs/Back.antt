-- The trail, read from the last node gone through, is the list that `go_back` hands on; its numbers differ and stay among those that the way never
-- leaves, so there is always room for one more.
-- Assumes nothing.
use mathlib.Core.Path.{◌≡◌, refl, sym, ap, ◌∙◌}
use mathlib.Core.Logic.{⊎_elim}
use mathlib.Core.Bool.{Bool, true, false, or-false}
use mathlib.Core.List.{List, [], ◌∷◌, ◌++◌}
use Prim.Native.Nat.{ℕ, suc, ◌+◌, ◌-◌, ◌*◌, ◌≤◌, ◌<◌}
use native.Mathlib.Omega.{arith}
use lib.ListN.{length, get_or, set, drop, length-set, length-drop, drop_of_length-le}
use lib.Seq.{get_or-set_same, drop-cons, drop-set-lt}
use mir.Syntax.{w32, w64}
use mir.Val.{Fits}
use Rattle.text_lent.proofs.Numbers.{decide}
use Rattle.text.proofs.Here.{never}
use Rattle.graph.specs.Limits.{most_nodes}
use Rattle.order_tables.specs.Free.{mem}
use Rattle.order_tables.proofs.Mem.{mem_append}
use Rattle.order_tables.proofs.Distinct.{Distinct, none, more, mem_other, short}
use Rattle.order_ring.specs.Ring.{until, go_back}
use Rattle.order_ring.specs.Trail.{Flags, word_of, Closed, Goes, Went}
use Rattle.order_ring.proofs.Marking.{flag_front, flag_no, flag_yes}

pub record Going (before : List ℕ) (v : ℕ) (gone₀ trail₀ gone trail : List ℕ) (node at : ℕ) : Type 0 where
  pub kept_gone : length gone ≡ length gone₀
  pub kept_trail : length trail ≡ length trail₀
  pub low : at ≤ most_nodes
  pub flags : (xs : List ℕ) → Flags xs gone₀ → Flags (drop at trail ++ xs) gone
  pub distinct : Distinct (drop at trail)
  pub own : (n : ℕ) (p : ℕ → Bool) → Closed before v n p → (p node ≡ true) × ((u : ℕ) → mem u (drop at trail) ≡ true → p u ≡ true)
  pub same : (k : ℕ) → go_back (word_of before) (most_nodes - at + suc k) [] v ≡ go_back (word_of before) (suc k) (drop at trail) node

module _ (before : List ℕ) (v : ℕ) (gone₀ trail₀ : List ℕ) (g : Goes before v gone₀ trail₀) where
  pub back_begun : Going before v gone₀ trail₀ gone₀ trail₀ v most_nodes
  unfolding mem
  back_begun =
      let e : drop most_nodes trail₀ ≡ [] = drop_of_length-le trail₀ {i = most_nodes} (omega (arith, g.long_trail)) in
      record {
        kept_gone = refl;
        kept_trail = refl;
        low = omega arith;
        flags = λ xs f. rw e f;
        distinct = rw e none;
        own = λ n p c. (c.start, λ u m. absurd (never {b = mem u []} refl (rw e at m)));
        same = λ k. let q : most_nodes - most_nodes + suc k ≡ suc k = omega arith in rw (q, e);
      }

  module _ (gone trail : List ℕ) (node at : ℕ) (h : Going before v gone₀ trail₀ gone trail node at) where
    node_own : g.own node ≡ true
    node_own = (h.own most_nodes g.own g.closed).0

    node_low : node < most_nodes
    node_low = g.closed.below node node_own

    flags : Flags (drop at trail ++ g.marked) gone
    flags = h.flags g.marked g.flags

    on_trail : mem node (drop at trail ++ g.marked) ≡ mem node (drop at trail)
    on_trail = mem_append node (drop at trail) g.marked ∙ rw (g.apart node node_own) (or-false (mem node (drop at trail)))

    pub node_fits : Fits w64 (node * 4)
    node_fits = record { fits = omega (arith, node_low) }

    pub node_word : Fits w32 node
    node_word = record { fits = omega (arith, node_low) }

    pub node_gone : node < length gone
    node_gone = omega (arith, node_low, flags.long)

    pub node_before : node < length before
    node_before = omega (arith, node_low, g.long_before)

    long : length (drop at trail) ≡ most_nodes - at
    long = length-drop at trail ∙ ap (λ (k : ℕ). k - at) (h.kept_trail ∙ g.long_trail)

    -- ---- a node that did not come before

    module _ (z : get_or gone node 0 ≡ 0) where
      fresh : mem node (drop at trail) ≡ false
      fresh = sym on_trail ∙ flag_no (drop at trail ++ g.marked) gone node flags node_low z

      member : (p : ℕ → Bool) → p node ≡ true → ((u : ℕ) → mem u (drop at trail) ≡ true → p u ≡ true)
          → (u : ℕ) → mem u (node ∷ drop at trail) ≡ true → p u ≡ true
      member p a b u m = ⊎_elim (λ e. rw e a) (λ d. b u (sym (mem_other u node (drop at trail) (λ e. d (sym e))) ∙ m)) (decide u node)

      pub room : 0 < at
      room =
          let l : length (node ∷ drop at trail) ≤ most_nodes = short most_nodes (node ∷ drop at trail) (more fresh h.distinct)
          (λ u m. g.closed.below u (member g.own node_own (h.own most_nodes g.own g.closed).1 u m)) in
          omega (arith, long)

      pub back_less : at - 1 < at
      back_less = omega (arith, room)

      pub trail_in : at - 1 < length trail
      trail_in = omega (arith, room, h.low, h.kept_trail, g.long_trail)

      longer : drop (at - 1) (set trail (at - 1) node) ≡ node ∷ drop at trail
      longer =
          let e : suc (at - 1) ≡ at = omega (arith, room) in
          let l : at - 1 < length (set trail (at - 1) node) = rw length-set trail_in in
          drop-cons (set trail (at - 1) node) (at - 1) 0 l
          ∙ rw (e, get_or-set_same trail (at - 1) node 0 trail_in, drop-set-lt at trail (at - 1) node (omega (arith, room)))

      pub back_more : {next : ℕ} → next ≡ get_or before node 0
          → Going before v gone₀ trail₀ (set gone node 1) (set trail (at - 1) node) next (at - 1)
      unfolding go_back
      back_more e = record {
        kept_gone = length-set gone node 1 ∙ h.kept_gone;
        kept_trail = length-set trail (at - 1) node ∙ h.kept_trail;
        low = omega (arith, h.low);
        flags = λ xs f. rw longer (flag_front (drop at trail ++ xs) gone node (h.flags xs f) node_low);
        distinct = rw longer (more fresh h.distinct);
        own = λ n p c. let o = h.own n p c in (rw e (c.next node o.0), λ u m. member p o.0 o.1 u (rw longer at m));
        same = λ k. let q : most_nodes - (at - 1) + suc k ≡ most_nodes - at + suc (suc k) = omega (arith, room, h.low) in
            rw (q, longer, e) (h.same (suc k) ∙ rw fresh);
      }

    -- ---- a node that came before

    met : (k : ℕ) → mem node (drop at trail) ≡ true → go_back (word_of before) (suc k) (drop at trail) node ≡ until node (drop at trail) ++ (node ∷ [])
    unfolding go_back
    met k a = rw a

    pub back_done : (get_or gone node 0 ≡ 0 → ⊥) → Went before v trail (record { at = at; node = node })
    back_done d =
        let a : mem node (drop at trail) ≡ true = sym on_trail ∙ flag_yes (drop at trail ++ g.marked) gone node flags node_low d in
        record {
          low = h.low;
          again = a;
          few = λ n p c. rw (← long) (short n (drop at trail) h.distinct (λ u m. c.below u ((h.own n p c).1 u m)));
          same = λ n l. let q : suc n ≡ most_nodes - at + suc (n - (most_nodes - at)) = omega arith in
              ap (λ (k : ℕ). go_back (word_of before) k [] v) q ∙ h.same (n - (most_nodes - at)) ∙ met (n - (most_nodes - at)) a;
        }
