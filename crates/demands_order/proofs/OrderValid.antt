-- A list in which each node is free after those before it, and that is long enough, holds each node once and breaks no edge; and in such a list each node
-- is free after those before it. An edge leads to a later place of it, so no chain of edges comes back.
-- Assumes nothing.
use Prim.Native.Nat.{ℕ, ◌≤◌, ◌<◌}
use mathlib.Core.Path.{◌≡◌, refl, sym, ◌∙◌, ap}
use mathlib.Core.Logic.{⊎_elim}
use mathlib.Core.Bool.{true, false}
use mathlib.Core.List.{List, [], ◌∷◌, ◌++◌}
use native.Mathlib.Omega.{arith}
use lib.ListN.{length}
use borrow.Author.Tests.{lt-ltb}
use Rattle.text.proofs.Here.{never}
use Rattle.text_lent.proofs.Numbers.{decide}
use Rattle.graph.specs.Numbers.{Row}
use Rattle.order_tables.specs.Free.{mem, free}
use Rattle.order_tables.specs.Tables.{all_within}
use Rattle.order_tables.proofs.Mem.{mem_append, mem_snoc_else}
use Rattle.order_tables.proofs.Ready.{ready_edge, ready_all, within_edge}
use Rattle.order_tables.proofs.Distinct.{mem_head}
use Rattle.order_take.proofs.Taken.{InTurn, start, then_one, free_new, free_ready, turn_distinct, turn_below}
use Rattle.order_ring.specs.Ring.{until}
use Rattle.demands_order.specs.Order.{Edge, Chain, one, on, Valid}
use Rattle.demands_order.proofs.OrderLists.{perm_distinct, perm_below, perm_full, all_there, all_perm, distinct_front, until_seam, until_front}
use Rattle.demands_order.proofs.OrderLists.{until_less}

module _ (n : ℕ) (es : List Row) where
  turn_edge : {xs : List ℕ} → InTurn n es xs → (u v : ℕ) → Edge es u v → mem v xs ≡ true → mem u (until v xs) ≡ true
  unfolding mem
  turn_edge start u v e h = absurd (never refl h)
  turn_edge (then_one done w t f) u v e h = ⊎_elim
      (λ q. let k : mem u done ≡ true = ready_edge done w es u (free_ready n es done w f) (rw q at e) in
      let b : until w (done ++ (w ∷ [])) ≡ done = until_seam w done [] (free_new n es done w f) in
      ap (λ z. mem u (until z (done ++ (w ∷ [])))) q ∙ ap (mem u) b ∙ k)
      (λ d. let m : mem v done ≡ true = sym (mem_snoc_else v w done d) ∙ h in rw (until_front v done (w ∷ []) m) (turn_edge t u v e m))
      (decide v w)

  pub turn_valid : {xs : List ℕ} → all_within n es ≡ true → InTurn n es xs → n ≤ length xs → Valid n es xs
  turn_valid {xs} inside t l = record {
    once = all_perm n xs (turn_distinct n es t) (turn_below n es t) l;
    unbroken = λ u v e. turn_edge t u v e (all_there n xs (turn_distinct n es t) (turn_below n es t) l v (within_edge n es u v inside e).1);
  }

  pub valid_free : (done : List ℕ) (y : ℕ) (ys : List ℕ) → Valid n es (done ++ (y ∷ ys)) → free n es done y ≡ true
  valid_free done y ys v =
      let new : mem y done ≡ false = distinct_front done y ys (perm_distinct n (done ++ (y ∷ ys)) v.once) in
      let b : y < n = perm_below n (done ++ (y ∷ ys)) v.once y (mem_append y done (y ∷ ys) ∙ rw (mem_head y ys, new)) in
      rw (lt-ltb y n b, new, ready_all done y es (λ u e. rw (until_seam y done ys new) at (v.unbroken u y e)))

  pub valid_length : (xs : List ℕ) → Valid n es xs → length xs ≡ n
  valid_length xs v = perm_full n xs v.once

  chain_later : (xs : List ℕ) → Valid n es xs → {u v : ℕ} → Chain es u v → length (until u xs) < length (until v xs)
  chain_later xs k (one {u = u} {v = v} e) = until_less u v xs (k.unbroken u v e)
  chain_later xs k (on {u = u} {v = v} e c) = let a = chain_later xs k c in let b = until_less u v xs (k.unbroken u v e) in omega arith

  pub valid_no_chain : (xs : List ℕ) → Valid n es xs → (v : ℕ) → Chain es v v → ⊥
  valid_no_chain xs k v c = let l = chain_later xs k c in omega arith
