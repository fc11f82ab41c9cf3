-- The ring is the part of the trail up to the node that came twice; written from its lowest node on, it is two parts one behind the other.
-- Assumes nothing.
use mathlib.Core.Path.{◌≡◌, sym, ap, ◌∙◌}
use mathlib.Core.List.{List, ◌∷◌, ◌++◌}
use Prim.Native.Nat.{ℕ, zero, suc, ◌+◌, ◌-◌, ◌≤◌}
use native.Mathlib.Omega.{arith}
use lib.ListN.{length, take, drop, length-append}
use lib.Seq.{sets, slice, length-slice, length-take-le, drop_at}
use Rattle.text_lent.specs.Padded.{zeros, padded}
use Rattle.text_lent.proofs.Clears.{written_zero}
use Rattle.text.proofs.Writing.{sets_append}
use Rattle.graph.specs.Numbers.{Row}
use Rattle.graph.specs.Limits.{most_nodes}
use Rattle.order_ring.specs.declared.Met.{Met}
use Rattle.order_ring.specs.Ring.{ring_of, lowest_first}
use Rattle.order_ring.specs.Trail.{Trailed, Behind, LowestAt}

-- ---- zeros in the place of what was taken

zeros_joined : (k n : ℕ) → zeros k ++ zeros n ≡ zeros (k + n)
zeros_joined zero n = let e : n ≡ 0 + n = omega arith in ap zeros e
zeros_joined (suc k) n = let e : suc (k + n) ≡ suc k + n = omega arith in ap (λ l. 0 ∷ l) (zeros_joined k n) ∙ ap zeros e

-- order: words with zeros behind the first `count`; front: those words, cleared
module _ (order : List ℕ) (count : ℕ) (l : count ≤ length order) where
  pub front_long : count ≡ length (take count order)
  front_long = sym (length-take-le count order l)

  pub cleared : order ≡ padded (length order) (take count order) → {front : List ℕ} → front ≡ zeros (length (take count order))
      → front ++ drop count order ≡ zeros (length order)
  unfolding padded
  cleared p f =
      let rest : drop count order ≡ zeros (length order - count) = ap (drop count) p
      ∙ drop_at (take count order) (zeros (length order - length (take count order))) count (sym front_long) ∙ rw (← front_long) in
      let e : count + (length order - count) ≡ length order = omega arith in
      rw (f, ← front_long, rest) (zeros_joined count (length order - count) ∙ ap zeros e)

-- ---- the two parts

module _ (n : ℕ) (es : List Row) (done trail : List ℕ) (r : Met) (end p : ℕ) (long : length trail ≡ most_nodes)
    (t : Trailed n es done trail r) (b : Behind trail r.at r.node end) (l : LowestAt trail r.at end p) where
  abbrev at : ℕ
  at = r.at

  ring_is : ring_of n es done ≡ slice p end trail ++ slice at p trail
  ring_is = ap lowest_first (t.same ∙ sym b.part) ∙ l.same

  first_long : length (slice p end trail) ≡ end - p
  first_long = length-slice p end trail b.within

  ring_long : end - at ≡ length (ring_of n es done)
  ring_long = sym (ap length ring_is ∙ length-append (slice p end trail) (slice at p trail)
      ∙ rw (first_long, length-slice at p trail (omega (arith, l.below, b.within))) (omega (arith, l.from, l.below)))

  -- order: what was lent, cleared; then with the one part written; then with both
  pub ring_written : (order : List ℕ) {clear first both : List ℕ} → n ≤ length order → clear ≡ zeros (length order)
      → first ≡ sets clear 0 (slice p end trail) → both ≡ sets first (end - p) (slice at p trail)
      → (end - at ≡ length (ring_of n es done)) × (both ≡ padded (length order) (ring_of n es done))
  ring_written order {clear} {first} {both} few z a c =
      let k : 0 + length (slice p end trail) ≡ end - p = omega (arith, first_long) in
      let w : both ≡ sets clear 0 (slice p end trail ++ slice at p trail) = c ∙ ap (λ (d : List ℕ). sets d (end - p) (slice at p trail)) a
      ∙ sym (sets_append clear 0 (slice p end trail) (slice at p trail) ∙ rw k) in
      let room : end - at ≤ length order = omega (arith, t.few, b.within, long) in
      (ring_long, written_zero order (ring_of n es done) z (rw ring_is w) (omega (arith, ring_long)))
