-- What the loops over words and over fields keep.
-- Assumes nothing.
use Rattle.std.proofs.Common.{◌≡◌, ℕ, zero, suc, ◌+◌, ◌-◌, ◌<◌, ◌≤◌, Bool, true, false, eqb, leb, List, length, get_or, sym, refl, ap, ◌∙◌, not-suc-le-zero, arith, eq-eqb, ne_eqb, eqb-true, le-leb, leb-false, leb-true}
use borrow.Author.Tests.{lt-leb, eqb-false}
use Rattle.text.specs.Turns.{stop, on}
use Rattle.text.proofs.Here.{by_test}
use Rattle.text.proofs.Turns.{turns_stop, turns_on}
use Rattle.replay.specs.Fields.{on_by, behind, word_at}
use Rattle.replay.specs.Records.{Pair, pair_turn, words_from, words_told_as, behind_all}

-- ---- words of a table

module _ (f t : List ℕ) (step : ℕ) where
  abbrev next : Pair → Pair
  next p = record { at = on_by f p.at 4; row = p.row + step }

  pair_done : (p : Pair) → length t ≤ p.row → pair_turn f t step p ≡ stop true
  unfolding pair_turn
  pair_done p h = simp (le-leb (length t) p.row h)

  pair_differs : (p : Pair) → p.row < length t → (word_at f p.at ≡ get_or t p.row 0 → ⊥) → pair_turn f t step p ≡ stop false
  unfolding pair_turn
  pair_differs p i h = simp (lt-leb (length t) p.row i, ne_eqb (word_at f p.at) (get_or t p.row 0) h)

  pair_agrees : (p : Pair) → p.row < length t → word_at f p.at ≡ get_or t p.row 0 → pair_turn f t step p ≡ on (next p)
  unfolding pair_turn
  pair_agrees p i h = simp (lt-leb (length t) p.row i, eq-eqb (word_at f p.at) (get_or t p.row 0) h)

  stop_on : {x : Bool} (p q : Pair) → pair_turn f t step p ≡ stop x → pair_turn f t step p ≡ on q → ⊥
  stop_on p q e g = let z : ◌≡◌ {A = ℕ} 0 1 = cc in omega arith

  row_on : (p q : Pair) → pair_turn f t step p ≡ on (next p) → pair_turn f t step p ≡ on q → p.row + step ≡ q.row
  row_on p q e g = let z : next p ≡ q = cc in ap (λ (x : Pair). x.row) z

  module _ (some : 0 < step) where
    abbrev left : Pair → ℕ
    left p = length t - p.row

    pair_falls : (p q : Pair) → pair_turn f t step p ≡ on q → left q < left p
    pair_falls p q e =
        by_test (leb (length t) p.row)
        (λ y. absurd (stop_on p q (pair_done p (leb-true _ _ y)) e))
        (λ y. let i : p.row < length t = leb-false _ _ y in
        by_test (eqb (word_at f p.at) (get_or t p.row 0))
        (λ z. omega (arith, row_on p q (pair_agrees p i (eqb-true _ _ z)) e))
        (λ z. absurd (stop_on p q (pair_differs p i (eqb-false _ _ z)) e)))

    words_done : (p : Pair) → length t ≤ p.row → true ≡ words_from f t step p
    unfolding words_from
    words_done p h = sym (turns_stop (pair_turn f t step) true left pair_falls (suc (length t)) p true (omega arith) (pair_done p h))

    words_on : (p : Pair) → p.row < length t → word_at f p.at ≡ get_or t p.row 0 → words_from f t step p ≡ words_from f t step (next p)
    unfolding words_from
    words_on p i h =
        turns_on (pair_turn f t step) true left pair_falls (suc (length t)) (suc (length t)) p (next p) (omega arith) (omega arith) (pair_agrees p i h)

    words_differ : (p : Pair) → p.row < length t → (word_at f p.at ≡ get_or t p.row 0 → ⊥) → false ≡ words_from f t step p
    unfolding words_from
    words_differ p i h =
        sym (turns_stop (pair_turn f t step) true left pair_falls (suc (length t)) p false (omega arith) (pair_differs p i h))

    -- from the i-th word of the table on the words agree as they do from the first; w: the word that is recorded for it
    module _ (first at i : ℕ) (inv : words_from f t step (record { at = at; row = i }) ≡ words_told_as f first t step) where
      pub told_done : length t ≤ i → true ≡ words_told_as f first t step
      told_done h = words_done (record { at = at; row = i }) h ∙ inv

      module _ (inside : i < length t) {w : ℕ} (we : w ≡ word_at f at) where
        pub told_differs : (w ≡ get_or t i 0 → ⊥) → false ≡ words_told_as f first t step
        told_differs h = words_differ (record { at = at; row = i }) inside (λ e. h (we ∙ e)) ∙ inv

        pub told_on : w ≡ get_or t i 0 → {n : ℕ} → n ≡ on_by f at 4 → words_from f t step (record { at = n; row = i + step }) ≡ words_told_as f first t step
        told_on h e = rw e (sym (words_on (record { at = at; row = i }) inside (sym we ∙ h)) ∙ inv)

        -- no word is left behind this one
        pub told_last : w ≡ get_or t i 0 → length t - i ≤ step → true ≡ words_told_as f first t step
        told_last h l = words_done (next (record { at = at; row = i })) (omega arith) ∙ sym (words_on (record { at = at; row = i }) inside (sym we ∙ h)) ∙ inv

-- ---- fields, one after the other

one_less : (d : List ℕ) (left at : ℕ) → 0 < left → behind_all (left - 1) d (behind d at) ≡ behind_all left d at
unfolding behind_all
one_less d zero at h = absurd (not-suc-le-zero h)
one_less d (suc k) at h = let one : suc k - 1 ≡ k = omega arith in rw one refl

-- behind the fields that are left after i of them stands what stands behind all
module _ (d : List ℕ) (count at i next : ℕ) (inv : behind_all (count - i) d next ≡ behind_all count d at) where
  pub fields_more : i < count → {n : ℕ} → n ≡ behind d next → behind_all (count - (i + 1)) d n ≡ behind_all count d at
  fields_more h e =
      let less : count - (i + 1) ≡ count - i - 1 = omega arith in
      rw e (rw less (one_less d (count - i) next (omega arith) ∙ inv))

  pub fields_done : count ≤ i → next ≡ behind_all count d at
  unfolding behind_all
  fields_done h = let none : count - i ≡ 0 = omega arith in (rw none refl) ∙ inv
