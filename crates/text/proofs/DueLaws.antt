-- What a proof uses of the definitions of `specs/Due.antt`: one law for each of the three things that stand after the gap. What is
-- refused there is told for each.
-- Assumes nothing.
use Rattle.std.specs.Prelude.{Ok, Err, Result}
use mathlib.Core.Path.{◌≡◌, refl, sym, ap, ◌∙◌}
use mathlib.Core.Logic.{⊎_elim}
use mathlib.Core.List.{List}
use Prim.Native.Nat.{ℕ, ◌+◌, ◌<◌, ◌≤◌}
use native.Mathlib.Omega.{arith}
use lib.ListN.{length, get_or}
use lib.Dec.{eqb}
use borrow.Author.Tests.{eq-eqb, ne_eqb, eqb-true, eqb-false}
use Rattle.text.specs.Scan.{gap_end}
use Rattle.text.specs.Due.{due_number, due_here, due_at}
use Rattle.text.specs.Refusal.{MetHigh, refused_at}
use Rattle.text.specs.declared.Cursor.{Cursor}
use Rattle.text.specs.declared.Refusal.{Refusal}
use Rattle.text.proofs.Here.{here, by_test}
use Rattle.text.proofs.HighLaws.{high_end, refused_other, refused_place, refused_met}
use Rattle.text.proofs.Laws.{gap_from, gap_within}

-- c: what stands here
module _ (s : List ℕ) (at b k : ℕ) {c : ℕ} (ce : c ≡ get_or s at 256) where
  pub here_after : c ≡ b → due_here s at b k ≡ Ok (record { at = at + 1 })
  unfolding due_here
  here_after e = rw (eq-eqb (get_or s at 256) b (sym ce ∙ e))

  module _ (n : c ≡ b → ⊥) where
    pub here_end : c ≡ 256 → due_here s at b k ≡ Err (record { number = 6; keyword = k; at = at })
    unfolding due_here due_number
    here_end e =
        let z : get_or s at 256 ≡ 256 = sym ce ∙ e in
        rw (ne_eqb (get_or s at 256) b (λ h. n (ce ∙ h)))
        (rw (eq-eqb (get_or s at 256) 256 z) (ap Err (sym (refused_other (get_or s at 256) 6 k at refl (high_end z)))))

    pub here_other : (c ≡ 256 → ⊥) → {r : Refusal} → r ≡ refused_at c 5 k at → due_here s at b k ≡ Err r
    unfolding due_here due_number
    here_other e q =
        rw (ne_eqb (get_or s at 256) b (λ h. n (ce ∙ h)))
        (rw (ne_eqb (get_or s at 256) 256 (λ h. e (ce ∙ h))) (ap Err (sym (q ∙ ap (λ i. refused_at i 5 k at) ce))))

-- the same after a gap; g: the place there
module _ (s : List ℕ) (at b k : ℕ) {g : ℕ} (ge : g ≡ gap_end s at) where
  pub due_at_lem : {d : Result Cursor Refusal} → d ≡ due_here s g b k → d ≡ due_at s at b k
  unfolding due_at
  due_at_lem e = e ∙ ap (λ i. due_here s i b k) ge

  due_is : due_at s at b k ≡ due_here s g b k
  due_is = sym (due_at_lem refl)

  module _ {c : ℕ} (ce : c ≡ get_or s g 256) where
    pub due_after : c ≡ b → due_at s at b k ≡ Ok (record { at = g + 1 })
    due_after e = due_is ∙ here_after s g b k ce e

    module _ (n : c ≡ b → ⊥) where
      pub due_end : c ≡ 256 → due_at s at b k ≡ Err (record { number = 6; keyword = k; at = g })
      due_end e = due_is ∙ here_end s g b k ce n e

      pub due_other : (c ≡ 256 → ⊥) → {r : Refusal} → r ≡ refused_at c 5 k g → due_at s at b k ≡ Err r
      due_other e q = due_is ∙ here_other s g b k ce n e q

-- ---- how far it goes

after_is : {d : Result Cursor Refusal} (a b : Cursor) → d ≡ Ok a → d ≡ Ok b → a.at ≡ b.at
after_is a b e f = cc

not_after : {d : Result Cursor Refusal} {r : Refusal} {c : Cursor} → d ≡ Err r → d ≡ Ok c → ⊥
not_after e f = let z : ◌≡◌ {A = ℕ} 0 1 = cc in omega arith

not_is : {d : Result Cursor Refusal} (q r : Refusal) → d ≡ Err q → d ≡ Err r → q ≡ r
not_is q r e f = cc

-- the byte takes a byte at least and stands within the text
pub due_far : (s : List ℕ) (at b k : ℕ) (c : Cursor) → b < 256 → due_at s at b k ≡ Ok c → (at < c.at) × (c.at ≤ length s)
due_far s at b k c small h =
    let g = gap_end s at in
    by_test (eqb (get_or s g 256) b)
    (λ t. let q = eqb-true (get_or s g 256) b t in
    omega (arith, here s g (λ z. omega arith), gap_from s at, after_is (record { at = g + 1 }) c (due_after s at b k refl refl q) h))
    (λ t. let q : (get_or s g 256 ≡ b → ⊥) = eqb-false _ _ t in
    by_test (eqb (get_or s g 256) 256)
    (λ u. absurd (not_after (due_end s at b k refl refl q (eqb-true _ _ u)) h))
    (λ u. absurd (not_after (due_other s at b k refl refl q (eqb-false _ _ u) refl) h)))

-- what is refused after the gap: a byte of 128 or more (3), the end (6) or another byte (5)
pub data DueRefused (s : List ℕ) (k : ℕ) (r : Refusal) : Type 0 where
  high : MetHigh s r → DueRefused s k r
  at_end : r.number ≡ 6 → r.keyword ≡ k → DueRefused s k r
  other : r.number ≡ 5 → r.keyword ≡ k → DueRefused s k r

pub due_refused : (s : List ℕ) (at b k : ℕ) (r : Refusal) → due_at s at b k ≡ Err r → (r.at ≡ gap_end s at) × DueRefused s k r
due_refused s at b k r h =
    let g = gap_end s at in
    by_test (eqb (get_or s g 256) b)
    (λ t. absurd (not_after h (due_after s at b k refl refl (eqb-true (get_or s g 256) b t))))
    (λ t. let q : (get_or s g 256 ≡ b → ⊥) = eqb-false _ _ t in
    by_test (eqb (get_or s g 256) 256)
    (λ u. let e = not_is r (record { number = 6; keyword = k; at = g }) h (due_end s at b k refl refl q (eqb-true _ _ u)) in
    (ap (λ x. x.at) e, at_end (ap (λ x. x.number) e) (ap (λ x. x.keyword) e)))
    (λ u. let e = not_is r (refused_at (get_or s g 256) 5 k g) h (due_other s at b k refl refl q (eqb-false _ _ u) refl) in (
      ap (λ x. x.at) e ∙ refused_place (get_or s g 256) 5 k g,
      ⊎_elim high (λ f. other (ap (λ x. x.number) f) (ap (λ x. x.keyword) f)) (refused_met s 5 k g r e),
    )))

-- and within the text, where the scan stands within it
pub due_refused_within : (s : List ℕ) (at b k : ℕ) (r : Refusal) → at ≤ length s → due_at s at b k ≡ Err r → (at ≤ r.at) × (r.at ≤ length s)
due_refused_within s at b k r l h = omega (arith, (due_refused s at b k r h).0, gap_from s at, gap_within s at l)
