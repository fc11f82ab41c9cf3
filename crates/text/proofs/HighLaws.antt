-- What a proof uses of a byte of 128 or more: what its test says, and what is refused in its place.
-- Assumes nothing.
use mathlib.Core.Path.{◌≡◌, refl, sym, ap, ◌∙◌}
use mathlib.Core.Bool.{Bool, true, false, not}
use mathlib.Core.Logic.{◌⊎◌, inl, inr}
use mathlib.Core.List.{List}
use Prim.Native.Nat.{ℕ, ◌<◌, ◌≤◌}
use native.Mathlib.Omega.{arith}
use lib.Dec.{eqb, leb}
use lib.ListN.{length, get_or}
use borrow.Author.Tests.{leb-true, eqb-false}
use Rattle.text.specs.Refusal.{is_high, high_at, MetHigh, refused_at}
use Rattle.text.specs.declared.Refusal.{Refusal}
use Rattle.text.proofs.Here.{here, both, by_test}

-- ---- the test

pub high_end : {b : ℕ} → b ≡ 256 → is_high b ≡ false
unfolding is_high
high_end e = ap is_high e

not-false : (b : Bool) → not b ≡ true → b ≡ false
not-false true h = sym h
not-false false h = refl

-- it is 128 or more, and no end
pub high_said : (b : ℕ) → is_high b ≡ true → (128 ≤ b) × (b ≡ 256 → ⊥)
unfolding is_high
high_said b h =
    let k = both (leb 128 b) (not (eqb b 256)) h in
    (leb-true 128 b k.0, eqb-false b 256 (not-false (eqb b 256) k.1))

-- so it stands within the text
pub high_here : (s : List ℕ) (at : ℕ) → is_high (get_or s at 256) ≡ true → at < length s
high_here s at h = here s at (high_said (get_or s at 256) h).1

pub met_within : (s : List ℕ) (r : Refusal) → MetHigh s r → r.at < length s
met_within s r m = high_here s r.at m.1

-- ---- what is refused; b: what stands there, t: whether it is such a byte

module _ (b number k at : ℕ) {t : Bool} (te : t ≡ is_high b) where
  pub refused_high : t ≡ true → {r : Refusal} → r ≡ high_at at → r ≡ refused_at b number k at
  unfolding refused_at
  refused_high y e = let q : is_high b ≡ true = sym te ∙ y in rw q e

  pub refused_other : t ≡ false → record { number = number; keyword = k; at = at } ≡ refused_at b number k at
  unfolding refused_at
  refused_other n = let q : is_high b ≡ false = sym te ∙ n in rw q refl

-- it stands at the place
pub refused_place : (b number k at : ℕ) → (refused_at b number k at).at ≡ at
unfolding refused_at
refused_place b number k at = by_test (is_high b) (λ t. rw t refl) (λ t. rw t refl)

-- it has a number
pub refused_numbered : (b number k at : ℕ) → 0 < number → 0 < (refused_at b number k at).number
unfolding refused_at
refused_numbered b number k at h = by_test (is_high b) (λ t. rw t (omega arith)) (λ t. rw t h)

-- it is 3 of such a byte, or else as it says
pub refused_met : (s : List ℕ) (number k at : ℕ) (r : Refusal) → r ≡ refused_at (get_or s at 256) number k at
    → MetHigh s r ⊎ (r ≡ record { number = number; keyword = k; at = at })
refused_met s number k at r e =
    by_test (is_high (get_or s at 256))
    (λ t. let q : r ≡ high_at at = e ∙ sym (refused_high (get_or s at 256) number k at refl t refl) in
    let i : r.at ≡ at = ap (λ x. x.at) q in
    inl (q ∙ ap high_at (sym i), ap (λ j. is_high (get_or s j 256)) i ∙ t))
    (λ t. inr (e ∙ sym (refused_other (get_or s at 256) number k at refl t)))
