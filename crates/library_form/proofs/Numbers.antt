-- What `number_at` is on each way through the code of `ImageCursor::number`: one law for each `return`, stated as the need states it.
-- Assumes nothing.
use mathlib.Core.Path.{◌≡◌, refl, sym, ap, ap₂, ◌∙◌}
use mathlib.Core.Logic.{⊎_elim, ◌⊎◌}
use mathlib.Core.List.{List}
use Prim.Native.Nat.{ℕ, zero, suc, ◌+◌, ◌-◌, ◌*◌, ◌≤◌, ◌<◌}
use native.Mathlib.Omega.{arith}
use lib.ListN.{length, get_or}
use borrow.Author.Tests.{lt-ltb, le-ltb, eq-eqb, ne_eqb}
use Rattle.library_form.specs.Form.{good, bad, groups, number_at}

module _ (s : List ℕ) where
  -- one group
  stop : (k b at u v : ℕ) → length s ≤ at → groups (suc k) s b at u v ≡ bad b
  unfolding groups
  stop k b at u v h = rw (le-ltb _ _ h)

  more : (k b at u v : ℕ) → at < length s → 128 ≤ get_or s at 0 → groups (suc k) s b at u v ≡ groups k s b (at + 1) (u * 128) (v + u * (get_or s at 0 - 128))
  unfolding groups
  more k b at u v h g = rw (lt-ltb _ _ h, le-ltb _ _ g)

  last : (k b at u v : ℕ) → at < length s → get_or s at 0 < 128 → (get_or s at 0 ≡ 0 → ⊥) → groups (suc k) s b at u v ≡ good (v + u * get_or s at 0) (at + 1)
  unfolding groups
  last k b at u v h g z = rw (lt-ltb _ _ h, lt-ltb _ _ g, ne_eqb _ _ z)

  long : (k b at u v : ℕ) → at < length s → get_or s at 0 ≡ 0 → (at ≡ b → ⊥) → groups (suc k) s b at u v ≡ bad b
  unfolding groups
  long k b at u v h z n = rw (lt-ltb _ _ h, z, ne_eqb _ _ n)

  alone : (k b at u v : ℕ) → at < length s → get_or s at 0 ≡ 0 → at ≡ b → groups (suc k) s b at u v ≡ good 0 (at + 1)
  unfolding groups
  alone k b at u v h z n = rw (lt-ltb _ _ h, z, eq-eqb _ _ n)

  -- each way through the code
  pub one : (at : ℕ) → at < length s → get_or s at 0 < 128 → good (get_or s at 0) (at + 1) ≡ number_at s at
  unfolding number_at
  one at h g = zero_or (get_or s at 0) refl
    where
      zero_or : (a : ℕ) → a ≡ get_or s at 0 → good (get_or s at 0) (at + 1) ≡ groups 3 s at at 1 0
      zero_or zero e = sym (alone 2 at at 1 0 h (sym e) refl ∙ rw (← e))
      zero_or (suc n) e = sym (last 2 at at 1 0 h g (λ z. omega arith) ∙ ap₂ good (omega arith) refl)

  pub none : (at : ℕ) → length s ≤ at → bad at ≡ number_at s at
  unfolding number_at
  none at h = sym (stop 2 at at 1 0 h)

  pub cut : (at : ℕ) → at < length s → 128 ≤ get_or s at 0 → length s ≤ at + 1 → bad at ≡ number_at s at
  unfolding number_at
  cut at h g e = sym (more 2 at at 1 0 h g ∙ stop 1 _ _ _ _ e)

  pub padded : (at : ℕ) → at < length s → 128 ≤ get_or s at 0 → at + 1 < length s → get_or s (at + 1) 0 ≡ 0 → bad at ≡ number_at s at
  unfolding number_at
  padded at h g e z = sym (more 2 at at 1 0 h g ∙ long 1 _ _ _ _ e z (λ e. omega arith))

  pub two : (at : ℕ) → at < length s → 128 ≤ get_or s at 0 → at + 1 < length s → (get_or s (at + 1) 0 ≡ 0 → ⊥) → get_or s (at + 1) 0 < 128
      → good (get_or s at 0 - 128 + 128 * get_or s (at + 1) 0) (at + 1 + 1) ≡ number_at s at
  unfolding number_at
  two at h g e z l = sym (more 2 at at 1 0 h g ∙ last 1 _ _ _ _ e l z ∙ ap₂ good (omega arith) refl)

  -- past two groups
  past : (at : ℕ) → at < length s → 128 ≤ get_or s at 0 → at + 1 < length s → 128 ≤ get_or s (at + 1) 0
      → number_at s at ≡ groups 1 s at (at + 1 + 1) 16384 (get_or s at 0 - 128 + 128 * (get_or s (at + 1) 0 - 128))
  unfolding number_at
  past at h g e l = more 2 at at 1 0 h g ∙ more 1 _ _ _ _ e l ∙ ap (λ v. groups 1 s at (at + 1 + 1) 16384 v) (omega arith)

  pub cut3 : (at : ℕ) → at < length s → 128 ≤ get_or s at 0 → at + 1 < length s → 128 ≤ get_or s (at + 1) 0 → length s ≤ at + 1 + 1 → bad at ≡ number_at s at
  cut3 at h g e l k = sym (past at h g e l ∙ stop 0 _ _ _ _ k)

  pub padded3 : (at : ℕ) → at < length s → 128 ≤ get_or s at 0 → at + 1 < length s → 128 ≤ get_or s (at + 1) 0 → at + 1 + 1 < length s
      → get_or s (at + 1 + 1) 0 ≡ 0 → bad at ≡ number_at s at
  padded3 at h g e l k z = sym (past at h g e l ∙ long 0 _ _ _ _ k z (λ e. omega arith))

  pub three : (at : ℕ) → at < length s → 128 ≤ get_or s at 0 → at + 1 < length s → 128 ≤ get_or s (at + 1) 0 → at + 1 + 1 < length s
      → (get_or s (at + 1 + 1) 0 ≡ 0 → ⊥) → get_or s (at + 1 + 1) 0 < 128
      → good (get_or s at 0 - 128 + 128 * (get_or s (at + 1) 0 - 128) + 16384 * get_or s (at + 1 + 1) 0) (at + 1 + 1 + 1) ≡ number_at s at
  three at h g e l k z m = sym (past at h g e l ∙ last 0 _ _ _ _ k m z)

  pub four : (at : ℕ) → at < length s → 128 ≤ get_or s at 0 → at + 1 < length s → 128 ≤ get_or s (at + 1) 0 → at + 1 + 1 < length s
      → 128 ≤ get_or s (at + 1 + 1) 0 → bad at ≡ number_at s at
  unfolding groups
  four at h g e l k m = sym (past at h g e l ∙ more 0 _ _ _ _ k m)

-- ---- the ways out of `ImageCursor::number`, by the bytes that it got

module _ (s : List ℕ) (at : ℕ) {a : ℕ} (i : at < length s) (e : a ≡ get_or s at 0) where
  pub got_one : a < 128 → good a (at + 1) ≡ number_at s at
  got_one g = ap (λ a. good a (at + 1)) e ∙ one s at i (rw (← e) g)

  module _ (g : 128 ≤ a) where
    high : 128 ≤ get_or s at 0
    high = rw (← e) g

    pub got_cut : length s ≤ at + 1 → bad at ≡ number_at s at
    got_cut l = cut s at i high l

    module _ {b : ℕ} (j : at + 1 < length s) (f : b ≡ get_or s (at + 1) 0) where
      pub got_padded : b ≡ 0 → bad at ≡ number_at s at
      got_padded z = padded s at i high j (sym f ∙ z)

      pub got_two : (b ≡ 0 → ⊥) → b < 128 → good (a - 128 + 128 * b) (at + 1 + 1) ≡ number_at s at
      got_two z l = ap₂ (λ a b. good (a - 128 + 128 * b) (at + 1 + 1)) e f ∙ two s at i high j (λ y. z (f ∙ y)) (rw (← f) l)

      module _ (k : 128 ≤ b) where
        higher : 128 ≤ get_or s (at + 1) 0
        higher = rw (← f) k

        pub got_cut3 : length s ≤ at + 1 + 1 → bad at ≡ number_at s at
        got_cut3 l = cut3 s at i high j higher l

        module _ {c : ℕ} (m : at + 1 + 1 < length s) (h : c ≡ get_or s (at + 1 + 1) 0) where
          pub got_wrong : ((c ≡ 0) ⊎ ((c ≡ 0 → ⊥) × (128 ≤ c))) → bad at ≡ number_at s at
          got_wrong = ⊎_elim (λ z. padded3 s at i high j higher m (sym h ∙ z)) (λ z. four s at i high j higher m (rw (← h) z.1))

          pub got_three : (c ≡ 0 → ⊥) → c < 128 → good (a - 128 + 128 * (b - 128) + 16384 * c) (at + 1 + 1 + 1) ≡ number_at s at
          got_three z l =
              ap₂ (λ a b. good (a - 128 + 128 * (b - 128) + 16384 * c) (at + 1 + 1 + 1)) e f
              ∙ ap (λ c. good (get_or s at 0 - 128 + 128 * (get_or s (at + 1) 0 - 128) + 16384 * c) (at + 1 + 1 + 1)) h
              ∙ three s at i high j higher m (λ y. z (h ∙ y)) (rw (← h) l)
