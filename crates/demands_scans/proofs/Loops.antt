-- A loop: what each turn keeps, and what a turn that stops gives of it, its answer has. Where a number falls with each step, what one step passes on holds
-- everywhere.
-- Assumes nothing.
use Prim.Native.Nat.{ℕ, zero, suc, ◌<◌}
use mathlib.Core.Path.{◌≡◌, refl}
use native.Mathlib.Nat.{not-suc-le-zero}
use native.Mathlib.Omega.{arith}
use Rattle.text.specs.Turns.{Turn, stop, on, after, turns}

module _ {A R : Type 0} (step : A → Turn A R) (none_read : R) (I : A → Type 0) (Q : R → Type 0)
    (keeps : (a b : A) → I a → step a ≡ on b → I b) (last : (a : A) (r : R) → I a → step a ≡ stop r → Q r) (default : Q none_read) where
  pub turns_keep : (n : ℕ) (a : A) → I a → Q (turns step none_read n a)
  unfolding turns
  turns_keep zero a i = default
  turns_keep (suc n) a i = go (step a) refl (turns_keep n)
    where
      go : (t : Turn A R) → step a ≡ t → ((b : A) → I b → Q (turns step none_read n b)) → Q (after (λ b. turns step none_read n b) t)
      go (stop r) e h = last a r i e
      go (on b) e h = h b (keeps a b i e)

-- what holds of every answer of a turn holds of the loop's
module _ {A R : Type 0} (step : A → Turn A R) (none_read : R) (P : R → Type 0) (last : (a : A) (r : R) → step a ≡ stop r → P r) (default : P none_read) where
  pub turns_all : (n : ℕ) (a : A) → P (turns step none_read n a)
  turns_all n a = turns_keep step none_read (λ _. Unit {0}) P (λ a b i t. tt) (λ a r i t. last a r t) default n a tt

-- what holds of a state where it holds of all with a smaller number
module _ {A : Type 0} (μ : A → ℕ) (P : A → Type 0) (one : (a : A) → ((b : A) → μ b < μ a → P b) → P a) where
  under : (n : ℕ) (a : A) → μ a < n → P a
  under zero a h = absurd (not-suc-le-zero h)
  under (suc n) a h = one a (λ b k. under n b (omega arith))

  pub by_falling : (a : A) → P a
  by_falling a = under (suc (μ a)) a (omega arith)
