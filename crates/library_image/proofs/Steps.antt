-- Reading one thing after another: what a good reading says of its parts.
-- Assumes nothing.
use mathlib.Core.Path.{◌≡◌, refl, ap, ◌∙◌, subst}
use mathlib.Core.List.{List}
use mathlib.Core.Bool.{Bool, true, false, cond}
use Prim.Native.Nat.{ℕ, ◌≤◌}
use native.Mathlib.Omega.{arith}
use lib.Dec.{ltb}
use borrow.Author.Tests.{le-ltb, ltb-false}
use Rattle.library_form.specs.Form.{Ans, good, bad, bind, number_at}
use Rattle.library_image.specs.Image.{count_at}

-- ---- good readings

module _ {A C : Type 0} where
  -- one after another is good if both are
  pub on_good : {X : Type 0} (r : Ans A) (k : A → ℕ → Ans C) {c : C} {n : ℕ} → bind r k ≡ good c n
      → ((a : A) (m : ℕ) → r ≡ good a m → k a m ≡ good c n → X) → X
  on_good (good a m) k e f = f a m refl e
  on_good (bad p) k e f = let z : ◌≡◌ {A = ℕ} 0 1 = cc in absurd (omega arith)

  pub bind_good : {r : Ans A} (k : A → ℕ → Ans C) {a : A} {m : ℕ} {x : Ans C} → r ≡ good a m → k a m ≡ x → bind r k ≡ x
  bind_good k e f = ap (λ r. bind r k) e ∙ f

module _ {A : Type 0} where
  -- a test that refuses was not met
  pub passed : (b : Bool) (p : ℕ) (r : Ans A) {a : A} {n : ℕ} → cond b (bad p) r ≡ good a n → (b ≡ false) × (r ≡ good a n)
  passed true p r e = let z : ◌≡◌ {A = ℕ} 0 1 = cc in absurd (omega arith)
  passed false p r e = (refl, e)

  -- what holds of the one holds of the other
  pub carry : (P : A → ℕ → Type 0) {a b : A} {m n : ℕ} → good a m ≡ good b n → P a m → P b n
  carry P {a} {b} {m} {n} e h = let x : a ≡ b = cc in let y : m ≡ n = cc in subst (λ i. P b i) y (subst (λ c. P c m) x h)

-- a number within its limits
pub record Limited (s : List ℕ) (least most at c n : ℕ) : Type 0 where
  pub number : number_at s at ≡ good c n
  pub enough : least ≤ c
  pub few : c ≤ most

module _ (s : List ℕ) (least most at : ℕ) {c n : ℕ} where
  pub count_good : count_at least most s at ≡ good c n → Limited s least most at c n
  unfolding count_at
  count_good e =
      on_good (number_at s at) _ e (λ d m e₁ e₂.
      let g = passed (ltb d least) at (cond (ltb most d) (bad at) (good d m)) e₂ in
      let h = passed (ltb most d) at (good d m) g.1 in
      carry (λ c n. Limited s least most at c n) h.1
      (record { number = e₁; enough = ltb-false d least g.0; few = ltb-false most d h.0 }))

  pub good_count : Limited s least most at c n → count_at least most s at ≡ good c n
  unfolding count_at
  good_count w = rw (w.number, le-ltb c least w.enough, le-ltb most c w.few)
