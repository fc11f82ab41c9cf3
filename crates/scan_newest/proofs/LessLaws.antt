-- What a proof uses of the byte order. The first bytes that differ decide, so no value is less than itself, less passes on, and of two that
-- differ one is less.
-- Assumes nothing.
use Rattle.std.proofs.lemmas.Bool.Decides.{nat_tests}
use Rattle.std.proofs.lemmas.Cmp.{same_from_slice_cmp_tested}
use Rattle.std.specs.Cmp.Lexicographic.{slice_partial_cmp}
use Rattle.std.specs.Ordering.{is_lt, is_some_and, nat_cmp}
use Rattle.std.specs.Prelude.{Some}
use mathlib.Core.Path.{◌≡◌, refl, sym, ap, ap₂, ◌∙◌}
use mathlib.Core.Logic.{◌⊎◌, inl, inr, ⊎_elim}
use mathlib.Core.Bool.{Bool, true, false}
use mathlib.Core.List.{List, [], ◌∷◌}
use Prim.Native.Nat.{ℕ, ◌≤◌, ◌<◌}
use native.Mathlib.Omega.{arith}
use lib.Dec.{ltb}
use borrow.Author.Tests.{lt-ltb, le-ltb, ltb-true, ltb-false}
use Rattle.text.proofs.Here.{by_test, never}
use Rattle.scan_newest.specs.Newest.{less}

-- ---- by the first bytes

module _ (x y : ℕ) (xs ys : List ℕ) where
  less_lower : x < y → less (x ∷ xs) (y ∷ ys) ≡ true
  unfolding less
  less_lower h = rw (lt-ltb x y h) refl

  less_higher : y < x → less (x ∷ xs) (y ∷ ys) ≡ false
  unfolding less
  less_higher h = rw (le-ltb x y (omega (arith, h))) (rw (lt-ltb y x h) refl)

  less_equal : y ≤ x → x ≤ y → less (x ∷ xs) (y ∷ ys) ≡ less xs ys
  unfolding less
  less_equal h k = rw (le-ltb x y h) (rw (le-ltb y x k) refl)

-- a proof goes by which first byte is the lower
first_bytes : {X : Type 0} (x y : ℕ) → (x < y → X) → (y < x → X) → (x ≡ y → X) → X
first_bytes x y f g e =
    by_test (ltb x y) (λ t. f (ltb-true x y t))
    (λ u. by_test (ltb y x) (λ t. g (ltb-true y x t)) (λ v. e (let p = ltb-false x y u in let q = ltb-false y x v in omega (arith, p, q))))

-- ---- an order

pub less_irrefl : (xs : List ℕ) → less xs xs ≡ false
unfolding less
less_irrefl [] = refl
less_irrefl (x ∷ xs) = less_equal x x xs xs (omega arith) (omega arith) ∙ less_irrefl xs

pub less_trans : (xs ys zs : List ℕ) → less xs ys ≡ true → less ys zs ≡ true → less xs zs ≡ true
unfolding less
less_trans xs [] zs h k = absurd (never refl h)
less_trans xs (y ∷ ys) [] h k = absurd (never refl k)
less_trans [] (y ∷ ys) (z ∷ zs) h k = refl
less_trans (x ∷ xs) (y ∷ ys) (z ∷ zs) h k =
    first_bytes x y
    (λ a. first_bytes y z
    (λ b. less_lower x z xs zs (omega (arith, a, b)))
    (λ b. absurd (never (less_higher y z ys zs b) k))
    (λ b. less_lower x z xs zs (omega (arith, a, b))))
    (λ a. absurd (never (less_higher x y xs ys a) h))
    (λ a. first_bytes y z
    (λ b. less_lower x z xs zs (omega (arith, a, b)))
    (λ b. absurd (never (less_higher y z ys zs b) k))
    (λ b. less_equal x z xs zs (omega (arith, a, b)) (omega (arith, a, b))
    ∙ less_trans xs ys zs (sym (less_equal x y xs ys (omega (arith, a)) (omega (arith, a))) ∙ h)
    (sym (less_equal y z ys zs (omega (arith, b)) (omega (arith, b))) ∙ k)))

pub less_asym : (xs ys : List ℕ) → less xs ys ≡ true → less ys xs ≡ false
less_asym xs ys h = by_test (less ys xs) (λ t. absurd (never (less_irrefl xs) (less_trans xs ys xs h t))) (λ f. f)

pub less_total : (xs ys : List ℕ) → less xs ys ≡ false → (less ys xs ≡ true) ⊎ (xs ≡ ys)
unfolding less
less_total [] [] h = inr refl
less_total (x ∷ xs) [] h = inl refl
less_total [] (y ∷ ys) h = absurd (never h refl)
less_total (x ∷ xs) (y ∷ ys) h =
    first_bytes x y
    (λ a. absurd (never h (less_lower x y xs ys a)))
    (λ a. inl (less_lower y x ys xs a))
    (λ a. ⊎_elim
    (λ l. inl (less_equal y x ys xs (omega (arith, a)) (omega (arith, a)) ∙ l))
    (λ e. inr (ap₂ ◌∷◌ a e))
    (less_total xs ys (sym (less_equal x y xs ys (omega (arith, a)) (omega (arith, a))) ∙ h)))

module _ (xs ys zs : List ℕ) where
  -- what is above one is above all that this is not less than
  pub less_above : less xs ys ≡ false → less xs zs ≡ true → less ys zs ≡ true
  less_above h t = ⊎_elim (λ l. less_trans ys xs zs l t) (λ e. ap (λ a. less a zs) (sym e) ∙ t) (less_total xs ys h)

  -- not less passes on
  pub least_trans : less xs ys ≡ false → less ys zs ≡ false → less xs zs ≡ false
  least_trans h k = by_test (less xs zs) (λ t. absurd (never k (less_above h t))) (λ f. f)

-- ---- the library's order of slices is this one

pub less_is : (xs ys : List ℕ) (t : Bool) → t ≡ is_some_and is_lt (slice_partial_cmp (λ x y. Some (nat_cmp x y)) xs ys) → t ≡ less xs ys
unfolding less
less_is =
    same_from_slice_cmp_tested nat_cmp is_lt less refl (λ _ _. refl) (λ _ _. refl) (λ x y xs ys o h. grind (arith, nat_tests))
