-- What holds of each row with its number: of rows one behind the other, and of the rows that a table is read as.
-- Assumes nothing.
use Prim.Native.Nat.{ℕ, zero, suc, ◌+◌, ◌*◌, ◌<◌}
use mathlib.Core.Path.{◌≡◌, subst}
use mathlib.Core.List.{List, [], ◌∷◌, ◌++◌}
use native.Mathlib.Nat.{not-suc-le-zero, suc-mul, zero-mul}
use native.Mathlib.Omega.{arith}
use lib.ListN.{length}
use Rattle.scan_rows.specs.Rows.{rows_of}

module _ {A : Type 0} where
  -- P k of the first one, and so on
  unfoldable pub EachFrom : (ℕ → A → Type 0) → ℕ → List A → Type 0
  EachFrom P k [] = Unit {0}
  EachFrom P k (i ∷ is) = P k i × EachFrom P (k + 1) is

  pub from_of : (P Q : ℕ → A → Type 0) → ((k : ℕ) (i : A) → P k i → Q k i) → (k : ℕ) (is : List A) → EachFrom P k is → EachFrom Q k is
  unfolding EachFrom
  from_of P Q f k [] h = tt
  from_of P Q f k (i ∷ is) h = (f k i h.0, from_of P Q f (k + 1) is h.1)

  module _ (P : ℕ → A → Type 0) where
    pub from_append : (k : ℕ) (is js : List A) → EachFrom P k is → EachFrom P (k + length is) js → EachFrom P k (is ++ js)
    unfolding EachFrom
    from_append k [] js h l = let q : k + 0 ≡ k = omega arith in subst (λ n. EachFrom P n js) q l
    from_append k (i ∷ is) js h l =
        let q : k + suc (length is) ≡ k + 1 + length is = omega arith in
        (h.0, from_append (k + 1) is js h.1 (subst (λ n. EachFrom P n js) q l))

    -- the row k of the n rows that are read from the word `at` on
    module _ (row : ℕ → A) (size : ℕ) where
      rows_from : (n from at : ℕ) → EachFrom P from (rows_of row size n at) → (k : ℕ) → k < n → P (from + k) (row (at + k * size))
      unfolding EachFrom rows_of
      rows_from zero from at h k l = absurd (not-suc-le-zero l)
      rows_from (suc n) from at h zero l =
          let p : from ≡ from + 0 = omega arith in
          let q : at ≡ at + 0 * size = omega (arith, zero-mul size) in
          subst (λ z. P z (row (at + 0 * size))) p (subst (λ z. P from (row z)) q h.0)
      rows_from (suc n) from at h (suc k) l =
          let p : from + 1 + k ≡ from + suc k = omega arith in
          let q : at + size + k * size ≡ at + suc k * size = omega (arith, suc-mul k size) in
          subst (λ z. P z (row (at + suc k * size))) p
          (subst (λ z. P (from + 1 + k) (row z)) q (rows_from n (from + 1) (at + size) h.1 k (omega arith)))

      pub rows_each : (n : ℕ) → EachFrom P 0 (rows_of row size n 0) → (k : ℕ) → k < n → P k (row (k * size))
      rows_each n h k l =
          let p : 0 + k ≡ k = omega arith in
          let q : 0 + k * size ≡ k * size = omega arith in
          subst (λ z. P z (row (k * size))) p (subst (λ z. P (0 + k) (row z)) q (rows_from n 0 0 h k l))
