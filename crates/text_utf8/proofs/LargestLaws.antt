-- The largest byte: it is the largest so far and of the rest, and no byte is larger.
-- Assumes nothing.
use mathlib.Core.Path.{◌≡◌, refl, ap, ◌∙◌}
use mathlib.Core.List.{List, [], ◌∷◌}
use Prim.Native.Nat.{ℕ, ◌+◌, ◌<◌, ◌≤◌, max}
use Rattle.std.specs.List.{fold}
use native.Mathlib.Omega.{arith}
use lib.Dec.{leb}
use lib.ListN.{length, get_or, drop, drop_of_length-le}
use borrow.Author.Tests.{leb-true, leb-false}
use Rattle.text.proofs.Here.{rest, inside, by_test}
use Rattle.text_utf8.specs.Largest.{larger, largest}

-- r: the larger of the largest so far and the byte here
pub largest_more : (s : List ℕ) (i most : ℕ) → i < length s → {r : ℕ} → r ≡ larger most (get_or s i 0)
    → largest r (drop (i + 1) s) ≡ largest most (drop i s)
unfolding largest
largest_more s i most h {r} e = rw (rest s i h) (ap (λ x. largest x (drop (i + 1) s)) (e ∙ ap (larger most) (inside s i 0 256 h)))

pub largest_past : (s : List ℕ) (i most : ℕ) → length s ≤ i → largest most (drop i s) ≡ most
unfolding largest
largest_past s i most h = rw (drop_of_length-le s h) refl

pub larger_both : (a b : ℕ) → (a ≤ larger a b) × (b ≤ larger a b)
unfolding larger
larger_both a b =
    by_test (leb b a)
    (λ t. rw t (omega arith, leb-true b a t))
    (λ t. let h = leb-false b a t in rw t (omega arith, omega arith))

pub largest_over : (most : ℕ) (xs : List ℕ) → most ≤ largest most xs
unfolding largest
largest_over most [] = omega arith
largest_over most (b ∷ xs) = omega (arith, larger_both most b, largest_over (larger most b) xs)

-- the first byte is no larger, nor is the largest of the rest
pub largest_first : (most b : ℕ) (xs : List ℕ) → b ≤ largest most (b ∷ xs)
unfolding largest
largest_first most b xs = omega (arith, larger_both most b, largest_over (larger most b) xs)

pub largest_rest : (most b : ℕ) (xs : List ℕ) → largest (larger most b) xs ≡ largest most (b ∷ xs)
unfolding largest
largest_rest most b xs = refl

-- the larger of two is the library's
pub larger_max : (a b : ℕ) → larger a b ≡ max a b
unfolding larger
larger_max a b = by_test (leb b a) (λ t. rw t (omega (arith, leb-true b a t))) (λ t. rw t (omega (arith, leb-false b a t)))

pub largest_fold : (most : ℕ) (xs : List ℕ) → largest most xs ≡ fold max most xs
unfolding largest
largest_fold most [] = refl
largest_fold most (b ∷ xs) = rw (larger_max most b) (largest_fold (max most b) xs)
