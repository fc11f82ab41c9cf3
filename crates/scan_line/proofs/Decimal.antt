-- A number in decimal: its last digit and the digits before it, how many digits there are, and what the code does with them.
-- Assumes nothing.
use mathlib.Core.Path.{◌≡◌, refl, sym, ap, ◌∙◌}
use mathlib.Core.List.{List, [], ◌∷◌, ◌++◌}
use Prim.Native.Nat.{ℕ, zero, suc, ◌+◌, ◌/◌, ◌%◌, ◌^◌, ◌<◌, ◌≤◌}
use native.Mathlib.Nat.{pow-suc}
use native.Mathlib.Omega.{arith}
use lib.Dec.{ltb}
use lib.ListN.{length, set, length-append}
use lib.Seq.{sets, length-sets}
use borrow.Author.Tests.{lt-ltb, le-ltb, ltb-true, ltb-false}
use Rattle.text.proofs.Here.{by_test}
use Rattle.text.proofs.Writing.{sets_append}
use Rattle.scan_line.specs.Line.{digit, last_digits, decimal}
use Rattle.scan_line.specs.Wrote.{Wrote}

-- ---- the last digit, and those before it

last_one : (k n : ℕ) → n < 10 → last_digits (suc k) n ≡ digit n ∷ []
unfolding last_digits
last_one k n h = rw (lt-ltb n 10 h) refl

last_more : (k n : ℕ) → 10 ≤ n → last_digits (suc k) n ≡ last_digits k (n / 10) ++ (digit (n % 10) ∷ [])
unfolding last_digits
last_more k n h = rw (le-ltb n 10 h) refl

last_size : (k n : ℕ) → length (last_digits k n) ≤ k
unfolding last_digits
last_size zero n = omega arith
last_size (suc k) n =
    by_test (ltb n 10)
    (λ t. rw t (omega arith))
    (λ f. rw f (omega (arith, length-append (last_digits k (n / 10)) (digit (n % 10) ∷ []), last_size k (n / 10))))

-- j + 1 or k + 1 digits, where both are enough
both_one : (j k n : ℕ) → n < 10 → last_digits (suc j) n ≡ last_digits (suc k) n
both_one j k n h = last_one j n h ∙ sym (last_one k n h)

enough : (j k n : ℕ) → n < 10 ^ suc j → n < 10 ^ suc k → last_digits (suc j) n ≡ last_digits (suc k) n
enough zero k n h g = both_one zero k n (omega (arith, h))
enough (suc j) zero n h g = both_one (suc j) zero n (omega (arith, g))
enough (suc j) (suc k) n h g =
    by_test (ltb n 10)
    (λ t. both_one (suc j) (suc k) n (ltb-true n 10 t))
    (λ f.
    last_more (suc j) n (ltb-false n 10 f)
    ∙ ap (λ ds. ds ++ (digit (n % 10) ∷ [])) (enough j k (n / 10) (omega (arith, h, pow-suc 10 (suc j))) (omega (arith, g, pow-suc 10 (suc k))))
    ∙ sym (last_more (suc k) n (ltb-false n 10 f)))

decimal_one : (n : ℕ) → n < 10 → decimal n ≡ digit n ∷ []
unfolding decimal
decimal_one n h = last_one 19 n h

decimal_more : (n : ℕ) → 10 ≤ n → n < 2 ^ 64 → decimal n ≡ decimal (n / 10) ++ (digit (n % 10) ∷ [])
unfolding decimal
decimal_more n h k =
    last_more 19 n h ∙ ap (λ ds. ds ++ (digit (n % 10) ∷ [])) (enough 18 19 (n / 10) (omega (arith, k)) (omega (arith, k)))

-- how many digits: at most k + 1 below 10 ^ (k + 1)
pub decimal_size : (k n : ℕ) → n < 10 ^ suc k → n < 2 ^ 64 → length (decimal n) ≤ suc k
unfolding decimal
decimal_size k n h l = rw (enough 19 k n (omega (arith, l)) h) (last_size (suc k) n)

-- ---- the code; d: the page, e: the page with all digits but the last one, m: the place of that one

module _ (d : List ℕ) (at n : ℕ) where
  pub one_room : n < 10 → at + length (decimal n) ≤ length d → at < length d
  one_room h k = omega (arith, k, ap length (decimal_one n h))

  pub one_digit : n < 10 → {a : ℕ} → a ≡ digit n → Wrote d at (decimal n) (set d at a) (at + 1)
  one_digit h e = rw (decimal_one n h) (record { left = ap (set d at) e; next = refl })

  module _ (h : 10 ≤ n) (l : n < 2 ^ 64) where
    size_is : length (decimal n) ≡ length (decimal (n / 10)) + 1
    size_is = ap length (decimal_more n h l) ∙ length-append (decimal (n / 10)) (digit (n % 10) ∷ [])

    pub first_room : at + length (decimal n) ≤ length d → at + length (decimal (n / 10)) ≤ length d
    first_room k = omega (arith, k, size_is)

    module _ {e : List ℕ} {m : ℕ} (w : Wrote d at (decimal (n / 10)) e m) where
      pub last_room : at + length (decimal n) ≤ length d → m < length e
      last_room k = omega (arith, k, size_is, w.next, ap length w.left, length-sets d at (decimal (n / 10)))

      pub last_digit : {b : ℕ} → b ≡ digit (n % 10) → Wrote d at (decimal n) (set e m b) (m + 1)
      last_digit {b} q = record {
        left = ap (λ l. set l m b) w.left
            ∙ ap (λ k. set (sets d at (decimal (n / 10))) k b) w.next
            ∙ ap (set (sets d at (decimal (n / 10))) (at + length (decimal (n / 10)))) q
            ∙ sym (sets_append d at (decimal (n / 10)) (digit (n % 10) ∷ []))
            ∙ sym (ap (sets d at) (decimal_more n h l));
        next = omega (arith, w.next, size_is);
      }
