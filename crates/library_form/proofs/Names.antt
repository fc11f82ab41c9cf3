-- The laws of `name_at`, one for each `return` of `ImageCursor::name`, and that the test of all bytes of a name is `printable_at`.
-- Assumes nothing.
use Rattle.std.specs.List.{list_all}
use mathlib.Core.Path.{◌≡◌, refl, sym, ap, ◌∙◌}
use mathlib.Core.List.{List}
use mathlib.Core.Bool.{Bool, true, false, cond, ◌&&◌}
use Prim.Native.Nat.{ℕ, zero, suc, ◌+◌, ◌-◌, ◌≤◌, ◌<◌}
use native.Mathlib.Omega.{arith}
use native.Mathlib.Numerals.{add-one}
use lib.Dec.{ltb}
use lib.ListN.{length, get_or, take, drop}
use lib.Seq.{drop-cons}
use borrow.Author.Tests.{lt-ltb, le-ltb}
use Rattle.library_form.specs.Form.{good, bad, number_at, fine_byte, printable_at, word_at, name_body, name_at}
use Rattle.library_form.proofs.Bounds.{number_end}

-- the test of all bytes
all_fine : (s : List ℕ) (n at : ℕ) → at + n ≤ length s → list_all fine_byte (take n (drop at s)) ≡ printable_at n s at
unfolding printable_at
all_fine s zero at h = refl
all_fine s (suc n) at h =
    let ih = ap (λ (k : ℕ). list_all fine_byte (take n (drop k s))) (sym (add-one at)) ∙ all_fine s n (at + 1) (omega (arith, h)) in
    rw (drop-cons s at 0 (omega (arith, h))) (go (ltb (get_or s at 0) 33) (ltb 126 (get_or s at 0)) ih)
  where
    go : (t₁ t₂ : Bool) → list_all fine_byte (take n (drop (suc at) s)) ≡ printable_at n s (at + 1)
        → (cond t₁ false (cond t₂ false true) && list_all fine_byte (take n (drop (suc at) s))) ≡ cond t₁ false (cond t₂ false (printable_at n s (at + 1)))
    go true t₂ ih = refl
    go false true ih = refl
    go false false ih = ih

-- a name, by the tests of the code
module _ (s : List ℕ) (at : ℕ) where
  pub no_number : {p : ℕ} → bad p ≡ number_at s at → bad p ≡ name_at s at
  unfolding name_at
  no_number e = rw (← e) refl

  module _ {len first : ℕ} (e : good len first ≡ number_at s at) where
    pub first_in : first ≤ length s
    first_in = (number_end s at (sym e)).1

    pub empty : len < 1 → bad at ≡ name_at s at
    unfolding name_at name_body
    empty h = rw (← e) (rw (lt-ltb _ _ h))

    pub long : 1 ≤ len → 128 < len → bad at ≡ name_at s at
    unfolding name_at name_body
    long g h = rw (← e) (rw (le-ltb _ _ g, lt-ltb _ _ h))

    pub cut : 1 ≤ len → len ≤ 128 → length s - first < len → bad at ≡ name_at s at
    unfolding name_at name_body
    cut g h k = rw (← e) (rw (le-ltb _ _ g, le-ltb _ _ h, lt-ltb _ _ k))

    module _ (g : 1 ≤ len) (h : len ≤ 128) (k : len ≤ length s - first) where
      name_in : first + len ≤ length s
      name_in = omega (arith, first_in)

      module _ {t : Bool} (p : t ≡ list_all fine_byte (take (first + len - first) (drop first s))) where
        tested : printable_at len s first ≡ t
        tested =
            let d : first + len - first ≡ len = omega arith in
            sym (p ∙ ap (λ (n : ℕ). list_all fine_byte (take n (drop first s))) d ∙ all_fine s len first name_in)

        pub unprintable : t ≡ false → bad at ≡ name_at s at
        unfolding name_at name_body
        unprintable q = rw (← e) (rw (le-ltb _ _ g, le-ltb _ _ h, le-ltb _ _ k, tested, q))

        pub whole : t ≡ true → good (word_at s first len) (first + len) ≡ name_at s at
        unfolding name_at name_body
        whole q = rw (← e) (rw (le-ltb _ _ g, le-ltb _ _ h, le-ltb _ _ k, tested, q))
