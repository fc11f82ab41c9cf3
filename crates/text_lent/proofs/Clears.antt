-- A slice of zeros into which a list is written is that list and zeros.
-- Assumes nothing.
use mathlib.Core.Path.{◌≡◌, ap, ◌∙◌}
use mathlib.Core.List.{List, [], ◌++◌}
use Prim.Native.Nat.{ℕ, zero, suc, ◌+◌, ◌-◌, ◌≤◌}
use native.Mathlib.Nat.{zero-add}
use native.Mathlib.Omega.{arith}
use lib.ListN.{length, take, drop, length-append, length-replicate}
use lib.Seq.{sets, sets-eq}
use Rattle.text_lent.specs.Padded.{zeros, padded}

as_many : (k n : ℕ) → k ≡ n → zeros k ≡ zeros n
as_many k n e = ap zeros e

drop_zeros : (k n : ℕ) → drop k (zeros n) ≡ zeros (n - k)
drop_zeros zero n = as_many (n) (n - 0) (omega arith)
drop_zeros (suc k) zero = as_many (0) (0 - suc k) (omega arith)
drop_zeros (suc k) (suc n) = drop_zeros k n ∙ as_many (n - k) (suc n - suc k) (omega arith)

-- t: the slice at entry, z: the same cleared, e: what is written into that
pub written_zero : (t xs : List ℕ) {z e : List ℕ} → z ≡ zeros (length t) → e ≡ sets z 0 xs → length xs ≤ length t → e ≡ padded (length t) xs
unfolding padded
written_zero t xs {z} {e} ze ee h =
    let n = length t in
    let long : length (zeros n) ≡ n = length-replicate {A = ℕ} n 0 in
    let laid : sets (zeros n) 0 xs ≡ take 0 (zeros n) ++ xs ++ drop (0 + length xs) (zeros n) = sets-eq xs (zeros n) 0 (omega (arith, long)) in
    let rest : drop (0 + length xs) (zeros n) ≡ zeros (n - length xs) = ap (λ k. drop k (zeros n)) (zero-add (length xs)) ∙ drop_zeros (length xs) n in
    ee ∙ ap (λ l. sets l 0 xs) ze ∙ laid ∙ ap (λ l. xs ++ l) rest

pub padded_none : (n : ℕ) → zeros n ≡ padded n []
unfolding padded
padded_none n = as_many (n) (n - 0) (omega arith)

pub padded_long : (n : ℕ) (xs : List ℕ) → length xs ≤ n → length (padded n xs) ≡ n
unfolding padded
padded_long n xs h = omega (arith, length-append xs (zeros (n - length xs)), length-replicate {A = ℕ} (n - length xs) 0)
