-- A table of zeros is zero everywhere.
-- Assumes nothing.
use mathlib.Core.Path.{◌≡◌, refl}
use Prim.Native.Nat.{ℕ, zero, suc}
use lib.ListN.{get_or, replicate}

pub zeros_zero : (k j : ℕ) → get_or (replicate {A = ℕ} k 0) j 0 ≡ 0
zeros_zero zero j = refl
zeros_zero (suc k) zero = refl
zeros_zero (suc k) (suc j) = zeros_zero k j
