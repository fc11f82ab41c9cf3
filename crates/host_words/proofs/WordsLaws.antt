-- The words of a page are those of its scan and one more.
-- Assumes nothing.
use mathlib.Core.Path.{◌≡◌, refl}
use mathlib.Core.List.{List, [], ◌∷◌, ◌++◌}
use Prim.Native.Nat.{ℕ}
use native.Mathlib.Omega.{arith}
use lib.ListN.{length, get_or}

-- six words and one more
pub seven : (w : List ℕ) (n : ℕ) → length w ≡ 6
    → get_or w 0 0 ∷ get_or w 1 0 ∷ get_or w 2 0 ∷ get_or w 3 0 ∷ get_or w 4 0 ∷ get_or w 5 0 ∷ n ∷ [] ≡ w ++ (n ∷ [])
seven [] n h = absurd (omega (arith, h))
seven (a ∷ []) n h = absurd (omega (arith, h))
seven (a ∷ b ∷ []) n h = absurd (omega (arith, h))
seven (a ∷ b ∷ c ∷ []) n h = absurd (omega (arith, h))
seven (a ∷ b ∷ c ∷ d ∷ []) n h = absurd (omega (arith, h))
seven (a ∷ b ∷ c ∷ d ∷ e ∷ []) n h = absurd (omega (arith, h))
seven (a ∷ b ∷ c ∷ d ∷ e ∷ f ∷ []) n h = refl
seven (a ∷ b ∷ c ∷ d ∷ e ∷ f ∷ g ∷ w) n h = absurd (omega (arith, h))
