-- Two numbers are equal or not.
-- Assumes nothing.
use mathlib.Core.Path.{◌≡◌, refl}
use mathlib.Core.Logic.{◌⊎◌, inl, inr}
use mathlib.Core.Bool.{Bool, true, false}
use Prim.Native.Nat.{ℕ}
use lib.Dec.{eqb}
use borrow.Author.Tests.{eqb-true, eqb-false}

pub decide : (i h : ℕ) → (i ≡ h) ⊎ (i ≡ h → ⊥)
decide i h = go (eqb i h) refl
  where
    go : (b : Bool) → eqb i h ≡ b → (i ≡ h) ⊎ (i ≡ h → ⊥)
    go true e = inl (eqb-true i h e)
    go false e = inr (eqb-false i h e)
