-- The largest byte of some: it tells whether all of them are below 128.
-- Assumes nothing.
use Rattle.std.specs.Prelude.{ℕ, cond, List, [], ◌∷◌, leb}

unfoldable pub larger : ℕ → ℕ → ℕ
larger a b = cond (leb b a) a b

-- the largest of a number and of all bytes
unfoldable pub largest : ℕ → List ℕ → ℕ
largest most [] = most
largest most (b ∷ xs) = largest (larger most b) xs
