-- The store has room for the rest of the text: no value is longer than the bytes that it was read from.
-- Assumes nothing.
use Rattle.std.specs.Prelude.{ℕ, ◌+◌, ◌-◌, ◌≤◌, List, length}

-- s: the text, read up to the place `at`; the store's next place is u
abbrev pub Room : List ℕ → ℕ → List ℕ → ℕ → Type 0
Room s at store u = u + (length s - at) ≤ length store
