-- The byte that is due after a value is one.
-- Assumes nothing.
use mathlib.Core.Path.{◌≡◌}
use mathlib.Core.Bool.{Bool, true, false, cond, ◌||◌}
use Prim.Native.Nat.{ℕ, ◌<◌}
use native.Mathlib.Omega.{arith}
use lib.Dec.{eqb}
use Rattle.scan_header.specs.Header.{due_for}

small : (t : Bool) → cond t 123 59 < 256
small true = omega arith
small false = omega arith

pub due_byte : (k : ℕ) {b : ℕ} → b ≡ due_for k → b < 256
unfolding due_for
due_byte k h = rw h (small (eqb k 1 || eqb k 2))
