-- Where nothing that was lent is too short, each of it is long enough.
-- Assumes nothing.
use mathlib.Core.Path.{◌≡◌}
use mathlib.Core.Bool.{Bool, false, ◌||◌}
use Prim.Native.Nat.{ℕ, ◌*◌, ◌≤◌}
use lib.Dec.{ltb}
use borrow.Author.Tests.{ltb-false}
use Rattle.text.proofs.Here.{neither}
use Rattle.scan_rows.specs.Rows.{import_size, include_size, most_rows}
use Rattle.scan_rows.specs.Short.{is_too_short}

module _ (short : Bool) (text store imports includes : ℕ) where
  pub long_enough : is_too_short short text store imports includes ≡ false
      → (text ≤ store) × (most_rows * import_size ≤ imports) × (most_rows * include_size ≤ includes)
  unfolding is_too_short
  long_enough h =
      let p = neither (short || ltb store text || ltb imports (most_rows * import_size)) (ltb includes (most_rows * include_size)) h in
      let q = neither (short || ltb store text) (ltb imports (most_rows * import_size)) p.0 in
      let o = neither short (ltb store text) q.0 in
      (ltb-false store text o.1, ltb-false imports (most_rows * import_size) q.1, ltb-false includes (most_rows * include_size) p.1)
