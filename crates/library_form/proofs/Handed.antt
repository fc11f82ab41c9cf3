-- What stands at the exit of a `?`: the wrong place, handed on as it is.
-- Assumes nothing.
use Rattle.std.specs.Prelude.{Err, Result}
use Rattle.std.specs.Result.{IsErrAnd}
use Rattle.std.proofs.lemmas.Result.{err_from_is_err_and}
use mathlib.Core.Path.{◌≡◌, ap, ◌∙◌}
use Prim.Native.Nat.{ℕ}

pub handed : {T : Type 0} (r : Result T ℕ) {p : ℕ} → IsErrAnd r (λ q. q ≡ p) → r ≡ Err p
handed r h = let x = err_from_is_err_and r h in x.1 ∙ ap Err x.2
