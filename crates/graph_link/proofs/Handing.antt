-- What an `ok_or` or a `map_err` went by: what the call before it answered.
-- Assumes nothing.
use Rattle.std.specs.Prelude.{Some, None, Ok, Err, Option, Result}
use Rattle.std.specs.Option.{ok_or}
use Rattle.std.specs.Result.{MatchResult, IsErrAnd, is_ok}
use Rattle.std.proofs.lemmas.Result.{err_from_is_err_and}
use mathlib.Core.Path.{◌≡◌, refl, sym, ap, ◌∙◌, subst}
use mathlib.Core.Bool.{true≢false}

no_both : {T E X : Type 0} {q : Result T E} {x : T} {y : E} → q ≡ Ok x → q ≡ Err y → X
no_both e f = absurd (true≢false (ap is_ok (sym e ∙ f)))

same_err : {T E : Type 0} (x y : E) → ◌≡◌ {A = Result T E} (Err x) (Err y) → x ≡ y
same_err x y e = cc

same_ok : {T E : Type 0} (x y : T) → ◌≡◌ {A = Result T E} (Ok x) (Ok y) → x ≡ y
same_ok x y e = cc

module _ {T E : Type 0} {q : Result T E} where
  pub was_some : (r : Option T) (y : E) {x : T} → q ≡ ok_or r y → q ≡ Ok x → r ≡ Some x
  was_some None y e f = no_both f e
  was_some (Some z) y {x} e f = ap Some (same_ok z x (sym e ∙ f))

  pub was_none : (r : Option T) (y : E) {z : E} → q ≡ ok_or r y → q ≡ Err z → (r ≡ None) × (z ≡ y)
  was_none None y {z} e f = (refl, same_err z y (sym f ∙ e))
  was_none (Some x) y e f = no_both e f

module _ {T E D : Type 0} (Q : E → D → Type 0) {q : Result T D} where
  pub was_ok : (r : Result T E) {x : T} → MatchResult r (λ y. q ≡ Ok y) (λ e. IsErrAnd q (Q e)) → q ≡ Ok x → r ≡ Ok x
  was_ok (Ok y) {x} h f = ap Ok (same_ok y x (sym h ∙ f))
  was_ok (Err e) h f = no_both f (err_from_is_err_and q h).1

  pub was_err : (r : Result T E) {d : D} → MatchResult r (λ y. q ≡ Ok y) (λ e. IsErrAnd q (Q e)) → q ≡ Err d → (e : E) × (r ≡ Err e) × Q e d
  was_err (Ok y) h f = no_both h f
  was_err (Err e) {d} h f = let p = err_from_is_err_and q h in (e, refl, subst (Q e) (same_err p.0 d (sym p.1 ∙ f)) p.2)
