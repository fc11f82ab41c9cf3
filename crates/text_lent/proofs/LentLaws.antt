-- The checks of what is lent: each test that comes before leaves the next one to decide.
-- Assumes nothing.
use Rattle.std.specs.Prelude.{Ok, Err, Result}
use mathlib.Core.Path.{◌≡◌, refl, sym}
use mathlib.Core.Bool.{Bool, true, false}
use mathlib.Core.List.{List}
use Prim.Native.Nat.{ℕ, ◌<◌, ◌≤◌}
use native.Mathlib.Omega.{arith}
use lib.Dec.{ltb}
use lib.ListN.{length}
use borrow.Author.Tests.{lt-ltb, le-ltb, ltb-true, ltb-false}
use Rattle.text.specs.declared.Refusal.{Refusal}
use Rattle.text.proofs.Here.{by_test}
use Rattle.text_utf8.specs.Utf8.{wrong_from}
use Rattle.text_lent.specs.Lent.{lent_at}

module _ (s : List ℕ) (short : Bool) where
  pub lent_long : 1048576 < length s → Err (record { number = 1; keyword = 0; at = 0 }) ≡ lent_at s short
  unfolding lent_at
  lent_long h = rw (lt-ltb 1048576 (length s) h) refl

  module _ (fits : length s ≤ 1048576) where
    pub lent_short : short ≡ true → Err (record { number = 2; keyword = 0; at = 0 }) ≡ lent_at s short
    unfolding lent_at
    lent_short h = rw (le-ltb 1048576 (length s) fits) (rw h refl)

    -- at: where the first wrong sequence starts, or the text's end
    module _ (enough : short ≡ false) {at : ℕ} (e : at ≡ wrong_from s 0) where
      pub lent_wrong : at < length s → Err (record { number = 12; keyword = 0; at = at }) ≡ lent_at s short
      unfolding lent_at
      lent_wrong h = rw (le-ltb 1048576 (length s) fits) (rw enough (rw (← e) (rw (lt-ltb at (length s) h) refl)))

      pub lent_fit : length s ≤ at → (Ok tt) ≡ lent_at s short
      unfolding lent_at
      lent_fit h = rw (le-ltb 1048576 (length s) fits) (rw enough (rw (← e) (rw (le-ltb at (length s) h) refl)))

-- a text that is scanned: not too long, everything lent long enough
unfit_not : {x : Result (Unit {0}) Refusal} {r : Refusal} → x ≡ Err r → x ≡ (Ok tt) → ⊥
unfit_not e f = let z : ◌≡◌ {A = ℕ} 0 1 = cc in omega arith

pub fit_said : (s : List ℕ) (short : Bool) → lent_at s short ≡ (Ok tt) → (length s ≤ 1048576) × (short ≡ false)
fit_said s short h =
    by_test (ltb 1048576 (length s))
    (λ t. absurd (unfit_not (sym (lent_long s short (ltb-true 1048576 (length s) t))) h))
    (λ t. let f = ltb-false 1048576 (length s) t in
    by_test short (λ b. absurd (unfit_not (sym (lent_short s short f b)) h)) (λ b. (f, b)))

-- a refusal's place is within the text
unfit_at : (x : Result (Unit {0}) Refusal) (r q : Refusal) → x ≡ Err r → x ≡ Err q → r.at ≡ q.at
unfit_at x r q e f = cc

pub lent_within : (s : List ℕ) (short : Bool) (q : Refusal) → lent_at s short ≡ Err q → q.at ≤ length s
lent_within s short q h =
    let x = lent_at s short in
    let at = wrong_from s 0 in
    by_test (ltb 1048576 (length s))
    (λ t. omega (arith, unfit_at x (record { number = 1; keyword = 0; at = 0 }) q (sym (lent_long s short (ltb-true 1048576 (length s) t))) h))
    (λ t. let fits = ltb-false 1048576 (length s) t in
    by_test short
    (λ b. omega (arith, unfit_at x (record { number = 2; keyword = 0; at = 0 }) q (sym (lent_short s short fits b)) h))
    (λ b. by_test (ltb at (length s))
    (λ v. let l = ltb-true at (length s) v in
    omega (arith, unfit_at x (record { number = 12; keyword = 0; at = at }) q (sym (lent_wrong s short fits b refl l)) h))
    (λ v. absurd (unfit_not h (sym (lent_fit s short fits b refl (ltb-false at (length s) v)))))))
