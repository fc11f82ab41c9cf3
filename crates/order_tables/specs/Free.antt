-- Which node may be registered next, `done` being those that are registered already: one of the n that is not among them, and to which no edge leads
-- but from them. The order takes the lowest such node each time; the check of a list asks at each place whether there is one.
-- Assumes nothing.
use Rattle.std.specs.Prelude.{ℕ, zero, suc, ◌<◌, ◌≡◌, Bool, true, false, cond, not, ◌&&◌, List, [], ◌∷◌, eqb, ltb, get_or}
use Rattle.graph.specs.Numbers.{Row}

unfoldable pub mem : ℕ → List ℕ → Bool
mem v [] = false
mem v (u ∷ us) = cond (eqb u v) true (mem v us)

-- every edge to v comes from one of `done`
unfoldable pub ready : List Row → (done : List ℕ) → ℕ → Bool
ready [] done v = true
ready (e ∷ es) done v = cond (eqb e.to v) (mem e.from done && ready es done v) (ready es done v)

abbrev pub free : ℕ → List Row → (done : List ℕ) → ℕ → Bool
free n es done v = ltb v n && (not (mem v done) && ready es done v)

-- the lowest of the k numbers from i on that has p; i + k if none has it
unfoldable pub lowest_from : (ℕ → Bool) → (i k : ℕ) → ℕ
lowest_from p i zero = i
lowest_from p i (suc k) = cond (p i) i (lowest_from p (suc i) k)

-- the lowest number below n that has p; n if none has it
abbrev pub lowest : (ℕ → Bool) → ℕ → ℕ
lowest p n = lowest_from p 0 n

-- a number whose word in a table is 0
abbrev pub zero_at : List ℕ → ℕ → Bool
zero_at t v = eqb (get_or t v 0) 0

-- nodes are left over, and none of them is free
pub record Stuck (n : ℕ) (es : List Row) (done : List ℕ) : Type 0 where
  pub below : (v : ℕ) → mem v done ≡ true → v < n
  pub some : lowest (λ v. not (mem v done)) n < n
  pub waiting : (v : ℕ) → v < n → mem v done ≡ false → ready es done v ≡ false
