-- A rule for every loop that is stated by `turns`: what each turn keeps holds of the answer. It needs no measure where it holds of `none` too.
-- Assumes nothing.
use Prim.Native.Nat.{ℕ, zero, suc}
use Rattle.text.specs.Turns.{Turn, stop, on, after, turns}

-- P of a state, Q of an answer
module _ {A R : Type 0} (P : A → Type 0) (Q : R → Type 0) where
  abbrev pub Keeps : Turn A R → Type 0
  Keeps (stop r) = Q r
  Keeps (on a) = P a

  by_turn : (go : A → R) → ((b : A) → P b → Q (go b)) → (t : Turn A R) → Keeps t → Q (after go t)
  by_turn go more (stop r) h = h
  by_turn go more (on b) h = more b h

  pub turns_kept : (step : A → Turn A R) (none : R) → Q none → ((a : A) → P a → Keeps (step a)) → (n : ℕ) (a : A) → P a → Q (turns step none n a)
  unfolding turns
  turns_kept step none z each zero a p = z
  turns_kept step none z each (suc n) a p = by_turn (λ b. turns step none n b) (λ b q. turns_kept step none z each n b q) (step a) (each a p)
