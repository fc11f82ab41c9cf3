-- A field's bytes lie between two places, neither behind the file's end.
-- Assumes nothing.
use Rattle.std.proofs.Common.{◌≡◌, ℕ, ◌+◌, ◌-◌, ◌≤◌, leb, List, length, take, drop, refl, arith, leb-true}
use Rattle.text.proofs.Here.{by_test}
use Rattle.replay.specs.Fields.{length_at, missing_at, on_by, bytes_from, behind, field_at}

-- ---- n places on

pub on_within : (d : List ℕ) (at n : ℕ) → on_by d at n ≤ length d
unfolding on_by
on_within d at n = by_test (leb (at + n) (length d)) (λ t. rw t (leb-true (at + n) (length d) t)) (λ f. rw f (omega arith))

pub on_from : (d : List ℕ) (at n : ℕ) → at ≤ length d → at ≤ on_by d at n
unfolding on_by
on_from d at n h = by_test (leb (at + n) (length d)) (λ t. rw t (omega arith)) (λ f. rw f h)

pub behind_within : (d : List ℕ) (at : ℕ) → behind d at ≤ length d
unfolding behind bytes_from
behind_within d at =
    by_test (missing_at d at) (λ t. rw t (on_within d at 2)) (λ f. rw f (on_within d (on_by d at 2) (length_at d at)))

pub behind_from : (d : List ℕ) (at : ℕ) → on_by d at 2 ≤ behind d at
unfolding behind bytes_from
behind_from d at =
    by_test (missing_at d at) (λ t. rw t (omega arith)) (λ f. rw f (on_from d (on_by d at 2) (length_at d at) (on_within d at 2)))

-- f and t: the two places
module _ (d : List ℕ) (at : ℕ) {f t : ℕ} (fe : f ≡ on_by d at 2) (te : t ≡ behind d at) where
  pub field_order : f ≤ t
  field_order = rw fe (rw te (behind_from d at))

  pub field_end : t ≤ length d
  field_end = rw te (behind_within d at)

  pub field_is : take (t - f) (drop f d) ≡ field_at d at
  unfolding field_at bytes_from
  field_is = rw (← fe) (rw (← te) refl)
