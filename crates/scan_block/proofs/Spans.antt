-- Where the values of a block lie: each within the bytes that were stored since the place u, and the last ones read apart from each other,
-- since a later value is stored behind all earlier ones.
-- Assumes nothing.
use mathlib.Core.Path.{◌≡◌, refl, ap}
use mathlib.Core.Logic.{◌⊎◌, inl, inr, ⊎_elim}
use mathlib.Core.Bool.{true}
use Prim.Native.Nat.{ℕ, ◌+◌, ◌-◌, ◌≤◌}
use native.Mathlib.Omega.{arith}
use lib.Dec.{eqb}
use Rattle.text.proofs.Here.{by_test, never}
use Rattle.scan_rows.specs.Span.{held, missing}
use Rattle.scan_rows.specs.declared.Span.{Span}
use Rattle.scan_block.specs.Block.{kept, moved, begun}
use Rattle.scan_block.specs.declared.Body.{Body}

-- a value from u up to n
abbrev pub Lies : ℕ → ℕ → Span → Type 0
Lies u n x = (x.present ≡ true) × (u ≤ x.start) × (x.start + x.size ≤ n)

abbrev pub MayLie : ℕ → ℕ → Span → Type 0
MayLie u n x = (x ≡ missing) ⊎ Lies u n x

pub lies_held : (u v n : ℕ) → u ≤ v → v ≤ n → Lies u n (held v (n - v))
lies_held u v n h k = (refl, h, omega arith)

missing_size : {x : Span} → x ≡ missing → (x.start ≡ 0) × (x.size ≡ 0)
missing_size e = (ap (λ y. y.start) e, ap (λ y. y.size) e)

-- it ends where the stored bytes end, or before
pub may_end : {u n : ℕ} {x : Span} → MayLie u n x → x.start + x.size ≤ n
may_end m = ⊎_elim (λ e. omega (arith, missing_size e)) (λ l. l.2) m

pub may_size : {u n : ℕ} {x : Span} → u ≤ n → MayLie u n x → u + x.size ≤ n
may_size h m = ⊎_elim (λ e. omega (arith, missing_size e)) (λ l. omega (arith, l.1, l.2)) m

-- said of a part of the store, it holds of a larger one
pub lies_more : {u v n m : ℕ} (x : Span) → v ≤ u → n ≤ m → Lies u n x → Lies v m x
lies_more x h k l = (l.0, omega (arith, l.1), omega (arith, l.2))

pub may_more : {u v n m : ℕ} {x : Span} → v ≤ u → n ≤ m → MayLie u n x → MayLie v m x
may_more {x = x} h k m = ⊎_elim (λ e. inl e) (λ l. inr (lies_more x h k l)) m

-- a present one lies there
pub may_lies : {u n : ℕ} {x : Span} → x.present ≡ true → MayLie u n x → Lies u n x
may_lies h m = ⊎_elim (λ e. absurd (never (ap (λ y. y.present) e) h)) (λ l. l) m

-- the values of a block that began at u
abbrev pub Sound : ℕ → Body → Type 0
Sound u b =
    (u ≤ b.used) × MayLie u b.used b.prefix × MayLie u b.used b.revision
    × (u + (b.prefix.size + b.revision.size) ≤ b.used)

pub sound_begun : (at u : ℕ) → Sound u (begun at u)
sound_begun at u = (omega arith, inl refl, inl refl, omega arith)

pub sound_moved : (u : ℕ) (b : Body) (at : ℕ) → Sound u b → Sound u (moved b at)
sound_moved u b at h = (h.0, h.1, h.2, h.3)

module _ (u : ℕ) (b : Body) (at n : ℕ) (k : b.used ≤ n) (h : Sound u b) where
  sound_prefix : Sound u (record { at = at; used = n; prefix = held b.used (n - b.used); revision = b.revision })
  sound_prefix =
      (omega (arith, h.0), inr (lies_held u b.used n h.0 k), may_more (omega arith) k h.2, omega (arith, h.0, may_size h.0 h.2))

  sound_revision : Sound u (record { at = at; used = n; prefix = b.prefix; revision = held b.used (n - b.used) })
  sound_revision =
      (omega (arith, h.0), may_more (omega arith) k h.1, inr (lies_held u b.used n h.0 k), omega (arith, h.0, may_size h.0 h.1))

  -- j: the keyword of the value
  pub sound_kept : (j : ℕ) → Sound u (kept b j at n (held b.used (n - b.used)))
  unfolding kept
  sound_kept j = by_test (eqb j 5) (λ t. rw t sound_prefix) (λ t. rw t sound_revision)

pub kept_place : (b : Body) (j at n : ℕ) (x : Span) → ((kept b j at n x).at ≡ at) × ((kept b j at n x).used ≡ n)
unfolding kept
kept_place b j at n x = by_test (eqb j 5) (λ t. rw t (refl, refl)) (λ t. rw t (refl, refl))
