-- The loop of `copy`: what is left to be written, the words from here on.
-- Assumes nothing.
use mathlib.Core.Path.{◌≡◌, refl}
use mathlib.Core.List.{List}
use Prim.Native.Nat.{ℕ, ◌+◌, ◌-◌, ◌≤◌, ◌<◌}
use native.Mathlib.Omega.{arith}
use lib.ListN.{length, get_or, set}
use lib.Seq.{sets, slice, slice_empty}
use Rattle.text.proofs.Writing.{Writing, begun, put, written}
use Rattle.order_ring.proofs.Parts.{slice_more}

pub record Copying (trail : List ℕ) (from to : ℕ) (table₀ : List ℕ) (at : ℕ) (table : List ℕ) (i j : ℕ) : Type 0 where
  pub within : i ≤ to
  pub level : j + (to - i) ≡ at + (to - from)
  pub writing : Writing table₀ at (slice from to trail) table j (slice i to trail)

module _ (trail : List ℕ) (from to : ℕ) (table₀ : List ℕ) (at : ℕ) where
  pub copy_begun : from ≤ to → Copying trail from to table₀ at table₀ from at
  copy_begun l = record { within = l; level = refl; writing = begun table₀ at (slice from to trail) }

  module _ (table : List ℕ) (i j : ℕ) (h : Copying trail from to table₀ at table i j) where
    pub copy_kept : length table ≡ length table₀
    copy_kept = h.writing.long

    pub copy_in : i < to → at + (to - from) ≤ length table₀ → j < length table
    copy_in l k = omega (arith, copy_kept, h.level)

    pub copy_more : i < to → to ≤ length trail → Copying trail from to table₀ at (set table j (get_or trail i 0)) (i + 1) (j + 1)
    copy_more l k = record {
      within = omega arith;
      level = omega (arith, h.level);
      writing = put (slice_more i to trail l k) h.writing;
    }

    pub copy_done : to ≤ i → table ≡ sets table₀ at (slice from to trail)
    copy_done l = let e : i ≡ to = omega (arith, h.within) in written (rw e (slice_empty to trail)) h.writing
