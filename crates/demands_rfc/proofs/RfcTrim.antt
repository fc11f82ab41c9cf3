-- Trimming does nothing where there is no line break: nothing is blank up to a break, and no next line begins.
-- Assumes nothing.
use mathlib.Core.Path.{◌≡◌, refl}
use mathlib.Core.Bool.{true, false, not, and-false}
use mathlib.Core.List.{List, [], ◌∷◌}
use Prim.Native.Nat.{ℕ}
use lib.ListN.{get_or}
use lib.Dec.{eqb}
use borrow.Author.Tests.{not-true}
use Rattle.demands_rfc.specs.Rfc.{are_at, break_at, blank_to_break, unless, trim_ends, trim_starts, trimmed}
use Rattle.demands_rfc.specs.RfcDomain.{one_line}
use Rattle.text.proofs.Here.{both}

module _ (b : ℕ) (xs : List ℕ) (h : one_line (b ∷ xs) ≡ true) where
  line_head : eqb b 10 ≡ false
  unfolding one_line
  line_head = not-true (eqb b 10) (both (not (eqb b 10)) (one_line xs) h).0

  line_tail : one_line xs ≡ true
  unfolding one_line
  line_tail = (both (not (eqb b 10)) (one_line xs) h).1

next_line : (xs : List ℕ) → one_line xs ≡ true → eqb (get_or xs 0 256) 10 ≡ false
next_line [] h = refl
next_line (b ∷ xs) h = line_head b xs h

no_break : (b : ℕ) (xs : List ℕ) → one_line (b ∷ xs) ≡ true → break_at (b ∷ xs) 0 ≡ false
unfolding break_at are_at
no_break b xs h = simp (line_head b xs h, next_line xs (line_tail b xs h), and-false)

to_break : (xs : List ℕ) → one_line xs ≡ true → blank_to_break xs ≡ false
unfolding blank_to_break
to_break [] h = refl
to_break (b ∷ xs) h = simp (no_break b xs h, to_break xs (line_tail b xs h), and-false)

ends_same : (xs : List ℕ) → one_line xs ≡ true → trim_ends xs ≡ xs
unfolding trim_ends unless
ends_same [] h = refl
ends_same (b ∷ xs) h = simp (to_break xs (line_tail b xs h), and-false, ends_same xs (line_tail b xs h))

starts_same : (column : ℕ) (xs : List ℕ) → one_line xs ≡ true → trim_starts column 0 xs ≡ xs
unfolding trim_starts
starts_same column [] h = refl
starts_same column (b ∷ xs) h = simp (line_head b xs h, and-false, starts_same column xs (line_tail b xs h))

pub trimmed_same : (column : ℕ) (raw : List ℕ) → one_line raw ≡ true → trimmed column raw ≡ raw
unfolding trimmed
trimmed_same column raw h = rw (ends_same raw h) (starts_same column raw h)
