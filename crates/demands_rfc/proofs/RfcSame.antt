-- Tests that compare values: for worked examples.
-- Assumes nothing.
use mathlib.Core.Bool.{Bool, true, false, ◌&&◌}
use mathlib.Core.List.{List, [], ◌∷◌}
use Prim.Native.Nat.{ℕ}
use lib.Dec.{eqb}
use Rattle.text_value.specs.Value.{Val, value, none}
use Rattle.demands_rfc.specs.Rfc.{Read, reads, nothing}

abbrev pub same : List ℕ → List ℕ → Bool
same [] [] = true
same [] (y ∷ ys) = false
same (x ∷ xs) [] = false
same (x ∷ xs) (y ∷ ys) = eqb x y && same xs ys

abbrev pub same_bool : Bool → Bool → Bool
same_bool true true = true
same_bool true false = false
same_bool false true = false
same_bool false false = true

abbrev pub same_val : Val → Val → Bool
same_val (value xs e) (value ys f) = same xs ys && eqb e f
same_val (value xs e) (none f) = false
same_val (none e) (value ys f) = false
same_val (none e) (none f) = eqb e f

abbrev pub same_read : Read (List ℕ) → Read (List ℕ) → Bool
same_read (reads xs e) (reads ys f) = same xs ys && eqb e f
same_read (reads xs e) nothing = false
same_read nothing (reads ys f) = false
same_read nothing nothing = true

-- our value and the RFC's: the same bytes up to the same place, or none
abbrev pub agree : Val → Read (List ℕ) → Bool
agree (value xs e) (reads ys f) = same xs ys && eqb e f
agree (value xs e) nothing = false
agree (none e) (reads ys f) = false
agree (none e) nothing = true
