-- The part that is left to `copy_part`: none behind the end, else the byte here and what follows.
-- Assumes nothing.
use mathlib.Core.Path.{◌≡◌}
use mathlib.Core.List.{List, [], ◌∷◌}
use Prim.Native.Nat.{ℕ, suc, ◌+◌, ◌-◌, ◌<◌, ◌≤◌}
use native.Mathlib.Numerals.{add-one}
use native.Mathlib.Omega.{arith}
use lib.ListN.{length, get_or, drop}
use lib.Seq.{drop-cons}
use Rattle.text.specs.Keyword.{part}

pub part_none : (s : List ℕ) (i end : ℕ) → end ≤ i → part s i end ≡ []
unfolding part
part_none s i end h = let e : end - i ≡ 0 = omega arith in rw e

pub part_cons : (s : List ℕ) (i end : ℕ) → i < end → end ≤ length s → part s i end ≡ get_or s i 0 ∷ part s (i + 1) end
unfolding part
part_cons s i end h k =
    let e : end - i ≡ suc (end - (i + 1)) = omega arith in
    let r : drop i s ≡ get_or s i 0 ∷ drop (i + 1) s = rw (add-one, drop-cons s i 0 (omega arith)) in
    rw (e, r)
