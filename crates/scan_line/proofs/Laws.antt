-- The line of a refusal: its pieces, in the order of the code, and its room.
-- Assumes nothing.
use mathlib.Core.Path.{◌≡◌}
use mathlib.Core.List.{List, [], ◌∷◌}
use Prim.Native.Nat.{ℕ, ◌+◌, ◌^◌, ◌<◌, ◌≤◌}
use native.Mathlib.Omega.{arith}
use lib.ListN.{length}
use Rattle.text.specs.declared.Refusal.{Refusal}
use Rattle.scan_line.specs.Line.{newline, decimal}
use Rattle.scan_line.specs.Refused.{refused_word, keyword_word, at_word, refused_line}
use Rattle.scan_line.proofs.Decimal.{decimal_size}
use Rattle.scan_line.proofs.Going.{Going, begin, sum, flatten_length}

pub refused_begin : (d : List ℕ) (at : ℕ) (x : Refusal)
    → Going d at (refused_line x) d at
    (refused_word ∷ decimal x.number ∷ keyword_word ∷ decimal x.keyword ∷ at_word ∷ decimal x.at ∷ newline ∷ [])
unfolding refused_line
refused_begin d at x = begin d at _

refused_size : (x : Refusal) → x.number < 2 ^ 32 → x.keyword < 2 ^ 32 → x.at < 2 ^ 64 → length (refused_line x) ≤ 62
unfolding refused_line sum
refused_size x h k l =
    omega (
      arith,
      flatten_length (refused_word ∷ decimal x.number ∷ keyword_word ∷ decimal x.keyword ∷ at_word ∷ decimal x.at ∷ newline ∷ []),
      decimal_size 9 x.number (omega (arith, h)) (omega (arith, h)),
      decimal_size 9 x.keyword (omega (arith, k)) (omega (arith, k)),
      decimal_size 19 x.at (omega (arith, l)) l,
    )

pub refused_room : (d : List ℕ) (x : Refusal) → length d ≡ 64 → x.number < 2 ^ 32 → x.keyword < 2 ^ 32 → x.at < 2 ^ 64
    → 0 + length (refused_line x) ≤ length d
refused_room d x e h k l = omega (arith, e, refused_size x h k l)
