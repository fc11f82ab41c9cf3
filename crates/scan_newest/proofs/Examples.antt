-- Worked examples: each definition computes what stands beside it.
-- Assumes nothing.
use mathlib.Core.Path.{◌≡◌, refl}
use mathlib.Core.List.{List, [], ◌∷◌}
use Prim.Native.Nat.{ℕ}
use Rattle.scan_rows.specs.Span.{held, missing}
use Rattle.scan_newest.specs.Newest.{less, Revision, newer, newest_from, newest}

-- a value held from a place on
abbrev read : ℕ → ℕ → List ℕ → Revision
read start size value = record { span = held start size; value = value }

-- 2020 and 2021
abbrev earlier : List ℕ
earlier = 50 ∷ 48 ∷ 50 ∷ 48 ∷ []

abbrev later : List ℕ
later = 50 ∷ 48 ∷ 50 ∷ 49 ∷ []

last_byte_decides : newest (read 0 4 earlier ∷ read 4 4 later ∷ []) ≡ read 4 4 later
unfolding newest newest_from newer less
last_byte_decides = refl

later_stays : newest (read 0 4 later ∷ read 4 4 earlier ∷ []) ≡ read 0 4 later
unfolding newest newest_from newer less
later_stays = refl

-- a before ab, and 9 above 10: byte order
beginning_first : newest (read 0 2 (97 ∷ 98 ∷ []) ∷ read 2 1 (97 ∷ []) ∷ []) ≡ read 0 2 (97 ∷ 98 ∷ [])
unfolding newest newest_from newer less
beginning_first = refl

not_by_number : newest (read 0 1 (57 ∷ []) ∷ read 1 2 (49 ∷ 48 ∷ []) ∷ []) ≡ read 0 1 (57 ∷ [])
unfolding newest newest_from newer less
not_by_number = refl

-- of equals the first
equals : newest (read 0 4 earlier ∷ read 4 4 later ∷ read 8 4 later ∷ []) ≡ read 4 4 later
unfolding newest newest_from newer less
equals = refl

-- an empty value is present, and the newest where no other was read
empty_value : newest (read 3 0 [] ∷ []) ≡ read 3 0 []
unfolding newest newest_from newer less
empty_value = refl

none_read : (newest []).span ≡ missing
unfolding newest newest_from
none_read = refl
