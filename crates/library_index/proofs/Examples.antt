-- Worked examples: each definition computes what stands beside it.
-- Assumes nothing.
use Rattle.std.specs.Prelude.{Some, None}
use mathlib.Core.Path.{◌≡◌, refl}
use mathlib.Core.List.{List, [], ◌∷◌}
use Prim.Native.Nat.{ℕ}
use Rattle.text.specs.Keyword.{same}
use Rattle.library_form.specs.Form.{PlacedName, word_at}
use Rattle.library_index.specs.Names.{first_from, first_of, first_by, among, add_all, hash_from, hash_of}

-- abacab: the names ab, ac and ab again
abbrev bytes : List ℕ
bytes = 97 ∷ 98 ∷ 97 ∷ 99 ∷ 97 ∷ 98 ∷ []

abbrev words : List PlacedName
words = word_at bytes 0 2 ∷ word_at bytes 2 2 ∷ word_at bytes 4 2 ∷ []

-- the first hit, not the last
first_of_equals : first_of (97 ∷ 98 ∷ []) words ≡ Some 0
unfolding first_from same
first_of_equals = refl

second : first_of (97 ∷ 99 ∷ []) words ≡ Some 1
unfolding first_from same
second = refl

-- a beginning of a name is another name
beginning : first_of (97 ∷ []) words ≡ None
unfolding first_from same
beginning = refl

place_of_first : first_by (λ (w : PlacedName). w) (λ (w : PlacedName). w.place) (97 ∷ 98 ∷ []) words 9 ≡ 0
unfolding same
place_of_first = refl

nowhere : first_by (λ (w : PlacedName). w) (λ (w : PlacedName). w.place) (98 ∷ []) words 9 ≡ 9
unfolding same
nowhere = refl

-- a repeated name is left out
repeated : add_all (λ (w : PlacedName). w.text) [] words ≡ word_at bytes 0 2 ∷ word_at bytes 2 2 ∷ []
unfolding same among add_all
repeated = refl

-- 97 * 131 + 98 is 12,805, and 6 * 2,048 less is 517
two_bytes : hash_of (97 ∷ 98 ∷ []) ≡ 517
unfolding hash_from
two_bytes = refl
