-- Worked examples: each definition computes what stands beside it.
-- Assumes nothing.
use mathlib.Core.Path.{◌≡◌, refl}
use mathlib.Core.List.{[], ◌∷◌}
use Rattle.library_form.specs.Form.{good, bad, groups, number_at, printable_at, name_body, name_at}
use Rattle.library_form.specs.Writer.{write_number, write_name}

-- ---- numbers

nothing : number_at (0 ∷ []) 0 ≡ good 0 1
unfolding number_at groups
nothing = refl

one_byte : number_at (127 ∷ []) 0 ≡ good 127 1
unfolding number_at groups
one_byte = refl

-- 80 01, with a byte before it and one behind it
two_bytes : number_at (7 ∷ 128 ∷ 1 ∷ 9 ∷ []) 1 ≡ good 128 3
unfolding number_at groups
two_bytes = refl

-- ff ff 7f
greatest : number_at (255 ∷ 255 ∷ 127 ∷ []) 0 ≡ good 2097151 3
unfolding number_at groups
greatest = refl

-- a last group of 0 behind another: not the shortest form
longer_form : number_at (7 ∷ 129 ∷ 0 ∷ []) 1 ≡ bad 1
unfolding number_at groups
longer_form = refl

longer_zero : number_at (128 ∷ 128 ∷ 0 ∷ []) 0 ≡ bad 0
unfolding number_at groups
longer_zero = refl

fourth_byte : number_at (128 ∷ 128 ∷ 128 ∷ 1 ∷ []) 0 ≡ bad 0
unfolding number_at groups
fourth_byte = refl

-- wrong where it starts; missing, at the end
cut_short : number_at (7 ∷ 255 ∷ 255 ∷ []) 1 ≡ bad 1
unfolding number_at groups
cut_short = refl

missing : number_at (7 ∷ []) 1 ≡ bad 1
unfolding number_at groups
missing = refl

written : write_number 128 ≡ 128 ∷ 1 ∷ []
unfolding write_number
written = refl

-- ---- names

-- 1, a
name_of_one : name_at (1 ∷ 97 ∷ 9 ∷ []) 0 ≡ good (record { place = 1; size = 1; text = 97 ∷ [] }) 2
unfolding name_at name_body printable_at number_at groups
name_of_one = refl

-- each fault is told at the name's length
blank_within : name_at (7 ∷ 3 ∷ 97 ∷ 32 ∷ 98 ∷ []) 1 ≡ bad 1
unfolding name_at name_body printable_at number_at groups
blank_within = refl

byte_127 : name_at (1 ∷ 127 ∷ []) 0 ≡ bad 0
unfolding name_at name_body printable_at number_at groups
byte_127 = refl

empty_name : name_at (0 ∷ 97 ∷ []) 0 ≡ bad 0
unfolding name_at name_body printable_at number_at groups
empty_name = refl

name_cut_short : name_at (7 ∷ 2 ∷ 97 ∷ []) 1 ≡ bad 1
unfolding name_at name_body printable_at number_at groups
name_cut_short = refl

-- a length of 129
long_name : name_at (129 ∷ 1 ∷ 97 ∷ []) 0 ≡ bad 0
unfolding name_at name_body printable_at number_at groups
long_name = refl

name_written : write_name (97 ∷ 98 ∷ []) ≡ 2 ∷ 97 ∷ 98 ∷ []
unfolding write_name write_number
name_written = refl
