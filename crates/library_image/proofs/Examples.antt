-- Worked examples: an image read whole and written again; and one list with one claim, accepted up to the end or wrong at a place.
-- Assumes nothing.
use mathlib.Core.Path.{◌≡◌, refl}
use mathlib.Core.Bool.{Bool, true, false, ◌&&◌}
use mathlib.Core.List.{List, [], ◌∷◌}
use Prim.Native.Nat.{ℕ}
use lib.Dec.{eqb, T}
use lib.ListN.{length}
use Rattle.text.specs.Keyword.{same}
use Rattle.library_form.specs.Form.{Ans, good, bad, groups, number_at, printable_at, name_body, name_at, PlacedName, many}
use Rattle.library_form.specs.Writer.{write_number, write_name}
use Rattle.library_index.specs.Names.{among, new_name}
use Rattle.library_image.specs.Library.{Library, plain}
use Rattle.library_image.specs.Image.{count_at, counted, module_at, import_only_at, set_at, library_at, image_at}
use Rattle.library_image.specs.ImageWriter.{write_each, write_list, write_module, write_import_only, write_set, write_image}

-- 01 02 01 6D 01 01 73 00 00 01 62 00 00 00 00: modules m, with submodule s, and b
two : List ℕ
two = 1 ∷ 2 ∷ 1 ∷ 109 ∷ 1 ∷ 1 ∷ 115 ∷ 0 ∷ 0 ∷ 1 ∷ 98 ∷ 0 ∷ 0 ∷ 0 ∷ 0 ∷ []

letter : ℕ → ℕ → PlacedName
letter p b = record { place = p; size = 1; text = b ∷ [] }

two_read : Library
two_read =
    record {
      modules =
          record { name = letter 3 109; submodules = letter 6 115 ∷ []; augmenting = []; deviations = [] }
          ∷ record { name = letter 10 98; submodules = []; augmenting = []; deviations = [] } ∷ [];
      import_only = [];
    } ∷ []

two_modules : image_at two ≡ good two_read 15
unfolding two two_read letter image_at library_at set_at import_only_at module_at new_name among same counted count_at many name_at name_body printable_at number_at groups
two_modules = refl

two_written : write_image (plain two_read) ≡ two
unfolding two two_read letter write_image write_set write_import_only write_module write_list write_each write_name write_number
two_written = refl

data Example : Type 0 where
  fine : List ℕ → Example
  wrong : List ℕ → ℕ → Example

is_fine : ℕ → Ans Library → Bool
is_fine n (good l e) = eqb e n
is_fine n (bad p) = false

is_wrong : ℕ → Ans Library → Bool
is_wrong at (good l e) = false
is_wrong at (bad p) = eqb p at

holds : Example → Bool
holds (fine s) = is_fine (length s) (image_at s)
holds (wrong s at) = is_wrong at (image_at s)

all : List Example → Bool
all [] = true
all (x ∷ xs) = holds x && all xs

-- fine: no sets | module m and import-only m | module m whose lists say s five times | two revisions with s each | two sets with m each
-- missing: everything | the modules | the second import-only module
-- too many: 17 sets | 513 modules | 65 submodules | 9 revisions; and 0 revisions
-- a byte behind the last set
-- again: module m, with a fault behind it | import-only b | submodule s in one revision
examples : List Example
examples =
    fine (0 ∷ [])
    ∷ fine (1 ∷ 1 ∷ 1 ∷ 109 ∷ 0 ∷ 0 ∷ 0 ∷ 1 ∷ 1 ∷ 109 ∷ 1 ∷ 0 ∷ [])
    ∷ fine (1 ∷ 1 ∷ 1 ∷ 109 ∷ 2 ∷ 1 ∷ 115 ∷ 1 ∷ 115 ∷ 1 ∷ 1 ∷ 115 ∷ 2 ∷ 1 ∷ 115 ∷ 1 ∷ 115 ∷ 0 ∷ [])
    ∷ fine (1 ∷ 0 ∷ 1 ∷ 1 ∷ 98 ∷ 2 ∷ 1 ∷ 1 ∷ 115 ∷ 1 ∷ 1 ∷ 115 ∷ [])
    ∷ fine (2 ∷ 1 ∷ 1 ∷ 109 ∷ 0 ∷ 0 ∷ 0 ∷ 0 ∷ 1 ∷ 1 ∷ 109 ∷ 0 ∷ 0 ∷ 0 ∷ 0 ∷ [])
    ∷ wrong [] 0
    ∷ wrong (1 ∷ []) 1
    ∷ wrong (1 ∷ 0 ∷ 2 ∷ 1 ∷ 98 ∷ 1 ∷ 0 ∷ []) 7
    ∷ wrong (17 ∷ 0 ∷ []) 0
    ∷ wrong (1 ∷ 129 ∷ 4 ∷ []) 1
    ∷ wrong (1 ∷ 1 ∷ 1 ∷ 109 ∷ 65 ∷ []) 4
    ∷ wrong (1 ∷ 0 ∷ 1 ∷ 1 ∷ 98 ∷ 9 ∷ []) 5
    ∷ wrong (1 ∷ 0 ∷ 1 ∷ 1 ∷ 98 ∷ 0 ∷ []) 5
    ∷ wrong (1 ∷ 0 ∷ 0 ∷ 7 ∷ []) 3
    ∷ wrong (1 ∷ 2 ∷ 1 ∷ 109 ∷ 0 ∷ 0 ∷ 0 ∷ 1 ∷ 109 ∷ 99 ∷ []) 7
    ∷ wrong (1 ∷ 0 ∷ 2 ∷ 1 ∷ 98 ∷ 1 ∷ 0 ∷ 1 ∷ 98 ∷ 1 ∷ 0 ∷ []) 7
    ∷ wrong (1 ∷ 0 ∷ 1 ∷ 1 ∷ 98 ∷ 1 ∷ 2 ∷ 1 ∷ 115 ∷ 1 ∷ 115 ∷ []) 9
    ∷ []

right : T (all examples)
unfolding examples all holds is_fine is_wrong image_at library_at set_at import_only_at module_at new_name among same counted count_at many name_at name_body printable_at
    number_at groups
right = tt
