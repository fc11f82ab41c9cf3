-- Worked examples: each find computes what stands beside it.
-- Assumes nothing.
use Rattle.std.specs.Prelude.{Err, Ok, None, Some}
use mathlib.Core.Path.{◌≡◌, refl}
use mathlib.Core.List.{List, [], ◌∷◌}
use Prim.Native.Nat.{ℕ}
use Rattle.text.specs.Keyword.{same}
use Rattle.library_form.specs.Form.{groups, number_at, printable_at, name_body, name_at, many}
use Rattle.library_index.specs.Names.{among, new_name}
use Rattle.library_image.specs.Library.{modules_of, submodules_of, import_only_of}
use Rattle.library_image.specs.Image.{count_at, counted, module_at, import_only_at, set_at, library_at, image_at}
use Rattle.library_find.specs.Find.{find_module, find_submodule, find_import_module}

-- a, b, c, m
abbrev a : List ℕ
a = 97 ∷ []

abbrev b : List ℕ
b = 98 ∷ []

abbrev c : List ℕ
c = 99 ∷ []

abbrev m : List ℕ
m = 109 ∷ []

-- two sets. The first: a module m with the submodule a; no import-only module. The second: a module m with the submodules b and a; an import-only
-- module b with two revisions, the first of which has the submodule c
abbrev two : List ℕ
two =
    2 ∷ 1 ∷ 1 ∷ 109 ∷ 1 ∷ 1 ∷ 97 ∷ 0 ∷ 0 ∷ 0
    ∷ 1 ∷ 1 ∷ 109 ∷ 2 ∷ 1 ∷ 98 ∷ 1 ∷ 97 ∷ 0 ∷ 0
    ∷ 1 ∷ 1 ∷ 98 ∷ 2 ∷ 1 ∷ 1 ∷ 99 ∷ 0 ∷ []

-- ---- the first hit wins

first_module : find_module two m ≡ Ok (Some (3, 0))
unfolding find_module image_at library_at counted count_at number_at groups many set_at module_at import_only_at new_name among name_at name_body printable_at same modules_of
first_module = refl

first_submodule : find_submodule two a ≡ Ok (Some (6, 0))
unfolding find_submodule image_at library_at counted count_at number_at groups many set_at module_at import_only_at new_name among name_at name_body printable_at same
    modules_of submodules_of
first_submodule = refl

-- ---- of any set

later_submodule : find_submodule two b ≡ Ok (Some (15, 0))
unfolding find_submodule image_at library_at counted count_at number_at groups many set_at module_at import_only_at new_name among name_at name_body printable_at same
    modules_of submodules_of
later_submodule = refl

-- an import-only module, with its revisions
import_only : find_import_module two b ≡ Ok (Some (22, 2))
unfolding find_import_module image_at library_at counted count_at number_at groups many set_at module_at import_only_at new_name among name_at name_body printable_at same
    import_only_of
import_only = refl

-- ---- each find looks for its own

-- an import-only module is no module, and a module no import-only module
no_module : find_module two b ≡ (Ok None)
unfolding find_module image_at library_at counted count_at number_at groups many set_at module_at import_only_at new_name among name_at name_body printable_at same modules_of
no_module = refl

no_import_only : find_import_module two m ≡ (Ok None)
unfolding find_import_module image_at library_at counted count_at number_at groups many set_at module_at import_only_at new_name among name_at name_body printable_at same
    import_only_of
no_import_only = refl

-- a submodule of an import-only module does not count
no_submodule : find_submodule two c ≡ (Ok None)
unfolding find_submodule image_at library_at counted count_at number_at groups many set_at module_at import_only_at new_name among name_at name_body printable_at same
    modules_of submodules_of
no_submodule = refl

-- no name is empty
no_name : find_module two [] ≡ (Ok None)
unfolding find_module image_at library_at counted count_at number_at groups many set_at module_at import_only_at new_name among name_at name_body printable_at same modules_of
no_name = refl

no_sets : find_module (0 ∷ []) m ≡ (Ok None)
unfolding find_module image_at library_at counted count_at number_at groups many modules_of
no_sets = refl

-- ---- a broken image is told, though what is sought stands before the fault: here a byte too many, and then no import-only modules

extra : find_module (1 ∷ 1 ∷ 1 ∷ 109 ∷ 0 ∷ 0 ∷ 0 ∷ 0 ∷ 7 ∷ []) m ≡ Err 8
unfolding find_module image_at library_at counted count_at number_at groups many set_at module_at new_name among name_at name_body printable_at
extra = refl

cut_short : find_submodule (1 ∷ 1 ∷ 1 ∷ 109 ∷ 1 ∷ 1 ∷ 97 ∷ 0 ∷ 0 ∷ []) a ≡ Err 9
unfolding find_submodule image_at library_at counted count_at number_at groups many set_at module_at new_name among name_at name_body printable_at
cut_short = refl

empty_image : find_import_module [] b ≡ Err 0
unfolding find_import_module image_at library_at counted count_at number_at groups
empty_image = refl
