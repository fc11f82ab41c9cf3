-- A find answers 20, nothing, or the place of the first hit's first name byte (import-only: and revision count). find_module and find_import_module
-- look through the sets, find_submodule through sets, modules and submodules; import-only modules' submodules don't count.
-- Assumes nothing.
use Rattle.std.specs.Prelude.{ℕ, List, length, Err, Ok, None, Some, Result, Option}
use Rattle.library_form.specs.Form.{PlacedName}
use Rattle.library_index.specs.Names.{first_by}
use Rattle.library_image.specs.Library.{Module, ImportOnly, Library, modules_of, submodules_of, import_only_of}
use Rattle.library_image.specs.Image.{image_at}
use Rattle.library_lists.specs.Lists.{on_ans}

-- ---- the searches in the library

-- a module and a submodule have no revisions to tell of
abbrev pub word_found : PlacedName → Result (Option (ℕ × ℕ)) ℕ
word_found w = Ok (Some (w.place, 0))

abbrev pub module_found : Module → Result (Option (ℕ × ℕ)) ℕ
module_found m = word_found m.name

abbrev pub import_found : ImportOnly → Result (Option (ℕ × ℕ)) ℕ
import_found m = Ok (Some (m.name.place, (length m.revisions)))

abbrev pub first_module : List ℕ → Library → Result (Option (ℕ × ℕ)) ℕ
first_module t l = first_by (λ (m : Module). m.name) module_found t (modules_of l) (Ok None)

abbrev pub first_submodule : List ℕ → Library → Result (Option (ℕ × ℕ)) ℕ
first_submodule t l = first_by (λ (w : PlacedName). w) word_found t (submodules_of (modules_of l)) (Ok None)

abbrev pub first_import_only : List ℕ → Library → Result (Option (ℕ × ℕ)) ℕ
first_import_only t l = first_by (λ (m : ImportOnly). m.name) import_found t (import_only_of l) (Ok None)

-- ---- the finds: in an image that is broken, 20 and its place

abbrev pub find_in : (Library → Result (Option (ℕ × ℕ)) ℕ) → List ℕ → Result (Option (ℕ × ℕ)) ℕ
find_in f s = on_ans (image_at s) (λ l n. f l) (λ p. Err p)

unfoldable pub find_module : (image name : List ℕ) → Result (Option (ℕ × ℕ)) ℕ
find_module s t = find_in (first_module t) s

unfoldable pub find_submodule : (image name : List ℕ) → Result (Option (ℕ × ℕ)) ℕ
find_submodule s t = find_in (first_submodule t) s

unfoldable pub find_import_module : (image name : List ℕ) → Result (Option (ℕ × ℕ)) ℕ
find_import_module s t = find_in (first_import_only t) s
