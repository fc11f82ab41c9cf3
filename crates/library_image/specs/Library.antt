-- The abstract library: sets of modules and import-only modules, in the image's order. What stands for a name is a parameter: a word, which is a name
-- with its place, as an image is read; or the bytes of the name alone.
-- Assumes nothing.
use Rattle.std.specs.Prelude.{ℕ, List, [], ◌∷◌, ◌++◌, map}
use Rattle.library_form.specs.Form.{PlacedName}

pub record ModuleOf (A : Type 0) : Type 0 where
  pub name : A
  pub submodules : List A
  pub augmenting : List A
  pub deviations : List A

-- each revision is its submodules
pub record ImportOnlyOf (A : Type 0) : Type 0 where
  pub name : A
  pub revisions : List (List A)

pub record SetOf (A : Type 0) : Type 0 where
  pub modules : List (ModuleOf A)
  pub import_only : List (ImportOnlyOf A)

abbrev pub LibraryOf : Type 0 → Type 0
LibraryOf A = List (SetOf A)

-- ---- over all sets

module _ {A : Type 0} where
  unfoldable pub modules_of : LibraryOf A → List (ModuleOf A)
  modules_of [] = []
  modules_of (s ∷ ss) = s.modules ++ modules_of ss

  unfoldable pub import_only_of : LibraryOf A → List (ImportOnlyOf A)
  import_only_of [] = []
  import_only_of (s ∷ ss) = s.import_only ++ import_only_of ss

  unfoldable pub submodules_of : List (ModuleOf A) → List A
  submodules_of [] = []
  submodules_of (m ∷ ms) = m.submodules ++ submodules_of ms

-- ---- as an image is read, and without places

abbrev pub Module : Type 0
Module = ModuleOf PlacedName

abbrev pub ImportOnly : Type 0
ImportOnly = ImportOnlyOf PlacedName

abbrev pub ModuleSet : Type 0
ModuleSet = SetOf PlacedName

abbrev pub Library : Type 0
Library = LibraryOf PlacedName

abbrev pub Name : Type 0
Name = List ℕ

abbrev pub PlainModule : Type 0
PlainModule = ModuleOf Name

abbrev pub PlainImportOnly : Type 0
PlainImportOnly = ImportOnlyOf Name

abbrev pub PlainSet : Type 0
PlainSet = SetOf Name

abbrev pub PlainLibrary : Type 0
PlainLibrary = LibraryOf Name

abbrev pub plain_name : PlacedName → Name
plain_name w = w.text

abbrev pub plain_module : Module → PlainModule
plain_module m = record {
  name = plain_name m.name;
  submodules = map plain_name m.submodules;
  augmenting = map plain_name m.augmenting;
  deviations = map plain_name m.deviations;
}

abbrev pub plain_import_only : ImportOnly → PlainImportOnly
plain_import_only m = record { name = plain_name m.name; revisions = map (map plain_name) m.revisions }

abbrev pub plain_set : ModuleSet → PlainSet
plain_set s = record { modules = map plain_module s.modules; import_only = map plain_import_only s.import_only }

abbrev pub plain : Library → PlainLibrary
plain l = map plain_set l
