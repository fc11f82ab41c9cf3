-- A library as one list of names in the image's order, each with what it is. Nodes, marks and the walk of the entries go through this list.
-- Assumes nothing.
use Rattle.std.specs.Prelude.{ℕ, cond, eqb}
use mathlib.Core.List.{List, [], ◌∷◌, ◌++◌, map, flat_map}
use Rattle.library_form.specs.Form.{PlacedName}
use Rattle.library_image.specs.Library.{ModuleOf, ImportOnlyOf, SetOf, LibraryOf, Library}
use Rattle.library_image.specs.Image.{image_at}
use Rattle.library_lists.specs.Lists.{on_ans}
use Rattle.library_items.specs.declared.Kind.{Kind}
use Rattle.library_items.specs.declared.Kind.TheVariants.{Module, Submodule, Augmenting, Deviation, ImportOnly, FirstSub, LaterSub, NoName}

-- ---- what a name is

abbrev pub module_kind : Kind
module_kind = Module

abbrev pub submodule_kind : Kind
submodule_kind = Submodule

abbrev pub augmenting_kind : Kind
augmenting_kind = Augmenting

abbrev pub deviation_kind : Kind
deviation_kind = Deviation

abbrev pub import_only_kind : Kind
import_only_kind = ImportOnly

-- a submodule of an import-only module's first revision, and of a later one
abbrev pub first_sub_kind : Kind
first_sub_kind = FirstSub

abbrev pub later_sub_kind : Kind
later_sub_kind = LaterSub

-- its number in a table, and the kind that a number stands for: each of the eight numbers has its own, so that a word tells its kind and a kind its word. No
-- name is of the last kind
abbrev pub number_of : Kind → ℕ
number_of Module = 0
number_of Submodule = 1
number_of Augmenting = 2
number_of Deviation = 3
number_of ImportOnly = 4
number_of FirstSub = 5
number_of LaterSub = 6
number_of NoName = 7

abbrev pub kind_of : ℕ → Kind
kind_of k =
    cond (eqb k 0) Module
    (cond (eqb k 1) Submodule
    (cond (eqb k 2) Augmenting
    (cond (eqb k 3) Deviation
    (cond (eqb k 4) ImportOnly
    (cond (eqb k 5) FirstSub
    (cond (eqb k 6) LaterSub NoName))))))

pub record ItemOf (A : Type 0) : Type 0 where
  pub kind : Kind
  pub name : A

module _ {A : Type 0} where
  abbrev pub item : Kind → A → ItemOf A
  item k a = record { kind = k; name = a }

  -- ---- in order

  abbrev pub module_items : ModuleOf A → List (ItemOf A)
  module_items m =
      item module_kind m.name
      ∷ (map (item submodule_kind) m.submodules ++ (map (item augmenting_kind) m.augmenting ++ map (item deviation_kind) m.deviations))

  abbrev pub later_items : List (List A) → List (ItemOf A)
  later_items rs = flat_map (map (item later_sub_kind)) rs

  abbrev pub revision_items : List (List A) → List (ItemOf A)
  revision_items [] = []
  revision_items (r ∷ rs) = map (item first_sub_kind) r ++ later_items rs

  abbrev pub import_items : ImportOnlyOf A → List (ItemOf A)
  import_items i = item import_only_kind i.name ∷ revision_items i.revisions

  abbrev pub set_items : SetOf A → List (ItemOf A)
  set_items s = flat_map module_items s.modules ++ flat_map import_items s.import_only

  unfoldable pub items_of : LibraryOf A → List (ItemOf A)
  items_of l = flat_map set_items l

-- ---- of an image; one that breaks its form has none

unfoldable pub library_of : List ℕ → Library
library_of s = on_ans (image_at s) (λ l n. l) (λ p. [])

abbrev pub items_at : List ℕ → List (ItemOf PlacedName)
items_at s = items_of (library_of s)
