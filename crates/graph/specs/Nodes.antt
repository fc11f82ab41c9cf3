-- Nodes, in order: per set, each module and then its submodules, then each import-only revision and its submodules. A name already a node adds nothing.
-- A module or import-only revision whose name is already a node is passed over with its submodules. In the second mode (request 2026-02) its submodules are
-- still gone through.
-- Assumes nothing.
use Rattle.std.specs.Prelude.{Bool, true, false, cond}
use mathlib.Core.List.{List, [], ◌∷◌, ◌++◌, map, flat_map}
use Rattle.library_form.specs.Form.{PlacedName}
use Rattle.library_index.specs.Names.{among, add_all}
use Rattle.library_image.specs.Library.{ModuleOf, ImportOnlyOf, SetOf, LibraryOf, Name, PlainLibrary, Library, plain_name}

-- what becomes of a module or import-only revision whose name is already a node: it is passed over with its submodules, as the Rust does; or it is not added
-- again, and its submodules are gone through
pub data Mode : Type 0 where
  pass_over : Mode
  complete : Mode

-- as code is told it
abbrev pub mode_of : (complete : Bool) → Mode
mode_of true = complete
mode_of false = pass_over

-- ---- what goes in together: a module or an import-only revision, and its submodules

pub record Group (A : Type 0) : Type 0 where
  pub head : A
  pub subs : List A

module _ {A : Type 0} where
  abbrev pub module_group : ModuleOf A → Group A
  module_group m = record { head = m.name; subs = m.submodules }

  abbrev pub revision_groups : ImportOnlyOf A → List (Group A)
  revision_groups i = map (λ (subs : List A). record { head = i.name; subs = subs }) i.revisions

  abbrev pub set_groups : SetOf A → List (Group A)
  set_groups s = map module_group s.modules ++ flat_map revision_groups s.import_only

  abbrev pub groups : LibraryOf A → List (Group A)
  groups l = flat_map set_groups l

-- ---- one after another; a name already a node adds nothing (add_all)

module _ {A : Type 0} (name : A → Name) where
  abbrev pub add_group : Mode → List A → Group A → List A
  add_group pass_over ns g = cond (among name (name g.head) ns) ns (add_all name (ns ++ (g.head ∷ [])) g.subs)
  add_group complete ns g = add_all name ns (g.head ∷ g.subs)

  unfoldable pub add_groups : Mode → List A → List (Group A) → List A
  add_groups mode ns [] = ns
  add_groups mode ns (g ∷ gs) = add_groups mode (add_group mode ns g) gs

  unfoldable pub nodes_by : Mode → LibraryOf A → List A
  nodes_by mode l = add_groups mode [] (groups l)

-- the nodes, each with the place where it was added; and their names alone
abbrev pub word_nodes : Mode → Library → List PlacedName
word_nodes mode l = nodes_by plain_name mode l

abbrev pub itself : Name → Name
itself u = u

abbrev pub nodes_of : Mode → PlainLibrary → List Name
nodes_of mode l = nodes_by itself mode l

abbrev pub memb : Name → List Name → Bool
memb u l = among itself u l
