-- The library without places, list by list: what a walk over words asks of names it asks of the same names without places.
-- Assumes nothing.
use mathlib.Core.Path.{◌≡◌, refl, sym, ap, ap₂, ◌∙◌}
use mathlib.Core.Bool.{◌||◌}
use mathlib.Core.List.{List, [], ◌∷◌, ◌++◌, map, map-append, flat_map}
use Rattle.library_form.specs.Form.{PlacedName}
use Rattle.library_image.specs.Library.{Name, Module, ImportOnly, PlainModule, PlainImportOnly, Library, plain_name, plain_module, plain_import_only, plain}
use Rattle.library_image.specs.Library.{modules_of, import_only_of, submodules_of}
use Rattle.library_index.specs.Names.{among}
use Rattle.library_index.proofs.First.{among_append, among_map}
use Rattle.graph.specs.Nodes.{itself, memb}
use Rattle.graph.specs.Graph.{EntryOf, Entry, module_entry, import_entry, set_entries, entries, entry_names, submodule_names}
use Rattle.graph.proofs.WordNodes.{among_names}

-- ---- over all sets

pub plain_modules : (l : Library) → modules_of (plain l) ≡ map plain_module (modules_of l)
unfolding modules_of
plain_modules [] = refl
plain_modules (s ∷ l) = ap (λ t. map plain_module s.modules ++ t) (plain_modules l) ∙ sym (map-append plain_module s.modules (modules_of l))

pub plain_import_only_lem : (l : Library) → import_only_of (plain l) ≡ map plain_import_only (import_only_of l)
unfolding import_only_of
plain_import_only_lem [] = refl
plain_import_only_lem (s ∷ l) =
    ap (λ t. map plain_import_only s.import_only ++ t) (plain_import_only_lem l) ∙ sym (map-append plain_import_only s.import_only (import_only_of l))

submodules_plain : (ms : List Module) → submodules_of (map plain_module ms) ≡ map plain_name (submodules_of ms)
unfolding submodules_of
submodules_plain [] = refl
submodules_plain (m ∷ ms) = ap (λ t. map plain_name m.submodules ++ t) (submodules_plain ms) ∙ sym (map-append plain_name m.submodules (submodules_of ms))

pub plain_submodules : (l : Library) → submodule_names (plain l) ≡ map plain_name (submodules_of (modules_of l))
plain_submodules l = ap submodules_of (plain_modules l) ∙ submodules_plain (modules_of l)

-- ---- a name is among them

among_of : {A B : Type 0} (name : B → Name) (f : A → B) (u : Name) (l : List A) → memb u (map name (map f l)) ≡ among (λ a. name (f a)) u l
among_of name f u l = among_map itself name u (map f l) ∙ among_map name f u l

pub known_words : (u : Name) (l : Library)
    → memb u (entry_names (plain l)) ≡ (among (λ (m : Module). plain_name m.name) u (modules_of l)
    || among (λ (i : ImportOnly). plain_name i.name) u (import_only_of l))
known_words u l =
    among_append itself u (map (λ (m : PlainModule). m.name) (modules_of (plain l))) (map (λ (i : PlainImportOnly). i.name) (import_only_of (plain l)))
    ∙ ap₂ ◌||◌
    (ap (λ t. memb u (map (λ (m : PlainModule). m.name) t)) (plain_modules l) ∙ among_of (λ (m : PlainModule). m.name) plain_module u (modules_of l))
    (ap (λ t. memb u (map (λ (i : PlainImportOnly). i.name) t)) (plain_import_only_lem l)
    ∙ among_of (λ (i : PlainImportOnly). i.name) plain_import_only u (import_only_of l))

pub listed_words : (u : Name) (l : Library) → memb u (submodule_names (plain l)) ≡ among plain_name u (submodules_of (modules_of l))
listed_words u l = ap (memb u) (plain_submodules l) ∙ sym (among_names u (submodules_of (modules_of l)))

-- ---- the entries

abbrev pub plain_entry : EntryOf PlacedName → Entry
plain_entry e = record { name = plain_name e.name; lists = map plain_name e.lists }

module_entries : (ms : List Module) → map module_entry (map plain_module ms) ≡ map plain_entry (map module_entry ms)
module_entries [] = refl
module_entries (m ∷ ms) =
    let q = map-append plain_name m.augmenting m.deviations in
    let e : module_entry (plain_module m) ≡ plain_entry (module_entry m) = λ i. record { name = plain_name m.name; lists = sym q i } in
    ap₂ ◌∷◌ e (module_entries ms)

import_entries : (is : List ImportOnly) → map import_entry (map plain_import_only is) ≡ map plain_entry (map import_entry is)
import_entries [] = refl
import_entries (i ∷ is) = ap (λ t. import_entry (plain_import_only i) ∷ t) (import_entries is)

pub plain_entries : (l : Library) → entries (plain l) ≡ map plain_entry (entries l)
unfolding flat_map
plain_entries [] = refl
plain_entries (s ∷ l) =
    ap₂ ◌++◌
    (ap₂ ◌++◌ (module_entries s.modules) (import_entries s.import_only)
    ∙ sym (map-append plain_entry (map module_entry s.modules) (map import_entry s.import_only)))
    (plain_entries l)
    ∙ sym (map-append plain_entry (set_entries s) (entries l))
