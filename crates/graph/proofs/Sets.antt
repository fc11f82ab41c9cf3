-- What stands in some set stands over all sets, and the other way round: the lists over all sets are those of the sets, one after another.
-- Assumes nothing.
use mathlib.Core.Path.{◌≡◌, refl, sym, ap, subst}
use mathlib.Core.List.{List, [], ◌∷◌, ◌++◌, flat_map, Memᴰ}
use Rattle.library_image.specs.Library.{ModuleOf, ImportOnlyOf, SetOf, LibraryOf, modules_of, import_only_of, submodules_of}
use Rattle.graph.proofs.Tests.{each_in, each_out}

module _ {A : Type 0} where
  abbrev of_set : SetOf A → List (ModuleOf A)
  of_set s = s.modules

  abbrev only_of_set : SetOf A → List (ImportOnlyOf A)
  only_of_set s = s.import_only

  abbrev of_module : ModuleOf A → List A
  of_module m = m.submodules

  pub modules_flat : (l : LibraryOf A) → modules_of l ≡ flat_map (λ (s : SetOf A). s.modules) l
  unfolding modules_of flat_map
  modules_flat [] = refl
  modules_flat (s ∷ ss) = ap (λ t. s.modules ++ t) (modules_flat ss)

  pub import_only_flat : (l : LibraryOf A) → import_only_of l ≡ flat_map (λ (s : SetOf A). s.import_only) l
  unfolding import_only_of flat_map
  import_only_flat [] = refl
  import_only_flat (s ∷ ss) = ap (λ t. s.import_only ++ t) (import_only_flat ss)

  pub submodules_flat : (ms : List (ModuleOf A)) → submodules_of ms ≡ flat_map (λ (m : ModuleOf A). m.submodules) ms
  unfolding submodules_of flat_map
  submodules_flat [] = refl
  submodules_flat (m ∷ ms) = ap (λ t. m.submodules ++ t) (submodules_flat ms)

  pub module_in : (l : LibraryOf A) {s : SetOf A} {m : ModuleOf A} → Memᴰ s l → Memᴰ m s.modules → Memᴰ m (modules_of l)
  module_in l {m = m} k n = subst (λ t. Memᴰ m t) (sym (modules_flat l)) (each_in of_set k n)

  pub module_out : (l : LibraryOf A) {m : ModuleOf A} → Memᴰ m (modules_of l) → (s : SetOf A) × Memᴰ s l × Memᴰ m s.modules
  module_out l {m} n = each_out of_set l (subst (λ t. Memᴰ m t) (modules_flat l) n)

  pub import_only_in : (l : LibraryOf A) {s : SetOf A} {i : ImportOnlyOf A} → Memᴰ s l → Memᴰ i s.import_only → Memᴰ i (import_only_of l)
  import_only_in l {i = i} k n = subst (λ t. Memᴰ i t) (sym (import_only_flat l)) (each_in only_of_set k n)

  pub import_only_out : (l : LibraryOf A) {i : ImportOnlyOf A} → Memᴰ i (import_only_of l) → (s : SetOf A) × Memᴰ s l × Memᴰ i s.import_only
  import_only_out l {i} n = each_out only_of_set l (subst (λ t. Memᴰ i t) (import_only_flat l) n)

  pub submodule_in : (ms : List (ModuleOf A)) {m : ModuleOf A} {a : A} → Memᴰ m ms → Memᴰ a m.submodules → Memᴰ a (submodules_of ms)
  submodule_in ms {a = a} k n = subst (λ t. Memᴰ a t) (sym (submodules_flat ms)) (each_in of_module k n)

  pub submodule_out : (ms : List (ModuleOf A)) {a : A} → Memᴰ a (submodules_of ms) → (m : ModuleOf A) × Memᴰ m ms × Memᴰ a m.submodules
  submodule_out ms {a} n = each_out of_module ms (subst (λ t. Memᴰ a t) (submodules_flat ms) n)
