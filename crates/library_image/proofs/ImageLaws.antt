-- What is accepted is what the writer writes, and reading what it writes gives the library back: from the laws of names, and of counted lists of what
-- is lawful.
-- Assumes nothing.
use mathlib.Core.Path.{◌≡◌, refl, sym, ap, ◌∙◌, subst}
use mathlib.Core.List.{List, [], ◌++◌, map, map-map, append-nil}
use mathlib.Core.Bool.{cond}
use Prim.Native.Nat.{ℕ, ◌+◌, ◌-◌, ◌≤◌, ◌<◌}
use native.Mathlib.Omega.{arith}
use lib.ListN.{length, take, length-append}
use lib.Seq.{take_all}
use lib.Dec.{ltb}
use borrow.Author.Tests.{lt-ltb, le-ltb, ltb-false}
use Rattle.library_form.specs.Form.{good, bad, bind, PlacedName, name_at}
use Rattle.library_form.specs.Writer.{write_number, write_name, AllBytes}
use Rattle.library_form.proofs.WriterLaws.{name_bytes}
use Rattle.library_index.specs.Names.{memb, new_name}
use Rattle.library_image.specs.Library.{Module, ImportOnly, ModuleSet, Library, Name, PlainModule, PlainImportOnly, PlainSet, PlainLibrary, plain_name}
use Rattle.library_image.specs.Library.{plain_module, plain_import_only, plain_set, plain}
use Rattle.library_image.specs.Image.{most_image, most_sets, most_modules, most_names, least_revisions, most_revisions, counted, any_word, new_word, module_at}
use Rattle.library_image.specs.Image.{revision_at, import_only_at, set_at, library_at, image_at}
use Rattle.library_image.specs.ImageWriter.{write_list, write_module, write_import_only, write_set, write_image, Listed, AnyName, NewName, FormedModule}
use Rattle.library_image.specs.ImageWriter.{FormedRevision, FormedImportOnly, FormedSet, Formed}
use Rattle.library_form.proofs.Standing.{wrote_join, name_wrote, Stands, stands_left, stands_right, name_stands}
use Rattle.library_image.proofs.Steps.{on_good, bind_good, passed, carry}
use Rattle.library_image.proofs.Differ.{none_of, not_among}
use Rattle.library_image.proofs.Lawful.{Forth, Back, Lawful, counted_lawful}

-- ---- names

any_lawful : Lawful any_word plain_name write_name AnyName
any_lawful = record {
  forth = λ s bytes seen at e. record { wrote = name_wrote s bytes at e; right = name_bytes s at e };
  back = λ s seen at b rest h t. record {
    value = record { place = at + length (write_number (length b)); size = length b; text = b };
    plain = refl;
    read = name_stands s at b rest h t;
  };
}

new_forth : (s : List ℕ) → AllBytes s → (before : List PlacedName) (at : ℕ) {w : PlacedName} {n : ℕ} → new_name s before at ≡ good w n
    → Forth write_name NewName s (map plain_name before) at w.text n
unfolding new_name
new_forth s bytes before at e =
    on_good (name_at s at) _ e (λ v m e₁ e₂.
    let g = passed (memb v.text before) at (good v m) e₂ in
    carry (λ w n. Forth write_name NewName s (map plain_name before) at w.text n) g.1
    (record { wrote = name_wrote s bytes at e₁; right = (name_bytes s at e₁, none_of v.text before g.0) }))

new_back : (s : List ℕ) (before : List PlacedName) (at : ℕ) (b : Name) (rest : List ℕ) → NewName (map plain_name before) b → Stands s at (write_name b) rest
    → Back new_word plain_name write_name s before at b
unfolding new_name
new_back s before at b rest h t = record {
  value = record { place = at + length (write_number (length b)); size = length b; text = b };
  plain = refl;
  read = rw (name_stands s at b rest h.0 t, not_among b before h.1);
}

new_lawful : Lawful new_word plain_name write_name NewName
new_lawful = record { forth = new_forth; back = new_back }

-- ---- lists of names

names_lawful : Lawful (λ s seen at. counted 0 most_names any_word s at) (map plain_name) (write_list write_name) (λ before. Listed 0 most_names AnyName)
names_lawful = counted_lawful any_lawful 0 most_names (omega arith)

revision_lawful : Lawful revision_at (map plain_name) (write_list write_name) FormedRevision
revision_lawful = counted_lawful new_lawful 0 most_names (omega arith)

revisions_lawful : Lawful (λ s seen at. counted least_revisions most_revisions revision_at s at) (map (map plain_name)) (write_list (write_list write_name))
    (λ before. Listed least_revisions most_revisions FormedRevision)
revisions_lawful = counted_lawful revision_lawful least_revisions most_revisions (omega arith)

-- ---- a module

module_forth : (s : List ℕ) → AllBytes s → (seen : List Module) (at : ℕ) {m : Module} {n : ℕ} → module_at s seen at ≡ good m n
    → Forth write_module FormedModule s (map plain_module seen) at (plain_module m) n
unfolding module_at write_module
module_forth s bytes seen at e =
    on_good (new_name s (map (λ (m : Module). m.name) seen) at) _ e (λ w n₁ e₁ f₁.
    on_good (counted 0 most_names any_word s n₁) _ f₁ (λ a n₂ e₂ f₂.
    on_good (counted 0 most_names any_word s n₂) _ f₂ (λ b n₃ e₃ f₃.
    on_good (counted 0 most_names any_word s n₃) _ f₃ (λ c n₄ e₄ f₄.
    let h₁ = new_forth s bytes (map (λ (m : Module). m.name) seen) at e₁ in
    let h₂ = names_lawful.forth s bytes [] n₁ e₂ in
    let h₃ = names_lawful.forth s bytes [] n₂ e₃ in
    let h₄ = names_lawful.forth s bytes [] n₃ e₄ in
    carry (λ m n. Forth write_module FormedModule s (map plain_module seen) at (plain_module m) n) f₄
    (record {
      wrote = wrote_join s at n₁ n₄ h₁.wrote (wrote_join s n₁ n₂ n₄ h₂.wrote (wrote_join s n₂ n₃ n₄ h₃.wrote h₄.wrote));
      right = record {
        name = simp map-map (simp map-map at h₁.right);
        submodules = h₂.right;
        augmenting = h₃.right;
        deviations = h₄.right;
      };
    })))))

module_back : (s : List ℕ) (seen : List Module) (at : ℕ) (b : PlainModule) (rest : List ℕ) → FormedModule (map plain_module seen) b
    → Stands s at (write_module b) rest
    → Back module_at plain_module write_module s seen at b
unfolding module_at write_module
module_back s seen at b rest h t =
    let w₁ = write_name b.name in
    let w₂ = write_list write_name b.submodules in
    let w₃ = write_list write_name b.augmenting in
    let w₄ = write_list write_name b.deviations in
    let n₁ = at + length w₁ in
    let n₂ = n₁ + length w₂ in
    let n₃ = n₂ + length w₃ in
    let t₁ = stands_right s at w₁ (w₂ ++ (w₃ ++ w₄)) rest t in
    let t₂ = stands_right s n₁ w₂ (w₃ ++ w₄) rest t₁ in
    let t₃ = stands_right s n₂ w₃ w₄ rest t₂ in
    let new : NewName (map plain_name (map (λ (m : Module). m.name) seen)) b.name = simp map-map (simp map-map at h.name) in
    let r₁ = new_back s (map (λ (m : Module). m.name) seen) at b.name (w₂ ++ (w₃ ++ w₄) ++ rest) new (stands_left s at w₁ (w₂ ++ (w₃ ++ w₄)) rest t) in
    let r₂ = names_lawful.back s [] n₁ b.submodules (w₃ ++ w₄ ++ rest) h.submodules (stands_left s n₁ w₂ (w₃ ++ w₄) rest t₁) in
    let r₃ = names_lawful.back s [] n₂ b.augmenting (w₄ ++ rest) h.augmenting (stands_left s n₂ w₃ w₄ rest t₂) in
    let r₄ = names_lawful.back s [] n₃ b.deviations rest h.deviations t₃ in
    let l₁ = length-append w₁ (w₂ ++ (w₃ ++ w₄)) in
    let l₂ = length-append w₂ (w₃ ++ w₄) in
    let l₃ = length-append w₃ w₄ in
    let d : n₃ + length w₄ ≡ at + length (w₁ ++ (w₂ ++ (w₃ ++ w₄))) = omega (arith, l₁, l₂, l₃) in
    let m : Module = record { name = r₁.value; submodules = r₂.value; augmenting = r₃.value; deviations = r₄.value } in
    record {
      value = m;
      plain = rw (r₁.plain, r₂.plain, r₃.plain, r₄.plain);
      read = bind_good _ r₁.read (bind_good _ r₂.read (bind_good _ r₃.read (bind_good _ r₄.read (ap (good m) d))));
    }

module_lawful : Lawful module_at plain_module write_module FormedModule
module_lawful = record { forth = module_forth; back = module_back }

modules_lawful : Lawful (λ s seen at. counted 0 most_modules module_at s at) (map plain_module) (write_list write_module)
    (λ before. Listed 0 most_modules FormedModule)
modules_lawful = counted_lawful module_lawful 0 most_modules (omega arith)

-- ---- an import-only module

import_only_forth : (s : List ℕ) → AllBytes s → (seen : List ImportOnly) (at : ℕ) {m : ImportOnly} {n : ℕ} → import_only_at s seen at ≡ good m n
    → Forth write_import_only FormedImportOnly s (map plain_import_only seen) at (plain_import_only m) n
unfolding import_only_at write_import_only
import_only_forth s bytes seen at e =
    on_good (new_name s (map (λ (m : ImportOnly). m.name) seen) at) _ e (λ w n₁ e₁ f₁.
    on_good (counted least_revisions most_revisions revision_at s n₁) _ f₁ (λ a n₂ e₂ f₂.
    let h₁ = new_forth s bytes (map (λ (m : ImportOnly). m.name) seen) at e₁ in
    let h₂ = revisions_lawful.forth s bytes [] n₁ e₂ in
    carry (λ m n. Forth write_import_only FormedImportOnly s (map plain_import_only seen) at (plain_import_only m) n) f₂
    (record {
      wrote = wrote_join s at n₁ n₂ h₁.wrote h₂.wrote;
      right = record {
        name = simp map-map (simp map-map at h₁.right);
        revisions = h₂.right;
      };
    })))

import_only_back : (s : List ℕ) (seen : List ImportOnly) (at : ℕ) (b : PlainImportOnly) (rest : List ℕ) → FormedImportOnly (map plain_import_only seen) b
    → Stands s at (write_import_only b) rest → Back import_only_at plain_import_only write_import_only s seen at b
unfolding import_only_at write_import_only
import_only_back s seen at b rest h t =
    let w₁ = write_name b.name in
    let w₂ = write_list (write_list write_name) b.revisions in
    let n₁ = at + length w₁ in
    let new : NewName (map plain_name (map (λ (m : ImportOnly). m.name) seen)) b.name = simp map-map (simp map-map at h.name) in
    let r₁ = new_back s (map (λ (m : ImportOnly). m.name) seen) at b.name (w₂ ++ rest) new (stands_left s at w₁ w₂ rest t) in
    let r₂ = revisions_lawful.back s [] n₁ b.revisions rest h.revisions (stands_right s at w₁ w₂ rest t) in
    let d : n₁ + length w₂ ≡ at + length (w₁ ++ w₂) = omega (arith, length-append w₁ w₂) in
    let m : ImportOnly = record { name = r₁.value; revisions = r₂.value } in
    record { value = m; plain = rw (r₁.plain, r₂.plain); read = bind_good _ r₁.read (bind_good _ r₂.read (ap (good m) d)) }

import_only_lawful : Lawful import_only_at plain_import_only write_import_only FormedImportOnly
import_only_lawful = record { forth = import_only_forth; back = import_only_back }

imports_lawful : Lawful (λ s seen at. counted 0 most_modules import_only_at s at) (map plain_import_only) (write_list write_import_only)
    (λ before. Listed 0 most_modules FormedImportOnly)
imports_lawful = counted_lawful import_only_lawful 0 most_modules (omega arith)

-- ---- a set

set_forth : (s : List ℕ) → AllBytes s → (seen : List ModuleSet) (at : ℕ) {m : ModuleSet} {n : ℕ} → set_at s seen at ≡ good m n
    → Forth write_set FormedSet s (map plain_set seen) at (plain_set m) n
unfolding set_at write_set
set_forth s bytes seen at e =
    on_good (counted 0 most_modules module_at s at) _ e (λ a n₁ e₁ f₁.
    on_good (counted 0 most_modules import_only_at s n₁) _ f₁ (λ b n₂ e₂ f₂.
    let h₁ = modules_lawful.forth s bytes [] at e₁ in
    let h₂ = imports_lawful.forth s bytes [] n₁ e₂ in
    carry (λ m n. Forth write_set FormedSet s (map plain_set seen) at (plain_set m) n) f₂
    (record { wrote = wrote_join s at n₁ n₂ h₁.wrote h₂.wrote; right = record { modules = h₁.right; import_only = h₂.right } })))

set_back : (s : List ℕ) (seen : List ModuleSet) (at : ℕ) (b : PlainSet) (rest : List ℕ) → FormedSet (map plain_set seen) b → Stands s at (write_set b) rest
    → Back set_at plain_set write_set s seen at b
unfolding set_at write_set
set_back s seen at b rest h t =
    let w₁ = write_list write_module b.modules in
    let w₂ = write_list write_import_only b.import_only in
    let n₁ = at + length w₁ in
    let r₁ = modules_lawful.back s [] at b.modules (w₂ ++ rest) h.modules (stands_left s at w₁ w₂ rest t) in
    let r₂ = imports_lawful.back s [] n₁ b.import_only rest h.import_only (stands_right s at w₁ w₂ rest t) in
    let d : n₁ + length w₂ ≡ at + length (w₁ ++ w₂) = omega (arith, length-append w₁ w₂) in
    let m : ModuleSet = record { modules = r₁.value; import_only = r₂.value } in
    record { value = m; plain = rw (r₁.plain, r₂.plain); read = bind_good _ r₁.read (bind_good _ r₂.read (ap (good m) d)) }

set_lawful : Lawful set_at plain_set write_set FormedSet
set_lawful = record { forth = set_forth; back = set_back }

sets_lawful : Lawful (λ s seen at. counted 0 most_sets set_at s at) plain (write_list write_set) (λ before. Listed 0 most_sets FormedSet)
sets_lawful = counted_lawful set_lawful 0 most_sets (omega arith)

-- ---- the image

-- one that is too long is wrong at 0
pub image_long : (s : List ℕ) → most_image < length s → image_at s ≡ bad 0
unfolding image_at
image_long s h = rw (lt-ltb most_image (length s) h)

-- an image that is accepted is not too long, and its library's sets end where it ends
pub record Accepted (s : List ℕ) (l : Library) (n : ℕ) : Type 0 where
  pub short : length s ≤ most_image
  pub read : library_at s 0 ≡ good l n
  pub end : length s ≤ n

pub accepted : (s : List ℕ) {l : Library} {n : ℕ} → image_at s ≡ good l n → Accepted s l n
unfolding image_at
accepted s e =
    let g = passed (ltb most_image (length s)) 0 (bind (library_at s 0) (λ l n. cond (ltb n (length s)) (bad n) (good l n))) e in
    let i = ltb-false most_image (length s) g.0 in
    on_good (library_at s 0) _ g.1 (λ k m e₁ e₂.
    let h = passed (ltb m (length s)) m (good k m) e₂ in
    carry (λ l n. Accepted s l n) h.1 (record { short = i; read = e₁; end = ltb-false m (length s) h.0 }))

-- what is accepted is what the writer writes
pub image_written : (s : List ℕ) {l : Library} {n : ℕ} → image_at s ≡ good l n → AllBytes s → s ≡ write_image (plain l)
unfolding library_at write_image
image_written s {l} {n} e bytes =
    let a = accepted s e in
    let h = sets_lawful.forth s bytes [] 0 a.read in
    let z : n - 0 ≡ n = omega arith in
    sym (take_all n s a.end) ∙ ap (λ x. take x s) (sym z) ∙ h.wrote.bytes

-- and is formed
pub image_formed : (s : List ℕ) {l : Library} {n : ℕ} → image_at s ≡ good l n → AllBytes s → Formed (plain l)
unfolding library_at
image_formed s {l} {n} e bytes =
    let a = accepted s e in
    record {
      sets = (sets_lawful.forth s bytes [] 0 a.read).right;
      short = subst (λ x. length x ≤ most_image) (image_written s e bytes) a.short;
    }

-- what is written is read back
pub image_back : (l : PlainLibrary) → Formed l → (k : Library) × (n : ℕ) × (image_at (write_image l) ≡ good k n) × (plain k ≡ l)
unfolding image_at library_at write_image
image_back l h =
    let s = write_list write_set l in
    let i = h.short in
    let t : Stands s 0 s [] = record { inside = omega arith; bytes = sym (append-nil s) } in
    let r = sets_lawful.back s [] 0 l [] h.sets t in
    let k = r.value in
    let m = 0 + length s in
    let j : length s ≤ m = omega arith in (
      k,
      m,
      rw (le-ltb most_image (length s) i, r.read, le-ltb m (length s) j),
      r.plain,
    )
