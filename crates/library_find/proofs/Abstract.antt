-- The issue's law without code: on a well-formed image the search over the bytes is the search in the abstract library. Each part of the image is
-- passed over the same bytes that it is read from.
-- Assumes nothing.
use Rattle.std.specs.Prelude.{Ok, None, Some, Result, Option}
use mathlib.Core.Path.{◌≡◌, refl, sym, ap, ap₂, ◌∙◌}
use mathlib.Core.List.{List, [], ◌∷◌, map}
use mathlib.Core.Bool.{Bool, true, false, cond}
use Prim.Native.Nat.{ℕ, ◌≤◌}
use native.Mathlib.Omega.{arith}
use lib.ListN.{length}
use Rattle.text.specs.Keyword.{same}
use Rattle.library_form.specs.Form.{good, PlacedName, number_at, name_at}
use Rattle.library_form.proofs.Bounds.{name_end}
use Rattle.library_index.specs.Names.{new_name}
use Rattle.library_image.specs.Library.{Module, ImportOnly, ModuleSet, Library, modules_of, submodules_of, import_only_of}
use Rattle.library_image.specs.Image.{most_sets, most_modules, most_names, least_revisions, most_revisions, counted, any_word, module_at, revision_at}
use Rattle.library_image.specs.Image.{import_only_at, set_at, library_at, image_at}
use Rattle.library_image.proofs.Steps.{on_good, bind_good, carry, count_good}
use Rattle.library_image.proofs.ImageLaws.{accepted}
use Rattle.library_lists.specs.Lists.{done, list_at, rest_at}
use Rattle.library_index.proofs.Taking.{new_read}
use Rattle.library_find.specs.Find.{first_module, first_submodule, first_import_only}
use Rattle.library_search.specs.Search.{and_then, past, found_by, submodule_count, lists_behind, hit_at, entry_tried, entries_tried, set_tried, sets_tried}
use Rattle.library_search.specs.Search.{word_tried, submodules_tried, set_submodules_tried, all_submodules_tried}
use Rattle.library_search.specs.Search.{Tried}
use Rattle.std.proofs.Common.{Continue, Break}
use Rattle.library_find.proofs.Lists.{or_else, first_hit, or_nothing, none_hit, hit_append, look_for, hit_by, HitIn, Fine, or_fine, as_tried, found_tried}
use Rattle.library_find.proofs.Lists.{and_then_lem, Passed, Passing, listed, list_tried_lem, on_read}

-- ---- what is looked for

abbrev word_look : List ℕ → PlacedName → Result (Option (ℕ × ℕ)) ℕ
word_look t = look_for (λ (w : PlacedName). w) (λ w. w.place) (λ w. 0) t

abbrev module_look : List ℕ → Module → Result (Option (ℕ × ℕ)) ℕ
module_look t = look_for (λ (m : Module). m.name) (λ m. m.name.place) (λ m. 0) t

abbrev import_look : List ℕ → ImportOnly → Result (Option (ℕ × ℕ)) ℕ
import_look t = look_for (λ (m : ImportOnly). m.name) (λ m. m.name.place) (λ m. length m.revisions) t

abbrev submodule_look : List ℕ → Module → Result (Option (ℕ × ℕ)) ℕ
submodule_look t m = first_hit (word_look t) m.submodules

-- ---- an entry that was read, by its parts

record ModuleParts (s : List ℕ) (at : ℕ) (m : Module) (n : ℕ) : Type 0 where
  n₁ : ℕ
  n₂ : ℕ
  n₃ : ℕ
  name : name_at s at ≡ good m.name n₁
  submodules : counted 0 most_names any_word s n₁ ≡ good m.submodules n₂
  augmenting : counted 0 most_names any_word s n₂ ≡ good m.augmenting n₃
  deviations : counted 0 most_names any_word s n₃ ≡ good m.deviations n

module_parts : (s : List ℕ) (seen : List Module) (at : ℕ) {m : Module} {n : ℕ} → module_at s seen at ≡ good m n → ModuleParts s at m n
unfolding module_at
module_parts s seen at e =
    on_good (new_name s (map (λ (m : Module). m.name) seen) at) _ e (λ w n₁ e₁ f₁.
    on_good (counted 0 most_names any_word s n₁) _ f₁ (λ a n₂ e₂ f₂.
    on_good (counted 0 most_names any_word s n₂) _ f₂ (λ b n₃ e₃ f₃.
    on_good (counted 0 most_names any_word s n₃) _ f₃ (λ c n₄ e₄ f₄.
    carry (λ m n. ModuleParts s at m n) f₄
    (record { n₁ = n₁; n₂ = n₂; n₃ = n₃; name = (new_read s _ at e₁).0; submodules = e₂; augmenting = e₃; deviations = e₄ })))))

record ImportParts (s : List ℕ) (at : ℕ) (m : ImportOnly) (n : ℕ) : Type 0 where
  n₁ : ℕ
  name : name_at s at ≡ good m.name n₁
  revisions : counted least_revisions most_revisions revision_at s n₁ ≡ good m.revisions n

import_parts : (s : List ℕ) (seen : List ImportOnly) (at : ℕ) {m : ImportOnly} {n : ℕ} → import_only_at s seen at ≡ good m n → ImportParts s at m n
unfolding import_only_at
import_parts s seen at e =
    on_good (new_name s (map (λ (m : ImportOnly). m.name) seen) at) _ e (λ w n₁ e₁ f₁.
    on_good (counted least_revisions most_revisions revision_at s n₁) _ f₁ (λ a n₂ e₂ f₂.
    carry (λ m n. ImportParts s at m n) f₂ (record { n₁ = n₁; name = (new_read s _ at e₁).0; revisions = e₂ })))

record SetParts (s : List ℕ) (at : ℕ) (m : ModuleSet) (n : ℕ) : Type 0 where
  n₁ : ℕ
  modules : counted 0 most_modules module_at s at ≡ good m.modules n₁
  import_only : counted 0 most_modules import_only_at s n₁ ≡ good m.import_only n

set_parts : (s : List ℕ) (seen : List ModuleSet) (at : ℕ) {m : ModuleSet} {n : ℕ} → set_at s seen at ≡ good m n → SetParts s at m n
unfolding set_at
set_parts s seen at e =
    on_good (counted 0 most_modules module_at s at) _ e (λ a n₁ e₁ f₁.
    on_good (counted 0 most_modules import_only_at s n₁) _ f₁ (λ b n₂ e₂ f₂.
    carry (λ m n. SetParts s at m n) f₂ (record { n₁ = n₁; modules = e₁; import_only = e₂ })))

-- ---- names

word_in : (s : List ℕ) (at : ℕ) {w : PlacedName} {n : ℕ} (r : ℕ) → name_at s at ≡ good w n → r ≤ most_revisions → HitIn s w.place r
word_in s at r e h =
    let q = name_end s at e in
    record { later = omega (arith, q.later); inside = omega (arith, q.behind, q.inside, q.some); few = h }

hit_fine : (s : List ℕ) (b : Bool) (p r : ℕ) → HitIn s p r → Fine s (cond b (Ok (Some (p, r))) (Ok None))
hit_fine s true p r h = h
hit_fine s false p r h = tt

word_passed : (s t : List ℕ) → Passing any_word s (word_tried s t) (word_look t)
unfolding word_tried
word_passed s t seen at w n e =
    record {
      tried = on_read _ _ e ∙ go (same w.text t);
      fine = hit_fine s (same w.text t) w.place 0 (word_in s at 0 e (omega arith));
    }
  where
    go : (b : Bool) → cond b (Break (Some (w.place, 0))) (Continue n) ≡ as_tried (cond b (Ok (Some (w.place, 0))) (Ok None)) n
    go true = refl
    go false = refl

-- ---- entries

-- one that is looked through or passed
abbrev wanted_look : {A : Type 0} → (wanted : Bool) → (A → Result (Option (ℕ × ℕ)) ℕ) → A → Result (Option (ℕ × ℕ)) ℕ
wanted_look wanted look a = cond wanted (look a) (Ok None)

module _ (s t : List ℕ) (import_only wanted : Bool) where
  -- what stands behind the name of an entry is passed; a hit has r revisions
  entry_passed : (at r : ℕ) {w : PlacedName} {n₁ n : ℕ} → name_at s at ≡ good w n₁ → rest_at import_only s n₁ ≡ good tt n
      → hit_at s import_only w.place n₁ ≡ Break (Some (w.place, r))
      → r ≤ most_revisions
      → Passed s (entry_tried s t import_only wanted at) (cond wanted (cond (same w.text t) (Ok (Some (w.place, r))) (Ok None)) (Ok None)) n
  unfolding entry_tried
  entry_passed at r {w} {n₁} {n} e f g h = record { tried = on_read _ _ e ∙ go wanted (same w.text t); fine = fine wanted }
    where
      go : (u b : Bool) → cond u (cond b (hit_at s import_only w.place n₁) (past (rest_at import_only s n₁))) (past (rest_at import_only s n₁))
          ≡ as_tried (cond u (cond b (Ok (Some (w.place, r))) (Ok None)) (Ok None)) n
      go true true = g
      go true false = ap past f
      go false b = ap past f

      fine : (u : Bool) → Fine s (cond u (cond (same w.text t) (Ok (Some (w.place, r))) (Ok None)) (Ok None))
      fine true = hit_fine s (same w.text t) w.place r (word_in s at r e h)
      fine false = tt

module_rest : (s : List ℕ) (at : ℕ) {m : Module} {n : ℕ} → (o : ModuleParts s at m n) → rest_at false s o.n₁ ≡ good tt n
unfolding rest_at list_at
module_rest s at o = bind_good _ o.submodules (bind_good _ o.augmenting (ap done o.deviations))

module_passed : (s t : List ℕ) (wanted : Bool) → Passing module_at s (entry_tried s t false wanted) (wanted_look wanted (module_look t))
unfolding hit_at
module_passed s t wanted seen at m n e =
    let o = module_parts s seen at e in
    entry_passed s t false wanted at 0 o.name (module_rest s at o) refl (omega arith)

-- the count of a list of revisions is its length
pub record Revisions (s : List ℕ) (at : ℕ) (l : List (List PlacedName)) : Type 0 where
  pub behind : ℕ
  pub count : number_at s at ≡ good (length l) behind
  pub few : length l ≤ most_revisions

revisions_read_lem : (s : List ℕ) (at : ℕ) {l : List (List PlacedName)} {n : ℕ} → counted least_revisions most_revisions revision_at s at ≡ good l n
    → Revisions s at l
revisions_read_lem s at e =
    let i = listed revision_at s (λ n. past (revision_at s [] n)) (λ r. (Ok None))
    (λ seen at a n h. record { tried = ap past h; fine = tt }) least_revisions most_revisions at e in
    let c = count_good s least_revisions most_revisions at i.count in
    record { behind = i.from; count = c.number; few = c.few }

import_rest : (s : List ℕ) (at : ℕ) {m : ImportOnly} {n : ℕ} → (o : ImportParts s at m n) → rest_at true s o.n₁ ≡ good tt n
unfolding rest_at
import_rest s at o = ap done o.revisions

import_hit : (s : List ℕ) (place at : ℕ) {l : List (List PlacedName)} → Revisions s at l → hit_at s true place at ≡ Break (Some (place, length l))
unfolding hit_at
import_hit s place at r = on_read _ _ r.count

import_passed : (s t : List ℕ) (wanted : Bool) → Passing import_only_at s (entry_tried s t true wanted) (wanted_look wanted (import_look t))
import_passed s t wanted seen at m n e =
    let o = import_parts s seen at e in
    let r = revisions_read_lem s o.n₁ o.revisions in
    entry_passed s t true wanted at (length m.revisions) o.name (import_rest s at o) (import_hit s m.name.place o.n₁ r) r.few

-- the submodules of a module
module_submodules : (s t : List ℕ) → Passing module_at s (submodules_tried s t) (submodule_look t)
unfolding submodules_tried submodule_count lists_behind list_at
module_submodules s t seen at m n e =
    let o = module_parts s seen at e in
    let i = listed any_word s (word_tried s t) (word_look t) (word_passed s t) 0 most_names o.n₁ o.submodules in
    let c : submodule_count s at ≡ good (length m.submodules) i.from = bind_good _ o.name i.count in
    let b : lists_behind s o.n₂ ≡ good tt n = bind_good _ o.augmenting (ap done o.deviations) in
    let x = first_hit (word_look t) m.submodules in
    record {
      tried =
          on_read _ _ c
          ∙ ap (λ r. and_then r (λ m. past (lists_behind s m))) i.passed.tried
          ∙ and_then_lem x (Ok None) o.n₂ n (λ m. past (lists_behind s m)) (ap past b)
          ∙ ap (λ y. as_tried y n) (or_nothing x);
      fine = i.passed.fine;
    }

-- ---- sets

-- two lists, one behind the other
two_lists : (s : List ℕ) {r : Tried} (k : ℕ → Tried) {x y : Result (Option (ℕ × ℕ)) ℕ} {m n : ℕ} → Passed s r x m → Passed s (k m) y n
    → Passed s (and_then r k) (or_else x y) n
two_lists s k {x} {y} {m} {n} p q =
    record { tried = ap (λ r. and_then r k) p.tried ∙ and_then_lem x y m n k q.tried; fine = or_fine s x y p.fine q.fine }

-- what is looked for in a set
abbrev set_look : (modules import_only : Bool) → List ℕ → ModuleSet → Result (Option (ℕ × ℕ)) ℕ
set_look modules import_only t m = or_else (first_hit (wanted_look modules (module_look t)) m.modules)
    (first_hit (wanted_look import_only (import_look t)) m.import_only)

abbrev set_submodules : List ℕ → ModuleSet → Result (Option (ℕ × ℕ)) ℕ
set_submodules t m = or_else (first_hit (submodule_look t) m.modules) (first_hit (wanted_look false (import_look t)) m.import_only)

module _ (s t : List ℕ) where
  imports_passed : (wanted : Bool) (at : ℕ) {l : List ImportOnly} {n : ℕ} → counted 0 most_modules import_only_at s at ≡ good l n
      → Passed s (entries_tried s t true wanted at) (first_hit (wanted_look wanted (import_look t)) l) n
  unfolding entries_tried
  imports_passed wanted at e =
      list_tried_lem import_only_at s (entry_tried s t true wanted) (wanted_look wanted (import_look t)) (import_passed s t wanted) most_modules at e

  modules_passed : (wanted : Bool) (at : ℕ) {l : List Module} {n : ℕ} → counted 0 most_modules module_at s at ≡ good l n
      → Passed s (entries_tried s t false wanted at) (first_hit (wanted_look wanted (module_look t)) l) n
  unfolding entries_tried
  modules_passed wanted at e =
      list_tried_lem module_at s (entry_tried s t false wanted) (wanted_look wanted (module_look t)) (module_passed s t wanted) most_modules at e

  set_passed : (modules import_only : Bool) → Passing set_at s (set_tried s t modules import_only) (set_look modules import_only t)
  unfolding set_tried
  set_passed modules import_only seen at m n e =
      let o = set_parts s seen at e in
      two_lists s (entries_tried s t true import_only) (modules_passed modules at o.modules) (imports_passed import_only o.n₁ o.import_only)

  set_submodules_passed : Passing set_at s (set_submodules_tried s t) (set_submodules t)
  unfolding set_submodules_tried
  set_submodules_passed seen at m n e =
      let o = set_parts s seen at e in
      two_lists s (entries_tried s t true false)
      (list_tried_lem module_at s (submodules_tried s t) (submodule_look t) (module_submodules s t) most_modules at o.modules)
      (imports_passed false o.n₁ o.import_only)

-- ---- the whole library

library_read : (s : List ℕ) {l : Library} {n : ℕ} → image_at s ≡ good l n → counted 0 most_sets set_at s 0 ≡ good l n
unfolding library_at
library_read s e = (accepted s e).read

sets_passed : (s t : List ℕ) (modules import_only : Bool) {l : Library} {n : ℕ} → image_at s ≡ good l n
    → Passed s (sets_tried s t modules import_only) (first_hit (set_look modules import_only t) l) n
unfolding sets_tried
sets_passed s t modules import_only e =
    list_tried_lem set_at s (set_tried s t modules import_only) (set_look modules import_only t) (set_passed s t modules import_only) most_sets 0
    (library_read s e)

submodules_passed : (s t : List ℕ) {l : Library} {n : ℕ} → image_at s ≡ good l n → Passed s (all_submodules_tried s t) (first_hit (set_submodules t) l) n
unfolding all_submodules_tried
submodules_passed s t e =
    list_tried_lem set_at s (set_submodules_tried s t) (set_submodules t) (set_submodules_passed s t) most_sets 0 (library_read s e)

-- ---- the nested first hit is the first hit of all

modules_hit : (t : List ℕ) (l : Library) → first_hit (set_look true false t) l ≡ first_hit (module_look t) (modules_of l)
unfolding modules_of
modules_hit t [] = refl
modules_hit t (m ∷ l) =
    ap₂ or_else (ap (or_else (first_hit (module_look t) m.modules)) (none_hit m.import_only) ∙ or_nothing (first_hit (module_look t) m.modules))
    (modules_hit t l)
    ∙ sym (hit_append (module_look t) m.modules (modules_of l))

imports_hit : (t : List ℕ) (l : Library) → first_hit (set_look false true t) l ≡ first_hit (import_look t) (import_only_of l)
unfolding import_only_of
imports_hit t [] = refl
imports_hit t (m ∷ l) =
    ap₂ or_else (ap (λ x. or_else x (first_hit (import_look t) m.import_only)) (none_hit m.modules)) (imports_hit t l)
    ∙ sym (hit_append (import_look t) m.import_only (import_only_of l))

submodules_hit : (t : List ℕ) (ms : List Module) → first_hit (submodule_look t) ms ≡ first_hit (word_look t) (submodules_of ms)
unfolding submodules_of
submodules_hit t [] = refl
submodules_hit t (m ∷ ms) = ap (or_else (submodule_look t m)) (submodules_hit t ms) ∙ sym (hit_append (word_look t) m.submodules (submodules_of ms))

all_submodules_hit : (t : List ℕ) (l : Library) → first_hit (set_submodules t) l ≡ first_hit (submodule_look t) (modules_of l)
unfolding modules_of
all_submodules_hit t [] = refl
all_submodules_hit t (m ∷ l) =
    ap₂ or_else (ap (or_else (first_hit (submodule_look t) m.modules)) (none_hit m.import_only) ∙ or_nothing (first_hit (submodule_look t) m.modules))
    (all_submodules_hit t l)
    ∙ sym (hit_append (submodule_look t) m.modules (modules_of l))

-- ---- what the searches come to, and that it stands within the image

pub record Comes (s : List ℕ) (r : Tried) (x : Result (Option (ℕ × ℕ)) ℕ) : Type 0 where
  pub found : found_by r ≡ x
  pub fine : Fine s x

comes : (s : List ℕ) {r : Tried} {x y : Result (Option (ℕ × ℕ)) ℕ} {n : ℕ} → Passed s r x n → x ≡ y → Comes s r y
comes s {r} {x} {y} {n} p e = record { found = ap found_by p.tried ∙ found_tried s x n p.fine ∙ e; fine = rw (← e) p.fine }

module _ (s t : List ℕ) {l : Library} {n : ℕ} (e : image_at s ≡ good l n) where
  pub module_comes : Comes s (sets_tried s t true false) (first_module t l)
  module_comes = comes s (sets_passed s t true false e) (modules_hit t l ∙ hit_by (λ (m : Module). m.name) (λ m. m.name.place) (λ m. 0) t (modules_of l))

  pub import_comes : Comes s (sets_tried s t false true) (first_import_only t l)
  import_comes =
      comes s (sets_passed s t false true e) (imports_hit t l ∙ hit_by (λ (m : ImportOnly). m.name) (λ m. m.name.place) (λ m. length m.revisions) t
      (import_only_of l))

  pub submodule_comes : Comes s (all_submodules_tried s t) (first_submodule t l)
  submodule_comes =
      comes s (submodules_passed s t e)
      (all_submodules_hit t l ∙ submodules_hit t (modules_of l) ∙ hit_by (λ (w : PlacedName). w) (λ w. w.place) (λ w. 0) t (submodules_of (modules_of l)))

  -- in a well-formed image each search over the bytes is the search in the library
  pub module_found : found_by (sets_tried s t true false) ≡ first_module t l
  module_found = module_comes.found

  pub import_found : found_by (sets_tried s t false true) ≡ first_import_only t l
  import_found = import_comes.found

  pub submodule_found : found_by (all_submodules_tried s t) ≡ first_submodule t l
  submodule_found = submodule_comes.found
