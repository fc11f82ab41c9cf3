-- On a well-formed image the items that code reads are those of the abstract library: each part is read from the same bytes.
-- Assumes nothing.
use mathlib.Core.Path.{◌≡◌, refl, sym, ap, ◌∙◌}
use mathlib.Core.List.{List, [], ◌∷◌, ◌++◌, map, flat_map, append-nil, append_assoc}
use mathlib.Core.Bool.{true, false}
use Prim.Native.Nat.{ℕ, zero, suc, ◌-◌, ◌≤◌}
use native.Mathlib.Omega.{arith}
use Rattle.library_form.specs.Form.{Ans, good, PlacedName, name_at, many}
use Rattle.library_index.specs.Names.{new_name}
use Rattle.library_image.specs.Library.{Module, ImportOnly, Library}
use Rattle.library_image.specs.Image.{most_sets, most_modules, most_names, least_revisions, most_revisions, Reader, count_at, counted, any_word}
use Rattle.library_image.specs.Image.{new_word, module_at}
use Rattle.library_image.specs.Image.{revision_at, import_only_at, set_at, library_at}
use Rattle.library_image.proofs.Steps.{on_good, bind_good, carry, count_good}
use Rattle.library_index.proofs.Taking.{new_read}
use Rattle.library_items.specs.Items.{item, module_items, revision_items, import_items, set_items, items_of, module_kind, submodule_kind, augmenting_kind}
use Rattle.library_items.specs.Items.{deviation_kind, import_only_kind, first_sub_kind, later_sub_kind}
use Rattle.library_items.specs.Table.{Items, and_then, each, each_counted, name_read, list_read, lists_read, revisions_read, entry_read, entries_read, set_read}
use Rattle.library_items.specs.Table.{sets_read}
use Rattle.library_items.specs.declared.Kind.{Kind}

-- ---- one behind another, and counted lists

then_good : {x : Ans Items} (f : ℕ → Ans Items) {xs ys : Items} {m n : ℕ} → x ≡ good xs m → f m ≡ good ys n → and_then x f ≡ good (xs ++ ys) n
then_good f e h = bind_good _ e (bind_good _ h refl)

record Behind {A : Type 0} (q : ℕ → Ans Items) (f : A → Items) (k : ℕ) (seen : List A) (at : ℕ) (l : List A) (n : ℕ) : Type 0 where
  more : List A
  joined : l ≡ seen ++ more
  told : each q k at ≡ good (flat_map f more) n

-- a reader each of whose things is told by f
abbrev Tells : {A : Type 0} → Reader A → List ℕ → (ℕ → Ans Items) → (A → Items) → Type 0
Tells {A} p s q f = (seen : List A) (at : ℕ) (a : A) (n : ℕ) → p s seen at ≡ good a n → q at ≡ good (f a) n

module _ {A : Type 0} (p : Reader A) (s : List ℕ) (q : ℕ → Ans Items) (f : A → Items) (one : Tells p s q f) where
  many_told : (k : ℕ) (seen : List A) (at : ℕ) {l : List A} {n : ℕ} → many (p s) k seen at ≡ good l n → Behind q f k seen at l n
  unfolding many each flat_map
  many_told zero seen at e = carry (λ l n. Behind q f 0 seen at l n) e (record { more = []; joined = sym (append-nil seen); told = refl })
  many_told (suc k) seen at e =
      on_good (p s seen at) _ e (λ a m e₁ e₂.
      let i = many_told k (seen ++ (a ∷ [])) m e₂ in
      record {
        more = a ∷ i.more;
        joined = i.joined ∙ append_assoc seen (a ∷ []) i.more;
        told = then_good (λ n. each q k n) (one seen at a m e₁) i.told;
      })

  counted_told : (least most at : ℕ) {l : List A} {n : ℕ} → counted least most p s at ≡ good l n → each_counted least most q s at ≡ good (flat_map f l) n
  unfolding counted each_counted
  counted_told least most at {l} {n} e =
      on_good (count_at least most s at) _ e (λ c m e₁ e₂.
      let i = many_told c [] m e₂ in
      bind_good _ e₁ (i.told ∙ ap (λ k. good (flat_map f k) n) (sym i.joined)))

-- ---- names

flat_single : {A B : Type 0} (f : A → B) (l : List A) → flat_map (λ a. f a ∷ []) l ≡ map f l
unfolding flat_map
flat_single f [] = refl
flat_single f (a ∷ l) = ap (λ k. f a ∷ k) (flat_single f l)

name_told : (s : List ℕ) (k : Kind) (at : ℕ) {w : PlacedName} {n : ℕ} → name_at s at ≡ good w n → name_read k s at ≡ good (item k w ∷ []) n
unfolding name_read
name_told s k at e = bind_good _ e refl

-- a list of names that are read alone, or differ
module _ (p : Reader PlacedName) (plain : (s : List ℕ) (seen : List PlacedName) (at : ℕ) (w : PlacedName) (n : ℕ) → p s seen at ≡ good w n
    → name_at s at ≡ good w n) (s : List ℕ) (k : Kind) where
  list_told : (at : ℕ) {l : List PlacedName} {n : ℕ} → counted 0 most_names p s at ≡ good l n → list_read k s at ≡ good (map (item k) l) n
  unfolding list_read
  list_told at {l} {n} e =
      counted_told p s (name_read k s) (λ w. item k w ∷ []) (λ seen at w n h. name_told s k at (plain s seen at w n h)) 0 most_names at e
      ∙ ap (λ x. good x n) (flat_single (item k) l)

names_told : (s : List ℕ) (k : Kind) (at : ℕ) {l : List PlacedName} {n : ℕ} → counted 0 most_names any_word s at ≡ good l n
    → list_read k s at ≡ good (map (item k) l) n
names_told s k at e = list_told any_word (λ s seen at w n h. h) s k at e

revision_told : (s : List ℕ) (k : Kind) → Tells revision_at s (list_read k s) (map (item k))
revision_told s k seen at l n e = list_told new_word (λ s seen at w n h. (new_read s seen at h).0) s k at e

-- ---- entries

module_told : (s : List ℕ) → Tells module_at s (entry_read false s) module_items
unfolding module_at entry_read lists_read
module_told s seen at m n e =
    on_good (new_name s (map (λ (m : Module). m.name) seen) at) _ e (λ w n₁ e₁ f₁.
    on_good (counted 0 most_names any_word s n₁) _ f₁ (λ a n₂ e₂ f₂.
    on_good (counted 0 most_names any_word s n₂) _ f₂ (λ b n₃ e₃ f₃.
    on_good (counted 0 most_names any_word s n₃) _ f₃ (λ c n₄ e₄ f₄.
    carry (λ m n. entry_read false s at ≡ good (module_items m) n) f₄
    (then_good (lists_read s) (name_told s module_kind at (new_read s _ at e₁).0)
    (then_good (λ n. and_then (list_read augmenting_kind s n) (list_read deviation_kind s)) (names_told s submodule_kind n₁ e₂)
    (then_good (list_read deviation_kind s) (names_told s augmenting_kind n₂ e₃) (names_told s deviation_kind n₃ e₄))))))))

-- the first of the revisions, and the later ones
revisions_told : (s : List ℕ) (at : ℕ) {l : List (List PlacedName)} {n : ℕ} → counted least_revisions most_revisions revision_at s at ≡ good l n
    → revisions_read s at ≡ good (revision_items l) n
unfolding counted revisions_read many
revisions_told s at {l} {n} e =
    on_good (count_at least_revisions most_revisions s at) _ e (λ c m e₁ e₂.
    bind_good _ e₁ (go c m (count_good s least_revisions most_revisions at e₁).enough e₂))
  where
    go : (c m : ℕ) → 1 ≤ c → many (revision_at s) c [] m ≡ good l n → and_then (list_read first_sub_kind s m) (λ k. each (list_read later_sub_kind s) (c - 1) k)
        ≡ good (revision_items l) n
    go zero m h e = elim h [ ]
    go (suc k) m h e =
        let z : suc k - 1 ≡ k = omega arith in
        on_good (revision_at s [] m) _ e (λ a j e₁ e₂.
        let i = many_told revision_at s (list_read later_sub_kind s) (map (item later_sub_kind)) (revision_told s later_sub_kind) k (a ∷ []) j e₂ in
        then_good (λ x. each (list_read later_sub_kind s) (suc k - 1) x) (revision_told s first_sub_kind [] m a j e₁)
        (ap (λ d. each (list_read later_sub_kind s) d j) z ∙ i.told)
        ∙ ap (λ x. good (revision_items x) n) (sym i.joined))

import_told : (s : List ℕ) → Tells import_only_at s (entry_read true s) import_items
unfolding import_only_at entry_read
import_told s seen at m n e =
    on_good (new_name s (map (λ (m : ImportOnly). m.name) seen) at) _ e (λ w n₁ e₁ f₁.
    on_good (counted least_revisions most_revisions revision_at s n₁) _ f₁ (λ a n₂ e₂ f₂.
    carry (λ m n. entry_read true s at ≡ good (import_items m) n) f₂
    (then_good (revisions_read s) (name_told s import_only_kind at (new_read s _ at e₁).0) (revisions_told s n₁ e₂))))

-- ---- sets

set_told : (s : List ℕ) → Tells set_at s (set_read s) set_items
unfolding set_at set_read entries_read
set_told s seen at m n e =
    on_good (counted 0 most_modules module_at s at) _ e (λ a n₁ e₁ f₁.
    on_good (counted 0 most_modules import_only_at s n₁) _ f₁ (λ b n₂ e₂ f₂.
    carry (λ m n. set_read s at ≡ good (set_items m) n) f₂
    (then_good (entries_read true s) (counted_told module_at s (entry_read false s) module_items (module_told s) 0 most_modules at e₁)
    (counted_told import_only_at s (entry_read true s) import_items (import_told s) 0 most_modules n₁ e₂))))

pub library_told : (s : List ℕ) (at : ℕ) {l : Library} {n : ℕ} → library_at s at ≡ good l n → sets_read s at ≡ good (items_of l) n
unfolding library_at sets_read items_of
library_told s at e = counted_told set_at s (set_read s) set_items (set_told s) 0 most_sets at e
