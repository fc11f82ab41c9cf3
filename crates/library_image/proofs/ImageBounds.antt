-- Where readings of the image end and where they are wrong: not before their start and not past the end of the bytes. From numbers and names, by what
-- is read one after another.
-- Assumes nothing.
use mathlib.Core.Path.{◌≡◌, refl, subst}
use mathlib.Core.List.{List, [], ◌∷◌, ◌++◌, map}
use mathlib.Core.Bool.{Bool, true, false, cond}
use Prim.Native.Nat.{ℕ, zero, suc, ◌≤◌}
use native.Mathlib.Omega.{arith}
use lib.ListN.{length}
use lib.Dec.{ltb}
use Rattle.library_form.specs.Form.{Ans, good, bad, bind, PlacedName, number_at, name_at, many}
use Rattle.library_form.proofs.Bounds.{number_end, number_place, name_end, name_place}
use Rattle.library_index.specs.Names.{memb, new_name}
use Rattle.library_image.specs.Library.{Module, ImportOnly, Library}
use Rattle.library_image.specs.Image.{most_image, most_sets, most_modules, most_names, least_revisions, most_revisions, Reader, count_at, counted, any_word}
use Rattle.library_image.specs.Image.{new_word, module_at, revision_at, import_only_at, set_at, library_at, image_at}

-- the place of an answer
abbrev pub place_of : {A : Type 0} → Ans A → ℕ
place_of (good a n) = n
place_of (bad p) = p

-- it lies from `at` to the end
pub record Placed {A : Type 0} (s : List ℕ) (at : ℕ) (r : Ans A) : Type 0 where
  pub later : at ≤ place_of r
  pub inside : place_of r ≤ length s

abbrev pub Bounded : {A : Type 0} → Reader A → Type 0
Bounded {A} p = (s : List ℕ) (seen : List A) (at : ℕ) → at ≤ length s → Placed s at (p s seen at)

module _ (s : List ℕ) (at : ℕ) (h : at ≤ length s) where
  number_placed : Placed s at (number_at s at)
  number_placed = go (number_at s at) refl
    where
      go : (r : Ans ℕ) → number_at s at ≡ r → Placed s at r
      go (good c n) e = let q = number_end s at e in record { later = omega arith; inside = q.1 }
      go (bad p) e = let q = number_place s at e in record { later = omega arith; inside = omega arith }

  name_placed : Placed s at (name_at s at)
  name_placed = go (name_at s at) refl
    where
      go : (r : Ans PlacedName) → name_at s at ≡ r → Placed s at r
      go (good w n) e = let q = name_end s at e in let l = q.later in let b = q.behind in record { later = omega arith; inside = q.inside }
      go (bad p) e = let q = name_place s at e in record { later = omega arith; inside = omega arith }

  cond_placed : {A : Type 0} (b : Bool) (r : Ans A) → Placed s at r → Placed s at (cond b (bad at) r)
  cond_placed true r k = record { later = omega arith; inside = h }
  cond_placed false r k = k

module _ {A : Type 0} (s : List ℕ) (at : ℕ) where
  from_earlier : (r : Ans A) (m : ℕ) → at ≤ m → Placed s m r → Placed s at r
  from_earlier r m h k = let q = k.later in record { later = omega arith; inside = k.inside }

  bind_placed : {C : Type 0} (r : Ans A) (k : A → ℕ → Ans C) → Placed s at r → ((a : A) (m : ℕ) → at ≤ m → m ≤ length s → Placed s at (k a m))
      → Placed s at (bind r k)
  bind_placed (good a m) k h f = f a m h.later h.inside
  bind_placed (bad p) k h f = record { later = h.later; inside = h.inside }

-- ---- counted lists

pub count_placed : (s : List ℕ) (least most at : ℕ) → at ≤ length s → Placed s at (count_at least most s at)
unfolding count_at
count_placed s least most at h =
    bind_placed s at (number_at s at) _ (number_placed s at h) (λ c m i j.
    cond_placed s at h (ltb c least) _ (cond_placed s at h (ltb most c) (good c m) (record { later = i; inside = j })))

module _ {A : Type 0} (p : Reader A) (law : Bounded p) (s : List ℕ) where
  many_placed : (k : ℕ) (seen : List A) (at : ℕ) → at ≤ length s → Placed s at (many (p s) k seen at)
  unfolding many
  many_placed zero seen at h = record { later = omega arith; inside = h }
  many_placed (suc k) seen at h =
      bind_placed s at (p s seen at) _ (law s seen at h) (λ a m i j. from_earlier s at _ m i (many_placed k (seen ++ (a ∷ [])) m j))

  counted_placed : (least most at : ℕ) → at ≤ length s → Placed s at (counted least most p s at)
  unfolding counted
  counted_placed least most at h =
      bind_placed s at (count_at least most s at) _ (count_placed s least most at h) (λ c m i j. from_earlier s at _ m i (many_placed c [] m j))

-- ---- the library

pub new_placed : (s : List ℕ) (before : List PlacedName) (at : ℕ) → at ≤ length s → Placed s at (new_name s before at)
unfolding new_name
new_placed s before at h =
    bind_placed s at (name_at s at) _ (name_placed s at h) (λ w m i j. cond_placed s at h (memb w.text before) (good w m) (record { later = i; inside = j }))

any_bounded : Bounded any_word
any_bounded s seen at h = name_placed s at h

new_bounded : Bounded new_word
new_bounded = new_placed

names_placed : (s : List ℕ) (at : ℕ) → at ≤ length s → Placed s at (counted 0 most_names any_word s at)
names_placed s at h = counted_placed any_word any_bounded s 0 most_names at h

module_bounded : Bounded module_at
unfolding module_at
module_bounded s seen at h =
    bind_placed s at _ _ (new_placed s (map (λ (m : Module). m.name) seen) at h) (λ w n₁ i₁ j₁.
    from_earlier s at _ n₁ i₁ (bind_placed s n₁ _ _ (names_placed s n₁ j₁) (λ a n₂ i₂ j₂.
    from_earlier s n₁ _ n₂ i₂ (bind_placed s n₂ _ _ (names_placed s n₂ j₂) (λ b n₃ i₃ j₃.
    from_earlier s n₂ _ n₃ i₃ (bind_placed s n₃ _ _ (names_placed s n₃ j₃) (λ c n₄ i₄ j₄. record { later = i₄; inside = j₄ })))))))

revision_bounded : Bounded revision_at
revision_bounded s seen at h = counted_placed new_word new_bounded s 0 most_names at h

import_only_bounded : Bounded import_only_at
unfolding import_only_at
import_only_bounded s seen at h =
    bind_placed s at _ _ (new_placed s (map (λ (m : ImportOnly). m.name) seen) at h) (λ w n₁ i₁ j₁.
    from_earlier s at _ n₁ i₁ (bind_placed s n₁ _ _ (counted_placed revision_at revision_bounded s least_revisions most_revisions n₁ j₁)
    (λ a n₂ i₂ j₂. record { later = i₂; inside = j₂ })))

set_bounded : Bounded set_at
unfolding set_at
set_bounded s seen at h =
    bind_placed s at _ _ (counted_placed module_at module_bounded s 0 most_modules at h) (λ a n₁ i₁ j₁.
    from_earlier s at _ n₁ i₁ (bind_placed s n₁ _ _ (counted_placed import_only_at import_only_bounded s 0 most_modules n₁ j₁)
    (λ b n₂ i₂ j₂. record { later = i₂; inside = j₂ })))

library_placed : (s : List ℕ) (at : ℕ) → at ≤ length s → Placed s at (library_at s at)
unfolding library_at
library_placed s at h = counted_placed set_at set_bounded s 0 most_sets at h

image_placed : (s : List ℕ) → Placed s 0 (image_at s)
unfolding image_at
image_placed s =
    cond_placed s 0 (omega arith) (ltb most_image (length s)) _
    (bind_placed s 0 (library_at s 0) _ (library_placed s 0 (omega arith)) (λ l n i j. last (ltb n (length s)) l n j))
  where
    last : (b : Bool) (l : Library) (n : ℕ) → n ≤ length s → Placed s 0 (cond b (bad n) (good l n))
    last true l n j = record { later = omega arith; inside = j }
    last false l n j = record { later = omega arith; inside = j }

-- an image is wrong within its bytes or at their end
pub image_place : (s : List ℕ) {p : ℕ} → image_at s ≡ bad p → p ≤ length s
image_place s e = (subst (λ r. Placed s 0 r) e (image_placed s)).inside
