-- What a look-up tells stands within the bundle, and no bundle is read past 16,777,216 bytes: a number, a name or a text is wrong where it starts, and
-- it starts within the bytes or at their end.
-- Assumes nothing.
use Rattle.std.specs.Prelude.{Some, None, Err, Ok, Option}
use mathlib.Core.Path.{◌≡◌, refl}
use mathlib.Core.List.{List, [], ◌∷◌, ◌++◌}
use mathlib.Core.Bool.{Bool, true, false, cond}
use Prim.Native.Nat.{ℕ, zero, suc, ◌+◌, ◌-◌, ◌≤◌}
use native.Mathlib.Omega.{arith}
use lib.ListN.{length}
use lib.Dec.{ltb}
use borrow.Author.Tests.{ltb-true, ltb-false}
use Rattle.library_form.specs.Form.{Ans, good, bad, bind, PlacedName, number_at, many}
use Rattle.library_form.proofs.Bounds.{number_place, number_end, name_end}
use Rattle.library_index.specs.Names.{new_name}
use Rattle.library_index.proofs.Taking.{new_read, new_place}
use Rattle.library_bundle.specs.Bundle.{most_bytes, most_texts, Text, text_of, body_at, filed_at, words, new_text, ended, texts_at, bundle_at, place_of, looked}
use Rattle.library_bundle.specs.Bundle.{look_in, look_up}
use Rattle.library_bundle.proofs.Entries.{text_sized}
use Rattle.library_bundle.proofs.Looking.{place_in, is_at}
use Rattle.library_bundle.proofs.Parts.{bundle_parted, texts_sized}

-- ---- where a bundle is wrong

body_place : (s : List ℕ) (w : PlacedName) (start size from : ℕ) {p : ℕ} → body_at s w start size from ≡ bad p → p ≡ start
unfolding body_at
body_place s w start size from {p} e = go (ltb (length s - from) size) e
  where
    go : (b : Bool) → cond b (bad start) (good (text_of w from size) (from + size)) ≡ bad p → p ≡ start
    go true k = cc
    go false k = cc

text_place : (s : List ℕ) (ws : List PlacedName) (at : ℕ) {p : ℕ} → filed_at s ws at ≡ bad p → at ≤ length s → p ≤ length s
unfolding filed_at
text_place s ws at {p} e l = go (new_name s ws at) refl e
  where
    size : (w : PlacedName) (n : ℕ) → n ≤ length s → (a : Ans ℕ) → number_at s n ≡ a → bind a (body_at s w n) ≡ bad p → p ≤ length s
    size w n m (good z from) h k = omega (arith, body_place s w n z from k)
    size w n m (bad q) h k = let z : q ≡ p = cc in omega (arith, number_place s n h)

    go : (a : Ans PlacedName) → new_name s ws at ≡ a → bind a (λ w n. bind (number_at s n) (body_at s w n)) ≡ bad p → p ≤ length s
    go (good w n) h k = size w n (name_end s at (new_read s ws at h).0).inside (number_at s n) refl k
    go (bad q) h k = let z : q ≡ p = cc in omega (arith, new_place s ws at h)

texts_place : (s : List ℕ) (k at : ℕ) (seen : List Text) {p : ℕ} → many (new_text s) k seen at ≡ bad p → at ≤ length s → p ≤ length s
unfolding many
texts_place s zero at seen e l = let z : ◌≡◌ {A = ℕ} 0 1 = cc in absurd (omega arith)
texts_place s (suc k) at seen {p} e l = go (filed_at s (words seen) at) refl (λ t m. texts_place s k m (seen ++ (t ∷ []))) e
  where
    go : (a : Ans Text) → filed_at s (words seen) at ≡ a → ((t : Text) (m : ℕ) → many (new_text s) k (seen ++ (t ∷ [])) m ≡ bad p → m ≤ length s → p ≤ length s)
        → bind a (λ t m. many (new_text s) k (seen ++ (t ∷ [])) m) ≡ bad p → p ≤ length s
    go (good t m) h ih q = ih t m q (text_sized s (words seen) at h).1
    go (bad y) h ih q = let z : y ≡ p = cc in omega (arith, text_place s (words seen) at h l)

-- within its bytes or at their end; one that is too long at 0
bundle_place : (s : List ℕ) {p : ℕ} → bundle_at s ≡ bad p → p ≤ most_bytes
unfolding bundle_at texts_at
bundle_place s {p} e = go (ltb most_bytes (length s)) refl e
  where
    ending : (ds : List Text) (m : ℕ) (b : Bool) → ltb m (length s) ≡ b → cond b (bad m) (good ds m) ≡ bad p → p ≤ length s
    ending ds m true h k = let z : m ≡ p = cc in omega (arith, ltb-true m (length s) h)
    ending ds m false h k = let z : ◌≡◌ {A = ℕ} 0 1 = cc in absurd (omega arith)

    listed : (count at : ℕ) → at ≤ length s → (a : Ans (List Text)) → many (new_text s) count [] at ≡ a → bind a (ended s) ≡ bad p → p ≤ length s
    listed count at l (good ds m) h k = ending ds m (ltb m (length s)) refl k
    listed count at l (bad q) h k = let z : q ≡ p = cc in omega (arith, texts_place s count at [] h l)

    counts : (count at : ℕ) → at ≤ length s → (b : Bool) → cond b (bad 0) (bind (many (new_text s) count [] at) (ended s)) ≡ bad p → p ≤ length s
    counts count at l true k = let z : 0 ≡ p = cc in omega arith
    counts count at l false k = listed count at l (many (new_text s) count [] at) refl k

    number : (a : Ans ℕ) → number_at s 0 ≡ a → bind a (texts_at s) ≡ bad p → p ≤ length s
    number (good count at) h k = counts count at (number_end s 0 h).1 (ltb most_texts count) k
    number (bad q) h k = let z : q ≡ p = cc in omega (arith, number_place s 0 h)

    go : (b : Bool) → ltb most_bytes (length s) ≡ b → cond b (bad 0) (bind (number_at s 0) (texts_at s)) ≡ bad p → p ≤ most_bytes
    go true h k = let z : 0 ≡ p = cc in omega arith
    go false h k = omega (arith, ltb-false most_bytes (length s) h, number (number_at s 0) refl k)

-- ---- what a look-up tells

module _ (s t : List ℕ) where
  pub broken_in : (p : ℕ) → look_up s t ≡ Err p → p ≤ most_bytes
  unfolding look_up
  broken_in p e = go (bundle_at s) refl e
    where
      told : (x : Option (ℕ × ℕ)) → looked x ≡ Err p → p ≤ most_bytes
      told (Some (from, size)) k = let z : ◌≡◌ {A = ℕ} 0 1 = cc in absurd (omega arith)
      told None k = let z : ◌≡◌ {A = ℕ} 0 1 = cc in absurd (omega arith)

      go : (a : Ans (List Text)) → bundle_at s ≡ a → look_in t a ≡ Err p → p ≤ most_bytes
      go (good es n) h k = told (place_of t es) k
      go (bad q) h k = let z : q ≡ p = cc in omega (arith, bundle_place s h)

  pub stands_in : (from size : ℕ) → look_up s t ≡ Ok (Some (from, size)) → (from + size ≤ length s) × (length s ≤ most_bytes)
  unfolding look_up
  stands_in from size e = go (bundle_at s) refl e
    where
      go : (a : Ans (List Text)) → bundle_at s ≡ a → look_in t a ≡ Ok (Some (from, size)) → (from + size ≤ length s) × (length s ≤ most_bytes)
      go (good es n) h k =
          let o = bundle_parted s h in
          (place_in s t es (texts_sized s o.count o.first [] tt o.texts) (is_at (place_of t es) k), o.short)
      go (bad q) h k = let z : ◌≡◌ {A = ℕ} 0 1 = cc in absurd (omega arith)
