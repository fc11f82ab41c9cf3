-- A bundle that was read, by its parts; and bytes that are no name are under none of its texts.
-- Assumes nothing.
use Rattle.std.specs.Prelude.{None, Ok}
use mathlib.Core.Path.{◌≡◌, refl, ap, ◌∙◌}
use mathlib.Core.List.{List, [], ◌∷◌, ◌++◌}
use mathlib.Core.Bool.{Bool, true, false, cond}
use Prim.Native.Nat.{ℕ, zero, suc, ◌≤◌}
use native.Mathlib.Omega.{arith}
use lib.ListN.{length}
use lib.Dec.{ltb}
use borrow.Author.Tests.{ltb-false}
use Rattle.text.specs.Keyword.{same}
use Rattle.text.proofs.KeywordLaws.{same_no}
use Rattle.library_form.specs.Form.{Ans, good, bad, bind, number_at, many}
use Rattle.library_form.specs.Writer.{NameBytes}
use Rattle.library_bundle.specs.Bundle.{most_bytes, most_texts, Text, filed_at, words, new_text, ended, texts_at, bundle_at, place_of, looked, look_in, look_up}
use Rattle.library_bundle.specs.Reading.{Sizes}
use Rattle.library_bundle.proofs.Entries.{text_sized}
use Rattle.library_bundle.proofs.Opening.{sizes_snoc}

pub record Parted (s : List ℕ) (es : List Text) (n : ℕ) : Type 0 where
  pub short : length s ≤ most_bytes
  pub count : ℕ
  pub first : ℕ
  pub number : number_at s 0 ≡ good count first
  pub few : count ≤ most_texts
  pub texts : many (new_text s) count [] first ≡ good es n
  pub end : length s ≤ n

pub bundle_parted : (s : List ℕ) {es : List Text} {n : ℕ} → bundle_at s ≡ good es n → Parted s es n
unfolding bundle_at texts_at
bundle_parted s {es} {n} h = go (ltb most_bytes (length s)) refl h
  where
    ending : (count at : ℕ) (ds : List Text) (m : ℕ) → length s ≤ most_bytes → number_at s 0 ≡ good count at → count ≤ most_texts
        → many (new_text s) count [] at ≡ good ds m
        → (b : Bool) → ltb m (length s) ≡ b → cond b (bad m) (good ds m) ≡ good es n → Parted s es n
    ending count at ds m short c few r true p q = let z : ◌≡◌ {A = ℕ} 0 1 = cc in absurd (omega arith)
    ending count at ds m short c few r false p q =
        let y : m ≡ n = cc in
        record { short = short; count = count; first = at; number = c; few = few; texts = r ∙ q; end = omega (arith, ltb-false m (length s) p, y) }

    listed : (count at : ℕ) → length s ≤ most_bytes → number_at s 0 ≡ good count at → count ≤ most_texts
        → (a : Ans (List Text)) → many (new_text s) count [] at ≡ a → bind a (ended s) ≡ good es n → Parted s es n
    listed count at short c few (good ds m) p q = ending count at ds m short c few p (ltb m (length s)) refl q
    listed count at short c few (bad x) p q = let z : ◌≡◌ {A = ℕ} 0 1 = cc in absurd (omega arith)

    counts : (count at : ℕ) → length s ≤ most_bytes → number_at s 0 ≡ good count at
        → (b : Bool) → ltb most_texts count ≡ b → cond b (bad 0) (bind (many (new_text s) count [] at) (ended s)) ≡ good es n → Parted s es n
    counts count at short c true p q = let z : ◌≡◌ {A = ℕ} 0 1 = cc in absurd (omega arith)
    counts count at short c false p q = listed count at short c (ltb-false most_texts count p) (many (new_text s) count [] at) refl q

    number : length s ≤ most_bytes → (a : Ans ℕ) → number_at s 0 ≡ a → bind a (texts_at s) ≡ good es n → Parted s es n
    number short (good count at) p q = counts count at short p (ltb most_texts count) refl q
    number short (bad x) p q = let z : ◌≡◌ {A = ℕ} 0 1 = cc in absurd (omega arith)

    go : (b : Bool) → ltb most_bytes (length s) ≡ b → cond b (bad 0) (bind (number_at s 0) (texts_at s)) ≡ good es n → Parted s es n
    go true p q = let z : ◌≡◌ {A = ℕ} 0 1 = cc in absurd (omega arith)
    go false p q = number (ltb-false most_bytes (length s) p) (number_at s 0) refl q

-- ---- bytes that are no name

pub texts_sized : (s : List ℕ) (k at : ℕ) (seen : List Text) {es : List Text} {n : ℕ} → Sizes s seen → many (new_text s) k seen at ≡ good es n → Sizes s es
unfolding many
texts_sized s zero at seen {es} {n} z h = let p : seen ≡ es = cc in rw (← p) z
texts_sized s (suc k) at seen {es} {n} z h = go (filed_at s (words seen) at) refl (λ e m. texts_sized s k m (seen ++ (e ∷ []))) h
  where
    go : (a : Ans Text) → filed_at s (words seen) at ≡ a
        → ((e : Text) (m : ℕ) → Sizes s (seen ++ (e ∷ [])) → many (new_text s) k (seen ++ (e ∷ [])) m ≡ good es n → Sizes s es)
        → bind a (λ e m. many (new_text s) k (seen ++ (e ∷ [])) m) ≡ good es n → Sizes s es
    go (good e m) p ih q = ih e m (sizes_snoc s seen e z (text_sized s (words seen) at p).0) q
    go (bad y) p ih q = let x : ◌≡◌ {A = ℕ} 0 1 = cc in absurd (omega arith)

no_place : (s t : List ℕ) (es : List Text) → (NameBytes t → ⊥) → Sizes s es → place_of t es ≡ None
no_place s t [] h z = refl
no_place s t (e ∷ es) h z =
    let d : same e.word.text t ≡ false = same_no e.word.text t (λ p. h (rw p at z.0.named)) in
    rw d (no_place s t es h z.1)

-- in a good bundle there is no text under them
pub not_a_name : (s t : List ℕ) {es : List Text} {n : ℕ} → bundle_at s ≡ good es n → (NameBytes t → ⊥) → look_up s t ≡ (Ok None)
unfolding look_up
not_a_name s t {es} {n} e h =
    let o = bundle_parted s e in
    ap (look_in t) e
    ∙ ap looked (no_place s t es h (texts_sized s o.count o.first [] tt o.texts))
