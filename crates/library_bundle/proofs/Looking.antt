-- One law for each way out of `find`, `text_at`, `text`, `text_under` and `find_text`.
-- Assumes nothing.
use Rattle.std.specs.Prelude.{Ok, Err, Some, None, Result, Option}
use Rattle.std.specs.Result.{result_ok}
use mathlib.Core.Path.{◌≡◌, refl, sym, ap, ap₂, ◌∙◌}
use mathlib.Core.List.{List, [], ◌∷◌}
use mathlib.Core.Bool.{Bool, true, false, cond}
use Prim.Native.Nat.{ℕ, ◌+◌, ◌-◌, ◌^◌, ◌≤◌, ◌<◌}
use native.Mathlib.Omega.{arith}
use lib.ListN.{length, get_or, take, drop}
use mir.Syntax.{w64}
use mir.Val.{Fits}
use Rattle.text.specs.Keyword.{same}
use Rattle.library_form.specs.Form.{Ans, good, bad, PlacedName, number_at, number_seen}
use Rattle.library_form.specs.declared.ImageCursor.{ImageCursor}
use Rattle.library_index.specs.Names.{row_of, row_words, first_of, first_by, names_in}
use Rattle.library_index.proofs.First.{no_hit, hit_low, the_hit}
use Rattle.library_bundle.specs.Bundle.{Text, words, bundle_at, place_of, looked, look_in, look_up, part_of, text_under}
use Rattle.library_bundle.specs.Reading.{counted, Sizes, Held, OpenedAs}

-- ---- the look-up in the list is a search through the names for the number behind them

abbrev seen_place : Ans ℕ → Option (ℕ × ℕ)
seen_place (good z f) = Some (f, z)
seen_place (bad p) = None

abbrev behind : List ℕ → PlacedName → Option (ℕ × ℕ)
behind s w = seen_place (number_at s (w.place + w.size))

place_first : (s t : List ℕ) (es : List Text) → Sizes s es → place_of t es ≡ first_by (λ w. w) (behind s) t (words es) None
place_first s t [] h = refl
place_first s t (e ∷ es) h = rw h.0.length_of (ap (cond (same e.word.text t) (Some (e.from, e.size))) (place_first s t es h.1))

pub place_in : (s t : List ℕ) (es : List Text) {f z : ℕ} → Sizes s es → place_of t es ≡ Some (f, z) → f + z ≤ length s
place_in s t [] h e = let z : ◌≡◌ {A = ℕ} 0 1 = cc in absurd (omega arith)
place_in s t (d ∷ es) {f} {z} h e = go (same d.word.text t) (place_in s t es h.1) e
  where
    go : (b : Bool) → (place_of t es ≡ Some (f, z) → f + z ≤ length s) → cond b (Some (d.from, d.size)) (place_of t es) ≡ Some (f, z) → f + z ≤ length s
    go true ih e =
        let q : ◌≡◌ {A = ℕ × ℕ} (d.from, d.size) (f, z) = cc in
        omega (arith, h.0.within, ap (λ (p : ℕ × ℕ). p.0) q, ap (λ (p : ℕ × ℕ). p.1) q)
    go false ih e = ih e

pub is_at : (p : Option (ℕ × ℕ)) {f z : ℕ} → looked p ≡ Ok (Some (f, z)) → p ≡ Some (f, z)
is_at (Some p) e = cc
is_at None e = let z : ◌≡◌ {A = ℕ} 0 1 = cc in absurd (omega arith)

module _ (s tab t : List ℕ) (n : ℕ) (g : Held s tab n) where
  pub held_look : look_up s t ≡ looked (place_of t g.texts)
  unfolding look_up
  held_look = ap (look_in t) g.read

-- ---- the ways out of `find`

module _ (s tab t : List ℕ) (n : ℕ) (g : Held s tab n) {r : Option ℕ} (a : r ≡ first_of t (names_in s tab n)) where
  sought : look_up s t ≡ looked (first_by (λ w. w) (behind s) t (names_in s tab n) None)
  sought =
      held_look s tab t n g
      ∙ ap looked (place_first s t g.texts g.sizes ∙ ap (λ (ws : List PlacedName). first_by (λ w. w) (behind s) t ws None) (sym g.names))

  pub unnamed : r ≡ None → looked None ≡ look_up s t
  unnamed e = sym (sought ∙ ap looked (no_hit (behind s) None s tab t n (sym a ∙ e)))

  module _ {i : ℕ} (e : r ≡ Some i) where
    low : i < n
    low = hit_low s tab t n (sym a ∙ e)

    pub low_word : row_of i + row_words ≤ length tab
    low_word = omega (arith, low, g.indexed.long)

    module _ {place len : ℕ} (p : place ≡ get_or tab (row_of i) 0) (l : len ≡ get_or tab (row_of i + 1) 0) where
      pub name_fits : length s < 2 ^ 64 → Fits w64 (place + len)
      name_fits h = record { fits = omega (arith, g.indexed.inside i low) }

      text_place : look_up s t ≡ looked (seen_place (number_at s (place + len)))
      text_place =
          sought
          ∙ ap looked (the_hit (behind s) None s tab t n (sym a ∙ e) ∙ ap₂ (λ (x y : ℕ). seen_place (number_at s (x + y))) (sym p) (sym l))

      pub unsized : (q : Result (ℕ × ImageCursor) ℕ) → number_seen q ≡ number_at s (place + len) → None ≡ result_ok q → looked None ≡ look_up s t
      unsized (Ok v) f h = let z : ◌≡◌ {A = ℕ} 0 1 = cc in absurd (omega arith)
      unsized (Err x) f h = sym (text_place ∙ ap (λ (b : Ans ℕ). looked (seen_place b)) (sym f))

      pub stands : (q : Result (ℕ × ImageCursor) ℕ) {size : ℕ} {c : ImageCursor} → number_seen q ≡ number_at s (place + len) → Some (size, c) ≡ result_ok q
          → looked (Some (c.at, size)) ≡ look_up s t
      stands (Err x) f h = let z : ◌≡◌ {A = ℕ} 0 1 = cc in absurd (omega arith)
      stands (Ok v) {size} {c} f h =
          let e : ◌≡◌ {A = ℕ × ImageCursor} (size, c) v = cc in
          ap (λ (v : ℕ × ImageCursor). looked (Some (v.1.at, v.0))) e ∙ sym (text_place ∙ ap (λ (b : Ans ℕ). looked (seen_place b)) (sym f))

-- ---- the way out of `text_at`

pub part_is : (s : List ℕ) (from size : ℕ) → take (from + size - from) (drop from s) ≡ take size (drop from s)
part_is s from size = let z : from + size - from ≡ size = omega arith in rw z

-- ---- the ways out of `text` and `find_text`, by what `find` answered

module _ (s t : List ℕ) {r : Option (ℕ × ℕ)} (a : looked r ≡ look_up s t) where
  pub is_missing : r ≡ None → (Ok None) ≡ look_up s t
  is_missing e = sym (ap looked e) ∙ a

  pub is_there : {from size : ℕ} → r ≡ Some (from, size) → Ok (Some (from, size)) ≡ look_up s t
  is_there e = sym (ap looked e) ∙ a

  pub no_text_lem : r ≡ None → [] ≡ text_under s t
  unfolding text_under
  no_text_lem e = ap (part_of s) (is_missing e)

  module _ {from size : ℕ} (e : r ≡ Some (from, size)) where
    -- x: the bytes there
    pub the_text : {x : List ℕ} → x ≡ take size (drop from s) → x ≡ text_under s t
    unfolding text_under
    the_text h = h ∙ ap (part_of s) (is_there e)

    module _ (tab : List ℕ) (n : ℕ) (g : Held s tab n) where
      pub text_in : from + size ≤ length s
      text_in = place_in s t g.texts g.sizes (is_at (place_of t g.texts) (sym (held_look s tab t n g) ∙ sym (is_there e)))

-- ---- the ways out of `text_under` and `find_text`, by what `open` answered

module _ (s t tab : List ℕ) {p : ℕ} (o : OpenedAs s (Err p) tab) where
  broken : bundle_at s ≡ bad p
  broken = go (bundle_at s) refl
    where
      go : (a : Ans (List Text)) → bundle_at s ≡ a → a ≡ bad p
      go (good es n) h =
          let x : bad p ≡ counted (good es n) = o.answer ∙ ap counted h in
          let z : ◌≡◌ {A = ℕ} 0 1 = cc in absurd (omega arith)
      go (bad q) h =
          let x : bad p ≡ counted (bad q) = o.answer ∙ ap counted h in
          let y : p ≡ q = cc in ap bad (sym y)

  pub is_broken : Err p ≡ look_up s t
  unfolding look_up
  is_broken = let b = broken in rw b

  pub nothing_held : [] ≡ text_under s t
  unfolding text_under
  nothing_held = ap (part_of s) is_broken

pub held_table : {s tab : List ℕ} {n : ℕ} → OpenedAs s (Ok n) tab → Held s tab n
held_table {n = n} o = o.held n refl

-- what `find` answered is the answer of `find_text`
pub as_looked : (r : Option (ℕ × ℕ)) {a : Result (Option (ℕ × ℕ)) ℕ} → looked r ≡ a → Ok r ≡ a
as_looked (Some p) e = e
as_looked None e = e
