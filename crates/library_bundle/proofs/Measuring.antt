-- The longest text. Behind the i-th name of the table stands the length of the i-th text, so the largest of the lengths behind the first i names is
-- that of the first i texts; and a text that is found is one of them.
-- Assumes nothing.
use Rattle.std.specs.Prelude.{Ok, Some}
use mathlib.Core.Path.{◌≡◌, refl, sym, ap, ◌∙◌}
use mathlib.Core.List.{List, [], ◌∷◌, ◌++◌}
use mathlib.Core.Bool.{Bool, true, false, cond}
use Prim.Native.Nat.{ℕ, suc, max, ◌+◌, ◌≤◌, ◌<◌}
use native.Mathlib.Omega.{arith}
use lib.ListN.{get_or}
use Rattle.text.specs.Keyword.{same}
use Rattle.library_form.specs.Form.{Ans, good, bad, PlacedName, number_at}
use Rattle.library_index.specs.Names.{row_of, name_in_row, names_in}
use Rattle.library_bundle.specs.Bundle.{Text, words, place_of, look_up}
use Rattle.library_bundle.specs.Reading.{Sizes, Held, longest_of, texts_or, longest_text, size_read, size_behind, size_in, NameHeld}
use Rattle.library_bundle.proofs.Looking.{held_look, is_at}

-- ---- the ways out of `size_of`

module _ (s tab : List ℕ) (i : ℕ) {place len : ℕ} (p : place ≡ get_or tab (row_of i) 0) (l : len ≡ get_or tab (row_of i + 1) 0) where
  size_seen : {a : Ans ℕ} → a ≡ number_at s (place + len) → size_read a ≡ size_in s tab i
  unfolding size_in
  size_seen f = rw (← p, ← l) (ap size_read f)

  pub no_size : {x : ℕ} → bad x ≡ number_at s (place + len) → 0 ≡ size_in s tab i
  no_size h = size_seen h

  pub the_size : {size from : ℕ} → good size from ≡ number_at s (place + len) → size ≡ size_in s tab i
  the_size h = size_seen h

-- ---- the largest of the lengths behind names

unfoldable pub most_behind : List ℕ → List PlacedName → ℕ
most_behind s [] = 0
most_behind s (w ∷ ws) = max (size_behind s w) (most_behind s ws)

most_snoc : (s : List ℕ) (ws : List PlacedName) (w : PlacedName) → most_behind s (ws ++ (w ∷ [])) ≡ max (most_behind s ws) (size_behind s w)
unfolding most_behind
most_snoc s [] w = omega arith
most_snoc s (v ∷ ws) w = omega (arith, most_snoc s ws w)

most_longest : (s : List ℕ) (es : List Text) → Sizes s es → most_behind s (words es) ≡ longest_of es
unfolding most_behind longest_of
most_longest s [] h = refl
most_longest s (e ∷ es) h = rw h.0.length_of (ap (max e.size) (most_longest s es h.1))

most_more : (s tab : List ℕ) (i : ℕ) → most_behind s (names_in s tab (i + 1)) ≡ max (most_behind s (names_in s tab i)) (size_in s tab i)
unfolding names_in size_in
most_more s tab i = let e : i + 1 ≡ suc i = omega arith in rw e (most_snoc s (names_in s tab i) (name_in_row s tab i))

-- ---- the loop of `longest`

pub record Measured (s tab : List ℕ) (n most i : ℕ) : Type 0 where
  pub held : Held s tab n
  pub room : i ≤ n
  pub most_is : most ≡ most_behind s (names_in s tab i)

module _ (s tab : List ℕ) (n : ℕ) where
  pub measured_none : Held s tab n → Measured s tab n 0 0
  unfolding names_in most_behind
  measured_none h = record { held = h; room = omega arith; most_is = refl }

  module _ {most i : ℕ} (g : Measured s tab n most i) where
    pub row_held : i < n → NameHeld s tab i
    row_held h = record { row = omega (arith, g.held.indexed.long); inside = g.held.indexed.inside i h }

    pub measured_more : {z m : ℕ} → z ≡ size_in s tab i → m ≡ max z most → i < n → Measured s tab n m (i + 1)
    measured_more {z} {m} e f h = record { held = g.held; room = omega arith; most_is = omega (arith, f, e, g.most_is, most_more s tab i) }

    pub measured_all : n ≤ i → most ≡ longest_text s
    unfolding longest_text
    measured_all h =
        let k : i ≡ n = omega (arith, g.room) in
        g.most_is
        ∙ ap (λ j. most_behind s (names_in s tab j)) k
        ∙ ap (most_behind s) g.held.names
        ∙ most_longest s g.held.texts g.held.sizes
        ∙ sym (ap (λ a. longest_of (texts_or a)) g.held.read)

-- ---- a text that is found

place_low : (t : List ℕ) (es : List Text) {f z : ℕ} → place_of t es ≡ Some (f, z) → z ≤ longest_of es
unfolding longest_of
place_low t [] e = let z : ◌≡◌ {A = ℕ} 0 1 = cc in absurd (omega arith)
place_low t (d ∷ es) {f} {z} e = go (same d.word.text t) (place_low t es) e
  where
    go : (b : Bool) → (place_of t es ≡ Some (f, z) → z ≤ longest_of es) → cond b (Some (d.from, d.size)) (place_of t es) ≡ Some (f, z)
        → z ≤ max d.size (longest_of es)
    go true ih e = let q : ◌≡◌ {A = ℕ × ℕ} (d.from, d.size) (f, z) = cc in omega (arith, ap (λ (p : ℕ × ℕ). p.1) q)
    go false ih e = omega (arith, ih e)

module _ (s tab t : List ℕ) (n : ℕ) (g : Held s tab n) {from size : ℕ} (e : look_up s t ≡ Ok (Some (from, size))) where
  found : place_of t g.texts ≡ Some (from, size)
  found = is_at (place_of t g.texts) (sym (held_look s tab t n g) ∙ e)

  pub found_low : size ≤ longest_text s
  unfolding longest_text
  found_low = rw g.read (place_low t g.texts found)
