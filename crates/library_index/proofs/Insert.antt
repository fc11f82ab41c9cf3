-- A name that is stored behind the others keeps what the table keeps.
-- Assumes nothing.
use Rattle.std.specs.Prelude.{Some, None, Option}
use Rattle.std.specs.Option.{is_some}
use mathlib.Core.Path.{◌≡◌, refl, sym, ap, ap₂, ◌∙◌}
use mathlib.Core.Logic.{⊎_elim}
use mathlib.Core.List.{List, [], ◌∷◌, ◌++◌}
use mathlib.Core.Bool.{Bool, true, false, cond, not}
use Prim.Native.Nat.{ℕ, zero, suc, ◌+◌, ◌-◌, ◌*◌, ◌≤◌, ◌<◌}
use native.Mathlib.Omega.{arith}
use native.Mathlib.Nat.{eq-or-lt_of_le}
use native.Mathlib.Numerals.{add-one}
use lib.ListN.{length, get_or, take, drop}
use lib.Dec.{eqb}
use borrow.Author.Tests.{eq-eqb, ne_eqb}
use Rattle.library_form.specs.Form.{PlacedName, word_at}
use Rattle.library_form.proofs.Bounds.{part_word}
use Rattle.library_index.specs.Names.{first_of, name_in_row, names_in, hash_of, top_in, Indexed, Room, Added, Stored, Cleared}
use Rattle.text_lent.proofs.Numbers.{decide}

-- ---- an empty table

pub none_yet : (s before tab : List ℕ) → Cleared before tab → Indexed s tab 0
unfolding top_in
none_yet s before tab e = record {
  long = omega (arith, e.long);
  small = omega arith;
  heads = e.heads;
  links = λ i l. absurd (omega arith);
  inside = λ i l. absurd (omega arith);
  differ = λ i l. absurd (omega arith);
}

-- ---- tables whose first n names agree

module _ (s tab after : List ℕ) (n : ℕ) (same : (i : ℕ) → i < n → name_in_row s after i ≡ name_in_row s tab i) where
  names_same : (m : ℕ) → m ≤ n → names_in s after m ≡ names_in s tab m
  unfolding names_in
  names_same zero l = refl
  names_same (suc m) l = ap₂ (λ (ws : List PlacedName) (w : PlacedName). ws ++ (w ∷ [])) (names_same m (omega arith)) (same m (omega arith))

  top_same : (h m : ℕ) → m ≤ n → top_in s after h m ≡ top_in s tab h m
  unfolding top_in
  top_same h zero l = refl
  top_same h (suc m) l = ap₂ (λ (w : PlacedName) (k : ℕ). cond (eqb (hash_of w.text) h) (suc m) k) (same m (omega arith)) (top_same h m (omega arith))

-- ---- one name more

module _ (s tab after : List ℕ) (n h place len : ℕ) (g : Indexed s tab n) (q : Stored tab n h place len after)
    (b : h ≡ hash_of (word_at s place len).text) (low : h < 2048) (free : 2048 + n * 3 + 3 ≤ length tab) (few : n < 16777216) where
  same : (i : ℕ) → i < n → name_in_row s after i ≡ name_in_row s tab i
  same i l = ap₂ (word_at s) (q.rows (2048 + i * 3) (omega arith) (omega arith)) (q.rows (2048 + i * 3 + 1) (omega arith) (omega arith))

  own : name_in_row s after n ≡ word_at s place len
  own = ap₂ (word_at s) q.place_of q.len_of

  grown : names_in s after (n + 1) ≡ names_in s tab n ++ (word_at s place len ∷ [])
  unfolding names_in
  grown = rw add-one (ap₂ (λ (ws : List PlacedName) (w : PlacedName). ws ++ (w ∷ [])) (names_same s tab after n same n (omega arith)) own)

  -- the buckets
  in_own : top_in s after h (suc n) ≡ suc n
  unfolding top_in
  in_own = ap (λ (w : PlacedName). cond (eqb (hash_of w.text) h) (suc n) (top_in s after h n)) own
      ∙ rw (eq-eqb (hash_of (word_at s place len).text) h (sym b))

  in_other : (k : ℕ) → (k ≡ h → ⊥) → top_in s after k (suc n) ≡ top_in s tab k n
  unfolding top_in
  in_other k d = ap (λ (w : PlacedName). cond (eqb (hash_of w.text) k) (suc n) (top_in s after k n)) own
      ∙ rw (ne_eqb (hash_of (word_at s place len).text) k (λ e. d (sym (b ∙ e)))) (top_same s tab after n same k n (omega arith))

  heads : (k : ℕ) → k < 2048 → get_or after k 0 ≡ top_in s after k (suc n)
  heads k l = ⊎_elim
      (λ e. ap (λ (k : ℕ). get_or after k 0) e ∙ q.head_of ∙ add-one n ∙ sym in_own ∙ ap (λ (k : ℕ). top_in s after k (suc n)) (sym e))
      (λ d. q.heads k l d ∙ g.heads k l ∙ sym (in_other k d))
      (decide k h)

  links : (i : ℕ) → i < suc n → get_or after (2048 + i * 3 + 2) 0 ≡ top_in s after (hash_of (name_in_row s after i).text) i
  links i l = ⊎_elim
      (λ e. ap (λ (k : ℕ). get_or after (2048 + k * 3 + 2) 0) e ∙ q.link_of_lem ∙ g.heads h low
      ∙ sym (top_same s tab after n same h n (omega arith))
      ∙ ap (λ (k : ℕ). top_in s after k n) (b ∙ ap (λ (w : PlacedName). hash_of w.text) (sym own))
      ∙ ap (λ (k : ℕ). top_in s after (hash_of (name_in_row s after k).text) k) (sym e))
      (λ m. q.rows (2048 + i * 3 + 2) (omega arith) (omega arith) ∙ g.links i m
      ∙ sym (top_same s tab after n same (hash_of (name_in_row s tab i).text) i (omega arith))
      ∙ ap (λ (w : PlacedName). top_in s after (hash_of w.text) i) (sym (same i m)))
      (eq-or-lt_of_le {n = i} {m = n} (omega arith))

  inside : place + len ≤ length s → (i : ℕ) → i < suc n → get_or after (2048 + i * 3) 0 + get_or after (2048 + i * 3 + 1) 0 ≤ length s
  inside w i l = ⊎_elim
      (λ e. let p : get_or after (2048 + i * 3) 0 ≡ place = ap (λ (k : ℕ). get_or after (2048 + k * 3) 0) e ∙ q.place_of in
      let z : get_or after (2048 + i * 3 + 1) 0 ≡ len = ap (λ (k : ℕ). get_or after (2048 + k * 3 + 1) 0) e ∙ q.len_of in omega arith)
      (λ m. let x : get_or after (2048 + i * 3) 0 ≡ get_or tab (2048 + i * 3) 0 = q.rows (2048 + i * 3) (omega arith) (omega arith) in
      let y : get_or after (2048 + i * 3 + 1) 0 ≡ get_or tab (2048 + i * 3 + 1) 0 = q.rows (2048 + i * 3 + 1) (omega arith) (omega arith) in
      omega (arith, g.inside i m))
      (eq-or-lt_of_le {n = i} {m = n} (omega arith))

  differ : first_of (word_at s place len).text (names_in s tab n) ≡ None
      → (i : ℕ) → i < suc n → first_of (name_in_row s after i).text (names_in s after i) ≡ None
  differ f i l = ⊎_elim
      (λ e. ap (λ (k : ℕ). first_of (name_in_row s after k).text (names_in s after k)) e
      ∙ ap₂ (λ (w : PlacedName) (ws : List PlacedName). first_of w.text ws) own (names_same s tab after n same n (omega arith)) ∙ f)
      (λ m. ap₂ (λ (w : PlacedName) (ws : List PlacedName). first_of w.text ws) (same i m) (names_same s tab after n same i (omega arith)) ∙ g.differ i m)
      (eq-or-lt_of_le {n = i} {m = n} (omega arith))

  kept : place + len ≤ length s → first_of (word_at s place len).text (names_in s tab n) ≡ None → Indexed s after (n + 1)
  kept w f = rw add-one (record {
    long = omega (arith, q.kept);
    small = omega arith;
    heads = heads;
    links = links;
    inside = inside w;
    differ = differ f;
  })

-- ---- the ways out of `add`

-- the test of the code
there_is_none : (r : Option ℕ) {t : Bool} → is_some r ≡ not t → t ≡ true → r ≡ None
there_is_none None p q = refl
there_is_none (Some i) p q = let z : true ≡ false = p ∙ ap not q in cc

there_is : {r : Option ℕ} {t : Bool} → is_some r ≡ not t → t ≡ false → r ≡ None → ⊥
there_is {r} {t} p q e = let z : false ≡ true = ap is_some (sym e) ∙ p ∙ ap not q in cc

module _ (s tab : List ℕ) (n place len : ℕ) (m : Room s tab n place len) where
  module _ {r : Option ℕ} (e : r ≡ first_of (take (place + len - place) (drop place s)) (names_in s tab n)) where
    found : r ≡ first_of (word_at s place len).text (names_in s tab n)
    found = e ∙ ap (λ (t : List ℕ). first_of t (names_in s tab n)) (part_word s place len)

    pub already : {t : Bool} → is_some r ≡ not t → t ≡ false → Added s tab n place len r tab
    already p q = record {
      answer = found;
      kept = refl;
      there = λ i e. refl;
      indexed = λ k. absurd (there_is p q k);
      names = λ k. absurd (there_is p q k);
    }

    pub added : {t : Bool} {h : ℕ} {after : List ℕ} → is_some r ≡ not t → t ≡ true → h ≡ hash_of (take (place + len - place) (drop place s)) → h < 2048
        → Stored tab n h place len after → Added s tab n place len r after
    added {t} {h} {after} p k b l q =
        let f = there_is_none r p k in
        let b' : h ≡ hash_of (word_at s place len).text = b ∙ ap hash_of (part_word s place len) in
        record {
          answer = found;
          kept = q.kept;
          there = λ i k. cc;
          indexed = λ k. kept s tab after n h place len m.indexed q b' l m.free m.small m.within (sym found ∙ f);
          names = λ k. grown s tab after n h place len m.indexed q b' l m.free m.small;
        }
