-- What a proof uses of the definitions of `specs/Keyword.antt`. What the code tests is the document's keyword, since no byte that ends a
-- keyword belongs to an identifier: one computed test over the table.
-- Assumes nothing.
use Rattle.std.specs.Bool.{then_some}
use Rattle.std.proofs.lemmas.List.{drop_min}
use lib.Seq.{take_all}
use Rattle.std.specs.Prelude.{Some, None, Option}
use mathlib.Core.Path.{◌≡◌, refl, sym, ap, ap₂, ◌∙◌}
use mathlib.Core.Bool.{Bool, true, false, not, ◌&&◌}
use mathlib.Core.List.{List, [], ◌∷◌}
use Prim.Native.Nat.{ℕ, zero, suc, ◌+◌, ◌-◌, ◌≤◌, ◌<◌, min}
use native.Mathlib.Nat.{add-zero, lt_of_not-le}
use native.Mathlib.Decide.{dec_le}
use native.Mathlib.Omega.{arith}
use lib.ListN.{get_or, length, take, drop, length-drop, length-take, drop_of_length-le}
use lib.Seq.{get_or-drop}
use lib.Dec.{eqb, T}
use borrow.Author.Tests.{eq-eqb, ne_eqb, eqb-true, le-leb, lt-leb}
use Rattle.text.specs.Class.{class_of, class_table}
use Rattle.text.specs.Scan.{in_ident, in_run, span, run_end}
use Rattle.text.specs.Keyword.{ends_keyword, starts_ident, same, part, keyword_at, match_at, or_match, first_byte, next_byte, word_rest, wordly, begins}
use Rattle.text.specs.declared.Cursor.{Cursor}
use Rattle.text.specs.declared.Run.TheVariants.{Ident}
use Rattle.text.proofs.ClassLaws.{class_high}
use Rattle.text.proofs.Table.{at}
use Rattle.text.proofs.Here.{by_test, here, past, rest_or, never, both}
use Rattle.text.proofs.Laws.{span_most, in_ident_lem, run_more, run_from, run_within}

-- ---- equal lists

same_refl : (xs : List ℕ) → same xs xs ≡ true
unfolding same
same_refl [] = refl
same_refl (x ∷ xs) = simp (eq-eqb x x refl, same_refl xs)

pub same_yes : (xs ys : List ℕ) → xs ≡ ys → same xs ys ≡ true
same_yes xs ys e = rw e (same_refl ys)

pub same_eq : (xs ys : List ℕ) → same xs ys ≡ true → xs ≡ ys
unfolding same
same_eq [] [] h = refl
same_eq [] (y ∷ ys) h = cc
same_eq (x ∷ xs) [] h = cc
same_eq (x ∷ xs) (y ∷ ys) h = by_test (eqb x y) (λ e. ap₂ ◌∷◌ (eqb-true x y e) (same_eq xs ys (simp e at h))) (λ e. let z = simp e at h in cc)

pub same_no : (xs ys : List ℕ) → (xs ≡ ys → ⊥) → same xs ys ≡ false
same_no xs ys h = by_test (same xs ys) (λ e. absurd (h (same_eq xs ys e))) (λ e. e)

-- ---- the bytes of a word

imp : Bool → Bool → Bool
imp true b = b
imp false b = true

imp_use : (p q : Bool) → T (imp p q) → p ≡ true → q ≡ true
unfolding imp
imp_use true true t h = refl
imp_use true false t h = absurd t
imp_use false q t h = absurd (never refl h)

first_test : ℕ → ℕ → Bool
first_test k x = imp (first_byte k) (starts_ident k)

next_test : ℕ → ℕ → Bool
next_test k x = imp (next_byte k) (in_ident k)

end_test : ℕ → ℕ → Bool
end_test k x = imp (ends_keyword k) (not (in_ident k))

next_high : (b : ℕ) → 128 ≤ b → next_byte b ≡ false
next_high b h =
    simp (
      lt-leb b 57 (omega arith),
      lt-leb b 90 (omega arith),
      lt-leb b 122 (omega arith),
      le-leb 48 b (omega arith),
      le-leb 65 b (omega arith),
      le-leb 97 b (omega arith),
      ne_eqb b 95 (λ e. omega arith),
      ne_eqb b 45 (λ e. omega arith),
      ne_eqb b 46 (λ e. omega arith),
    )

first_high : (b : ℕ) → 128 ≤ b → first_byte b ≡ false
first_high b h =
    simp (
      lt-leb b 90 (omega arith),
      lt-leb b 122 (omega arith),
      le-leb 65 b (omega arith),
      le-leb 97 b (omega arith),
      ne_eqb b 95 (λ e. omega arith),
    )

by_size {ℓ} : {X : Type ℓ} (b : ℕ) → (b < 128 → X) → (128 ≤ b → X) → X
by_size b f g = elim (dec_le 128 b) [ yes p ↦ g p | no p ↦ f (lt_of_not-le p) ]

first_starts : (b : ℕ) → first_byte b ≡ true → starts_ident b ≡ true
unfolding first_test imp starts_ident class_of
first_starts b h = by_size b (λ l. imp_use (first_byte b) (starts_ident b) (at first_test class_table tt b l) h) (λ g. absurd (never (first_high b g) h))

next_in : (b : ℕ) → next_byte b ≡ true → in_ident b ≡ true
unfolding next_test imp in_ident class_of
next_in b h = by_size b (λ l. imp_use (next_byte b) (in_ident b) (at next_test class_table tt b l) h) (λ g. absurd (never (next_high b g) h))

high_out : (b : ℕ) → 128 ≤ b → in_ident b ≡ false
unfolding in_ident
high_out b h =
    simp (class_high b h, ne_eqb b 95 (λ e. omega arith), ne_eqb b 45 (λ e. omega arith), ne_eqb b 46 (λ e. omega arith))

not-true : (b : Bool) → not b ≡ true → b ≡ false
not-true true h = absurd (never refl h)
not-true false h = refl

-- no byte that ends a keyword belongs to an identifier
ends_out : (b : ℕ) → ends_keyword b ≡ true → in_ident b ≡ false
unfolding end_test imp ends_keyword in_ident class_of
ends_out b h =
    by_size b (λ l. not-true (in_ident b) (imp_use (ends_keyword b) (not (in_ident b)) (at end_test class_table tt b l) h)) (λ g. high_out b g)

-- ---- beginning with a word

not_both : (p q : Bool) → (p ≡ true → q ≡ true → ⊥) → (p && q) ≡ false
not_both true true h = absurd (h refl refl)
not_both true false h = refl
not_both false q h = refl

begins_room : (ws xs : List ℕ) → begins ws xs ≡ true → length ws ≤ length xs
unfolding begins
begins_room [] xs h = omega arith
begins_room (w ∷ ws) [] h = absurd (never refl h)
begins_room (w ∷ ws) (x ∷ xs) h = omega (arith, begins_room ws xs (both (eqb x w) (begins ws xs) h).1)

-- the slice that holds the rest of a text from a place on, which is empty past the end
pub rest_is : (s : List ℕ) (at : ℕ) {m : ℕ} → m ≡ min at (length s) → take (length s - m) (drop m s) ≡ drop at s
rest_is s at {m} e = take_all (length s - m) (drop m s) (omega (arith, length-drop m s)) ∙ ap (λ i. drop i s) e ∙ drop_min at s

pub begins_short : (ws xs : List ℕ) → length xs < length ws → begins ws xs ≡ false
begins_short ws xs h = by_test (begins ws xs) (λ t. absurd (omega (arith, begins_room ws xs t))) (λ f. f)

-- a byte of the word beside one of the text
module _ (ws xs : List ℕ) (i : ℕ) (h : i < length ws) (k : i < length xs) where
  both_here : begins (drop i ws) (drop i xs) ≡ (eqb (get_or xs i 0) (get_or ws i 0) && begins (drop (i + 1) ws) (drop (i + 1) xs))
  unfolding begins
  both_here = rw (rest_or ws i 0 h, rest_or xs i 0 k) refl

  pub begins_more : get_or xs i 0 ≡ get_or ws i 0 → begins (drop (i + 1) ws) (drop (i + 1) xs) ≡ begins (drop i ws) (drop i xs)
  begins_more e = sym (both_here ∙ rw (eq-eqb (get_or xs i 0) (get_or ws i 0) e) refl)

  pub begins_other : (get_or xs i 0 ≡ get_or ws i 0 → ⊥) → begins (drop i ws) (drop i xs) ≡ false
  begins_other n = both_here ∙ rw (ne_eqb (get_or xs i 0) (get_or ws i 0) n) refl

pub begins_done : (ws xs : List ℕ) (i : ℕ) → length ws ≤ i → begins (drop i ws) (drop i xs) ≡ true
unfolding begins
begins_done ws xs i h = rw (drop_of_length-le ws h) refl

-- ---- a keyword

-- no identifier begins here: no keyword stands here
pub match_none : (s : List ℕ) (at : ℕ) (word : List ℕ) {p : ℕ} {t : Bool} → p ≡ get_or s at 256 → t ≡ starts_ident p → t ≡ false → match_at s at word ≡ None
unfolding match_at keyword_at
match_none s at word pe te n = let a : starts_ident (get_or s at 256) ≡ false = cc in rw a

-- bytes that begin with a word, and no identifier's byte after it: the identifier is the word
span_word : (ws xs : List ℕ) → word_rest ws ≡ true → begins ws xs ≡ true → in_ident (get_or xs (length ws) 256) ≡ false → span (in_run Ident) xs ≡ length ws
unfolding begins span in_run
span_word [] [] r h n = refl
span_word [] (x ∷ xs) r h n = rw n refl
span_word (w ∷ ws) [] r h n = absurd (never refl h)
span_word (w ∷ ws) (x ∷ xs) r h n =
    let k = both (eqb x w) (begins ws xs) h in
    let q = both (next_byte w) (word_rest ws) r in
    let e : in_ident x ≡ true = ap in_ident (eqb-true x w k.0) ∙ next_in w q.0 in
    rw e (ap suc (span_word ws xs q.1 k.1 n))

take_word : (ws xs : List ℕ) → begins ws xs ≡ true → take (length ws) xs ≡ ws
unfolding begins
take_word [] xs h = refl
take_word (w ∷ ws) [] h = absurd (never refl h)
take_word (w ∷ ws) (x ∷ xs) h = let k = both (eqb x w) (begins ws xs) h in ap₂ ◌∷◌ (eqb-true x w k.0) (take_word ws xs k.1)

begins_take : (n : ℕ) (xs : List ℕ) → begins (take n xs) xs ≡ true
unfolding begins
begins_take zero xs = refl
begins_take (suc n) [] = refl
begins_take (suc n) (x ∷ xs) = rw (eq-eqb x x refl) (begins_take n xs)

word_starts : (word xs : List ℕ) → wordly word ≡ true → begins word xs ≡ true → starts_ident (get_or xs 0 256) ≡ true
unfolding begins
word_starts [] xs w h = absurd (never refl w)
word_starts (b ∷ ws) [] w h = absurd (never refl h)
word_starts (b ∷ ws) (x ∷ xs) w h =
    ap starts_ident (eqb-true x b (both (eqb x b) (begins ws xs) h).0) ∙ first_starts b (both (first_byte b) (word_rest (b ∷ ws)) w).0

word_rest_lem : (word : List ℕ) → wordly word ≡ true → word_rest word ≡ true
word_rest_lem [] w = refl
word_rest_lem (b ∷ ws) w = (both (first_byte b) (word_rest (b ∷ ws)) w).1

get_d_here : (s : List ℕ) (at : ℕ) → get_or (drop at s) 0 256 ≡ get_or s at 256
get_d_here s at = rw (get_or-drop, add-zero) refl

module _ (s : List ℕ) (at : ℕ) (word : List ℕ) where
  abbrev run : ℕ
  run = run_end Ident s at

  run_is : span (in_run Ident) (drop at s) ≡ length word → run ≡ at + length word
  unfolding run_end
  run_is e = ap (λ i. at + i) e

  -- what the document says of a keyword gives what the code tests
  keyword_gives : keyword_at s at word ≡ true → (begins word (drop at s) ≡ true) × (run ≡ at + length word) × (ends_keyword (get_or s run 256) ≡ true)
  unfolding keyword_at part run_end
  keyword_gives h =
      let n = span (in_run Ident) (drop at s) in
      let k = both (starts_ident (get_or s at 256) && same (part s at run) word) (ends_keyword (get_or s run 256)) h in
      let m = (both (starts_ident (get_or s at 256)) (same (part s at run) word) k.0).1 in
      let e : at + n - at ≡ n = omega arith in
      let t : take n (drop at s) ≡ word = ap (λ i. take i (drop at s)) (sym e) ∙ same_eq (part s at run) word m in
      let l : n ≡ length word = omega (arith, ap length t, length-take n (drop at s), span_most (in_run Ident) (drop at s)) in
      (ap (λ v. begins v (drop at s)) (sym t) ∙ begins_take n (drop at s), ap (λ i. at + i) l, k.1)

  module _ (w : wordly word ≡ true) where
    -- and what the code tests gives what the document says
    keyword_given : begins word (drop at s) ≡ true → ends_keyword (get_or s (at + length word) 256) ≡ true → keyword_at s at word ≡ true
    unfolding keyword_at part
    keyword_given b e =
        let out : in_ident (get_or (drop at s) (length word) 256) ≡ false = rw (get_or-drop) (ends_out (get_or s (at + length word) 256) e) in
        let r : run ≡ at + length word = run_is (span_word word (drop at s) (word_rest_lem word w) b out) in
        let d : at + length word - at ≡ length word = omega arith in
        let f : starts_ident (get_or s at 256) ≡ true = ap starts_ident (sym (get_d_here s at)) ∙ word_starts word (drop at s) w b in
        let p : same (take (at + length word - at) (drop at s)) word ≡ true = same_yes _ _ (ap (λ i. take i (drop at s)) d ∙ take_word word (drop at s) b) in
        rw r (rw (f, p, e) refl)

    -- one law: the document's keyword is what the code tests
    pub keyword_is : keyword_at s at word ≡ (begins word (drop at s) && ends_keyword (get_or s (at + length word) 256))
    keyword_is =
        by_test (keyword_at s at word)
        (λ t. let g = keyword_gives t in
        let e : ends_keyword (get_or s (at + length word) 256) ≡ true = ap (λ i. ends_keyword (get_or s i 256)) (sym g.1) ∙ g.2 in
        t ∙ sym (rw (g.0, e) refl))
        (λ f. f ∙ sym (not_both (begins word (drop at s)) (ends_keyword (get_or s (at + length word) 256)) (λ b e. never f (keyword_given b e))))

    -- Each law takes what the calls on the way answered, in their order: t whether the bytes here begin with the word, q what stands after
    -- it, k whether a keyword can end there.
    module _ {t : Bool} (te : t ≡ begins word (drop at s)) where
      pub match_other : t ≡ false → match_at s at word ≡ None
      unfolding match_at
      match_other n = rw keyword_is (rw (sym te ∙ n) refl)

      module _ (y : t ≡ true) where
        pub match_room : length word ≤ length s - at
        match_room = omega (arith, begins_room word (drop at s) (sym te ∙ y), length-drop at s)

        module _ {q : ℕ} {k : Bool} (qe : q ≡ get_or s (at + length word) 256) (ke : k ≡ ends_keyword q) where
          ends_is : ends_keyword (get_or s (at + length word) 256) ≡ k
          ends_is = sym (ke ∙ ap ends_keyword qe)

          match_after : k ≡ true → match_at s at word ≡ Some (record { at = at + length word })
          unfolding match_at
          match_after z =
              let h = keyword_given (sym te ∙ y) (ends_is ∙ z) in
              rw h (ap (λ i. Some (record { at = i })) (keyword_gives h).1)

          match_longer : k ≡ false → match_at s at word ≡ None
          unfolding match_at
          match_longer z = rw keyword_is (rw (sym te ∙ y, ends_is ∙ z) refl)

          pub match_told : (z : Bool) → k ≡ z → then_some z (record { at = at + length word }) ≡ match_at s at word
          match_told true z = sym (match_after z)
          match_told false z = sym (match_longer z)

-- ---- how far a keyword goes

-- what begins an identifier belongs to it
pub starts_in : (b : ℕ) → starts_ident b ≡ true → in_ident b ≡ true
unfolding starts_ident in_ident
starts_in b h =
    by_test (eqb (class_of b) 2)
    (λ t. simp t)
    (λ t. by_test (eqb (class_of b) 3) (λ u. simp (t, u)) (λ u. let k : eqb b 95 ≡ true = simp t at h in simp (t, u, k)))

-- and stands within the text
pub starts_here : (s : List ℕ) (at : ℕ) → starts_ident (get_or s at 256) ≡ true → at < length s
unfolding starts_ident class_of
starts_here s at h = here s at (λ e. never (ap starts_ident e) h)

-- an identifier takes a byte at least
pub ident_far : (s : List ℕ) (at : ℕ) → starts_ident (get_or s at 256) ≡ true → (at < run_end Ident s at) × (run_end Ident s at ≤ length s)
ident_far s at y =
    let l = starts_here s at y in
    let e = in_ident_lem (get_or s at 256) ∙ starts_in (get_or s at 256) y in
    omega (arith, run_more Ident s at l refl (sym e) refl, run_from Ident s (at + 1), run_within Ident s at (omega arith))

after_is : {m : Option Cursor} (a b : Cursor) → m ≡ Some a → m ≡ Some b → a.at ≡ b.at
after_is a b e f = cc

not_after : {m : Option Cursor} {a : Cursor} → m ≡ None → m ≡ Some a → ⊥
not_after e f = let z : ◌≡◌ {A = ℕ} 0 1 = cc in omega arith

-- what a match says
match_given : (s : List ℕ) (at : ℕ) (word : List ℕ) (c : Cursor) → match_at s at word ≡ Some c → (keyword_at s at word ≡ true) × (c.at ≡ run_end Ident s at)
unfolding match_at
match_given s at word c h =
    by_test (keyword_at s at word)
    (λ t. (t, after_is c (record { at = run_end Ident s at }) (rw t at h) refl))
    (λ t. absurd (not_after refl (rw t at h)))

keyword_starts : (s : List ℕ) (at : ℕ) (word : List ℕ) → keyword_at s at word ≡ true → starts_ident (get_or s at 256) ≡ true
unfolding keyword_at
keyword_starts s at word h =
    let k = both (starts_ident (get_or s at 256) && same (part s at (run_end Ident s at)) word) (ends_keyword (get_or s (run_end Ident s at) 256)) h in
    (both (starts_ident (get_or s at 256)) (same (part s at (run_end Ident s at)) word) k.0).0

keyword_word : (s : List ℕ) (at : ℕ) (word : List ℕ) → keyword_at s at word ≡ true → part s at (run_end Ident s at) ≡ word
unfolding keyword_at
keyword_word s at word h =
    let k = both (starts_ident (get_or s at 256) && same (part s at (run_end Ident s at)) word) (ends_keyword (get_or s (run_end Ident s at) 256)) h in
    same_eq _ _ (both (starts_ident (get_or s at 256)) (same (part s at (run_end Ident s at)) word) k.0).1

-- one that matched ends behind its first byte and within the text
abbrev pub Far : List ℕ → ℕ → Option Cursor → Type 0
Far s at m = (c : Cursor) → m ≡ Some c → (at < c.at) × (c.at ≤ length s)

-- a keyword takes a byte at least and stands within the text
pub match_far : (s : List ℕ) (at : ℕ) (word : List ℕ) → Far s at (match_at s at word)
match_far s at word c h =
    let g = match_given s at word c h in
    omega (arith, g.1, ident_far s at (keyword_starts s at word g.0))

-- and so does the first of two that matched
pub or_match_far : (s : List ℕ) (at : ℕ) (m n : Option Cursor) → Far s at m → Far s at n → Far s at (or_match m n)
unfolding or_match
or_match_far s at (Some d) n p q c h = p c h
or_match_far s at None n p q c h = q c h

-- it takes just its own bytes
pub match_end : (s : List ℕ) (at : ℕ) (word : List ℕ) (c : Cursor) → match_at s at word ≡ Some c → c.at ≡ at + length word
match_end s at word c h =
    let g = match_given s at word c h in
    g.1 ∙ (keyword_gives s at word g.0).1

-- no two keywords stand at one place
pub match_one : (s : List ℕ) (at : ℕ) (v w : List ℕ) (c d : Cursor) → match_at s at v ≡ Some c → match_at s at w ≡ Some d → v ≡ w
match_one s at v w c d h k = sym (keyword_word s at v (match_given s at v c h).0) ∙ keyword_word s at w (match_given s at w d k).0

-- at the end there is none
pub match_past : (s : List ℕ) (at : ℕ) (word : List ℕ) → length s ≤ at → match_at s at word ≡ None
unfolding starts_ident class_of
match_past s at word h = match_none s at word (sym (past s at h)) refl refl
