-- Valid UTF-8 as characters one behind the other: the same by the laws `chars` and `valid`. A character of two bytes or more has no byte below 128.
-- Assumes nothing.
use mathlib.Core.Path.{◌≡◌, refl, sym, ap, subst, ◌∙◌}
use mathlib.Core.Bool.{Bool, true, false, ◌&&◌, ◌||◌}
use mathlib.Core.List.{List, [], ◌∷◌}
use Prim.Native.Nat.{ℕ, zero, suc, ◌+◌, ◌-◌, ◌<◌, ◌≤◌}
use native.Mathlib.Nat.{add-zero, not-suc-le-zero}
use native.Mathlib.Omega.{arith}
use lib.Dec.{eqb}
use lib.ListN.{length, drop, drop_of_length-le, length-drop}
use lib.Seq.{get_or-drop, drop-drop}
use borrow.Author.Tests.{ne_eqb, eqb-true, le-leb, lt-leb}
use Rattle.text.specs.Bytes.{look}
use Rattle.text.specs.Class.{within}
use Rattle.text.proofs.Here.{both, rest}
use Rattle.text_utf8.specs.Utf8.{tail, one, two, second3, three, second4, four, char_len, seq_len, wrong_from}
use Rattle.text_utf8.proofs.Utf8Laws.{one_high, within_is, tail_range, len_cases, len_end, wrong_here, wrong_next, wrong_room}
use Rattle.demands_accents.specs.Valid.{Valid}

pub data Chars : List ℕ → Type 0 where
  none : Chars []
  char1 : {a : ℕ} {xs : List ℕ} → one a ≡ true → Chars xs → Chars (a ∷ xs)
  char2 : {a b : ℕ} {xs : List ℕ} → two a b ≡ true → Chars xs → Chars (a ∷ b ∷ xs)
  char3 : {a b c : ℕ} {xs : List ℕ} → three a b c ≡ true → Chars xs → Chars (a ∷ b ∷ c ∷ xs)
  char4 : {a b c d : ℕ} {xs : List ℕ} → four a b c d ≡ true → Chars xs → Chars (a ∷ b ∷ c ∷ d ∷ xs)

-- ---- the bounds of each byte

either_test : {X : Type 0} (p q : Bool) → (p ≡ true → X) → (q ≡ true → X) → (p || q) ≡ true → X
either_test true q f g h = f refl
either_test false q f g h = g h

-- from 128 on, and no end
abbrev High : ℕ → Type 0
High b = (128 ≤ b) × (b < 256)

-- two to four bytes: where the first stands, and that each is high
pub two_high : (a b : ℕ) → two a b ≡ true → (194 ≤ a) × (a ≤ 223) × High b
unfolding two
two_high a b h = let m = both (within 194 223 a) (tail b) h in omega (arith, within_is 194 223 a m.0, tail_range b m.1)

second_high : (a b : ℕ) → second3 a b ≡ true → (224 ≤ a) × (a ≤ 239) × High b
unfolding second3 tail
second_high a b =
    either_test _ _
    (either_test _ _
    (either_test _ _
    (λ h. let m = both (eqb a 224) (within 160 191 b) h in omega (arith, eqb-true a 224 m.0, within_is 160 191 b m.1))
    (λ h. let m = both (within 225 236 a) (within 128 191 b) h in omega (arith, within_is 225 236 a m.0, within_is 128 191 b m.1)))
    (λ h. let m = both (eqb a 237) (within 128 159 b) h in omega (arith, eqb-true a 237 m.0, within_is 128 159 b m.1)))
    (λ h. let m = both (within 238 239 a) (within 128 191 b) h in omega (arith, within_is 238 239 a m.0, within_is 128 191 b m.1))

pub three_high : (a b c : ℕ) → three a b c ≡ true → (224 ≤ a) × (a ≤ 239) × High b × High c
unfolding three
three_high a b c h = let m = both (second3 a b) (tail c) h in omega (arith, second_high a b m.0, tail_range c m.1)

fourth_high : (a b : ℕ) → second4 a b ≡ true → (240 ≤ a) × (a ≤ 244) × High b
unfolding second4 tail
fourth_high a b =
    either_test _ _
    (either_test _ _
    (λ h. let m = both (eqb a 240) (within 144 191 b) h in omega (arith, eqb-true a 240 m.0, within_is 144 191 b m.1))
    (λ h. let m = both (within 241 243 a) (within 128 191 b) h in omega (arith, within_is 241 243 a m.0, within_is 128 191 b m.1)))
    (λ h. let m = both (eqb a 244) (within 128 143 b) h in omega (arith, eqb-true a 244 m.0, within_is 128 143 b m.1))

pub four_high : (a b c d : ℕ) → four a b c d ≡ true → (240 ≤ a) × (a ≤ 244) × High b × High c × High d
unfolding four
four_high a b c d h =
    let m = both (second4 a b && tail c) (tail d) h in
    let k = both (second4 a b) (tail c) m.0 in
    omega (arith, fourth_high a b k.0, tail_range c k.1, tail_range d m.1)

-- ---- how many bytes a character has

not_two : (a b : ℕ) → 224 ≤ a → two a b ≡ false
unfolding two
not_two a b h = simp (le-leb 194 a (omega arith), lt-leb a 223 (omega arith))

not_three : (a b c : ℕ) → 240 ≤ a → three a b c ≡ false
unfolding three second3
not_three a b c h =
    simp (
      ne_eqb a 224 (λ e. omega arith),
      ne_eqb a 237 (λ e. omega arith),
      le-leb 225 a (omega arith),
      lt-leb a 236 (omega arith),
      le-leb 238 a (omega arith),
      lt-leb a 239 (omega arith),
    )

module _ (a b c d : ℕ) where
  len1 : one a ≡ true → char_len a b c d ≡ 1
  unfolding char_len
  len1 t = rw t

  len2 : two a b ≡ true → char_len a b c d ≡ 2
  unfolding char_len
  len2 t = rw (one_high a (omega (arith, two_high a b t))) (rw t)

  len3 : three a b c ≡ true → char_len a b c d ≡ 3
  unfolding char_len
  len3 t = let h = three_high a b c t in rw (one_high a (omega arith)) (rw (not_two a b (omega arith)) (rw t))

  len4 : four a b c d ≡ true → char_len a b c d ≡ 4
  unfolding char_len
  len4 t =
      let h = four_high a b c d t in
      rw (one_high a (omega arith)) (rw (not_two a b (omega arith)) (rw (not_three a b c (omega arith)) (rw t)))

-- ---- no wrong sequence from a place on: characters

module _ (s : List ℕ) (at : ℕ) where
  -- k bytes behind the place
  front : (k : ℕ) → at + k < length s → drop (at + k) s ≡ look s (at + k) ∷ drop (at + suc k) s
  front k h = let e : at + k + 1 ≡ at + suc k = omega arith in rest s (at + k) h ∙ ap (λ n. look s (at + k) ∷ drop n s) e

  front1 : at < length s → drop at s ≡ look s at ∷ drop (at + 1) s
  front1 h = rest s at h

  front2 : at + 1 < length s → drop at s ≡ look s at ∷ look s (at + 1) ∷ drop (at + 2) s
  front2 h = front1 (omega arith) ∙ ap (λ l. look s at ∷ l) (front 1 h)

  front3 : at + 2 < length s → drop at s ≡ look s at ∷ look s (at + 1) ∷ look s (at + 2) ∷ drop (at + 3) s
  front3 h = front2 (omega arith) ∙ ap (λ l. look s at ∷ look s (at + 1) ∷ l) (front 2 h)

  front4 : at + 3 < length s → drop at s ≡ look s at ∷ look s (at + 1) ∷ look s (at + 2) ∷ look s (at + 3) ∷ drop (at + 4) s
  front4 h = front3 (omega arith) ∙ ap (λ l. look s at ∷ look s (at + 1) ∷ look s (at + 2) ∷ l) (front 3 h)

-- n: more than is left of the text
chars_from : (s : List ℕ) (n at : ℕ) → length s - at < n → at ≤ length s → wrong_from s at ≡ length s → Chars (drop at s)
unfolding seq_len
chars_from s zero at l m h = absurd (not-suc-le-zero l)
chars_from s (suc n) at l m h =
    let room : (k : ℕ) → seq_len s at ≡ suc k → at + suc k ≤ length s = λ k e. wrong_room s at (sym e) (λ z. omega arith) in
    let next : (k : ℕ) → seq_len s at ≡ suc k → Chars (drop (at + suc k) s) =
    λ k e. let r = room k e in chars_from s n (at + suc k) (omega arith) r (sym (wrong_next s at (sym e) (λ z. omega arith)) ∙ h) in
    len_cases (look s at) (look s (at + 1)) (look s (at + 2)) (look s (at + 3))
    (λ t e. subst Chars (sym (front1 s at (omega (arith, room 0 e)))) (char1 t (next 0 e)))
    (λ t e. subst Chars (sym (front2 s at (omega (arith, room 1 e)))) (char2 t (next 1 e)))
    (λ t e. subst Chars (sym (front3 s at (omega (arith, room 2 e)))) (char3 t (next 2 e)))
    (λ t e. subst Chars (sym (front4 s at (omega (arith, room 3 e)))) (char4 t (next 3 e)))
    (λ p q r t e. let w : length s ≤ at = omega (arith, wrong_here s at (sym e) refl) in subst Chars (sym (drop_of_length-le s w)) none)

-- ---- characters from a place on: no wrong sequence

seq_drop : (s : List ℕ) (at : ℕ) → seq_len s at ≡ seq_len (drop at s) 0
unfolding seq_len
seq_drop s at = simp (get_or-drop, add-zero)

-- a character of k + 1 bytes, and characters behind it
one_more : (s : List ℕ) (at k : ℕ) → seq_len s at ≡ suc k → wrong_from s (at + suc k) ≡ length s → wrong_from s at ≡ length s
one_more s at k e h = wrong_next s at (sym e) (λ z. omega arith) ∙ h

chars_wrong : (s : List ℕ) (xs : List ℕ) → Chars xs → (at : ℕ) → drop at s ≡ xs → at ≤ length s → wrong_from s at ≡ length s
unfolding seq_len
chars_wrong s xs none at e l =
    let m : at ≡ length s = omega (arith, length-drop at s, ap length e) in
    wrong_here s at (sym (seq_drop s at ∙ ap (λ z. seq_len z 0) e ∙ len_end _ _ _)) refl ∙ m
chars_wrong s xs (char1 {a} {xs = ys} t c) at e l =
    one_more s at 0 (seq_drop s at ∙ ap (λ z. seq_len z 0) e ∙ len1 a _ _ _ t)
    (chars_wrong s ys c (at + 1) (sym (drop-drop 1 at s) ∙ ap (drop 1) e) (omega (arith, length-drop at s, ap length e)))
chars_wrong s xs (char2 {a} {b} {xs = ys} t c) at e l =
    one_more s at 1 (seq_drop s at ∙ ap (λ z. seq_len z 0) e ∙ len2 a b _ _ t)
    (chars_wrong s ys c (at + 2) (sym (drop-drop 2 at s) ∙ ap (drop 2) e) (omega (arith, length-drop at s, ap length e)))
chars_wrong s xs (char3 {a} {b} {c} {xs = ys} t k) at e l =
    one_more s at 2 (seq_drop s at ∙ ap (λ z. seq_len z 0) e ∙ len3 a b c _ t)
    (chars_wrong s ys k (at + 3) (sym (drop-drop 3 at s) ∙ ap (drop 3) e) (omega (arith, length-drop at s, ap length e)))
chars_wrong s xs (char4 {a} {b} {c} {d} {xs = ys} t k) at e l =
    one_more s at 3 (seq_drop s at ∙ ap (λ z. seq_len z 0) e ∙ len4 a b c d t)
    (chars_wrong s ys k (at + 4) (sym (drop-drop 4 at s) ∙ ap (drop 4) e) (omega (arith, length-drop at s, ap length e)))

-- ---- both ways

pub chars : (s : List ℕ) → Valid s → Chars s
chars s h = chars_from s (suc (length s)) 0 (omega arith) (omega arith) h

pub valid : {s : List ℕ} → Chars s → Valid s
valid {s} c = chars_wrong s s c 0 refl (omega arith)
