-- What a proof uses of the definitions of `specs/Utf8.antt`, so that none but this file opens them. A character takes a byte at least and
-- stands within the text, so the turns over a text end.
-- Assumes nothing.
use Rattle.std.specs.Prelude.{Some, None}
use mathlib.Core.Path.{◌≡◌, refl, sym, ap, ◌∙◌}
use mathlib.Core.Bool.{Bool, true, false, ◌&&◌}
use mathlib.Core.List.{List, ◌∷◌}
use Prim.Native.Nat.{ℕ, zero, suc, ◌+◌, ◌<◌, ◌≤◌, ◌-◌}
use native.Mathlib.Omega.{arith}
use lib.ListN.{length, get_or, take, drop}
use lib.Seq.{take-length}
use lib.Dec.{eqb, leb}
use borrow.Author.Tests.{eq-eqb, ne_eqb, eqb-true, eqb-false, leb-true, leb-false, le-leb, lt-leb}
use Rattle.text.specs.Class.{within}
use Rattle.text.specs.Turns.{Turn, stop, on}
use Rattle.text.proofs.Turns.{turns_stop, turns_on, turns_rule}
use Rattle.text.proofs.Here.{inside, rest, here, past, by_test, both}
use Rattle.text_utf8.specs.Largest.{larger, largest}
use Rattle.text_utf8.specs.Utf8.{tail, one, two, second3, three, second4, four, char_len, seq_len, some_len, char_turn, wrong_from}
use Rattle.text_utf8.proofs.LargestLaws.{largest_first, largest_rest}

-- ---- a byte below 128, a tail, the end

pub one_low : (a : ℕ) → a < 128 → one a ≡ true
unfolding one
one_low a h = rw (le-leb 0 a (omega arith), le-leb a 127 (omega arith)) refl

pub one_high : (a : ℕ) → 128 ≤ a → one a ≡ false
unfolding one
one_high a h = rw (le-leb 0 a (omega arith), lt-leb a 127 (omega arith)) refl

pub one_is : (a : ℕ) → one a ≡ true → a < 128
unfolding one
one_is a h = omega (arith, leb-true a 127 (both (leb 0 a) (leb a 127) h).1)

pub within_is : (x z b : ℕ) → within x z b ≡ true → (x ≤ b) × (b ≤ z)
within_is x z b h = let p = both (leb x b) (leb b z) h in (leb-true x b p.0, leb-true b z p.1)

pub tail_range : (b : ℕ) → tail b ≡ true → (128 ≤ b) × (b ≤ 191)
unfolding tail
tail_range b h = within_is 128 191 b h

-- ---- a character

-- the four lengths and none
pub len_cases {ℓ} : {X : Type ℓ} (a b c d : ℕ)
    → (one a ≡ true → char_len a b c d ≡ 1 → X)
    → (two a b ≡ true → char_len a b c d ≡ 2 → X)
    → (three a b c ≡ true → char_len a b c d ≡ 3 → X)
    → (four a b c d ≡ true → char_len a b c d ≡ 4 → X)
    → (one a ≡ false → two a b ≡ false → three a b c ≡ false → four a b c d ≡ false → char_len a b c d ≡ 0 → X) → X
unfolding char_len
len_cases a b c d f1 f2 f3 f4 f0 =
    by_test (one a) (λ t. f1 t (rw t refl))
    (λ n1. by_test (two a b) (λ t. f2 t (rw (n1, t) refl))
    (λ n2. by_test (three a b c) (λ t. f3 t (rw (n1, n2, t) refl))
    (λ n3. by_test (four a b c d) (λ t. f4 t (rw (n1, n2, n3, t) refl))
    (λ n4. f0 n1 n2 n3 n4 (rw (n1, n2, n3, n4) refl)))))

pub len_end : (b c d : ℕ) → char_len 256 b c d ≡ 0
unfolding char_len one two three second3 four second4
len_end b c d = refl

-- Each law takes what the calls on the way answered: what stands here and at the next places, and whether a line of the grammar fits it.
module _ (s : List ℕ) (at : ℕ) {a : ℕ} (ae : a ≡ get_or s at 256) where
  pub seq_one : a < 128 → 1 ≡ seq_len s at
  unfolding seq_len char_len
  seq_one h = rw (sym ae) (rw (one_low a h) refl)

  module _ (n1 : 128 ≤ a) {b : ℕ} {t : Bool} (be : b ≡ get_or s (at + 1) 256) (te : t ≡ two a b) where
    pub seq_two : t ≡ true → 2 ≡ seq_len s at
    unfolding seq_len char_len
    seq_two y = rw (sym ae, sym be) (rw (one_high a n1, sym te ∙ y) refl)

    module _ (n2 : t ≡ false) {c : ℕ} {u : Bool} (ce : c ≡ get_or s (at + 2) 256) (ue : u ≡ three a b c) where
      pub seq_three : u ≡ true → 3 ≡ seq_len s at
      unfolding seq_len char_len
      seq_three y = rw (sym ae, sym be, sym ce) (rw (one_high a n1, sym te ∙ n2, sym ue ∙ y) refl)

      module _ (n3 : u ≡ false) {d : ℕ} {v : Bool} (de : d ≡ get_or s (at + 3) 256) (ve : v ≡ four a b c d) where
        pub seq_four : v ≡ true → 4 ≡ seq_len s at
        unfolding seq_len char_len
        seq_four y = rw (sym ae, sym be, sym ce, sym de) (rw (one_high a n1, sym te ∙ n2, sym ue ∙ n3, sym ve ∙ y) refl)

        pub seq_none : v ≡ false → 0 ≡ seq_len s at
        unfolding seq_len char_len
        seq_none n = rw (sym ae, sym be, sym ce, sym de) (rw (one_high a n1, sym te ∙ n2, sym ue ∙ n3, sym ve ∙ n) refl)

-- past the end there is none
pub seq_past : (s : List ℕ) (at : ℕ) → length s ≤ at → seq_len s at ≡ 0
unfolding seq_len
seq_past s at h = rw (past s at h) (len_end (get_or s (at + 1) 256) (get_or s (at + 2) 256) (get_or s (at + 3) 256))

tail_here : (s : List ℕ) (k : ℕ) → tail (get_or s k 256) ≡ true → k < length s
tail_here s k h = here s k (λ e. omega (arith, tail_range (get_or s k 256) h))

-- a character stands within the text
pub seq_within : (s : List ℕ) (at : ℕ) → 0 < seq_len s at → at + seq_len s at ≤ length s
unfolding seq_len two three four
seq_within s at h =
    let a = get_or s at 256 in
    let b = get_or s (at + 1) 256 in
    let c = get_or s (at + 2) 256 in
    let d = get_or s (at + 3) 256 in
    len_cases a b c d
    (λ t e. rw e (omega (arith, here s at (λ z. omega (arith, one_is a t)))))
    (λ t e. rw e (omega (arith, tail_here s (at + 1) (both (within 194 223 a) (tail b) t).1)))
    (λ t e. rw e (omega (arith, tail_here s (at + 2) (both (second3 a b) (tail c) t).1)))
    (λ t e. rw e (omega (arith, tail_here s (at + 3) (both (second4 a b && tail c) (tail d) t).1)))
    (λ n1 n2 n3 n4 e. absurd (omega (arith, h, e)))

-- ---- characters one behind the other

turn_stop : (s : List ℕ) (i : ℕ) → seq_len s i ≡ 0 → char_turn s i ≡ stop i
unfolding char_turn
turn_stop s i h = simp (eq-eqb (seq_len s i) 0 h)

turn_on : (s : List ℕ) (i : ℕ) → 0 < seq_len s i → char_turn s i ≡ on (i + seq_len s i)
unfolding char_turn
turn_on s i h = simp (ne_eqb (seq_len s i) 0 (λ e. omega arith))

on_is : {A R : Type 0} {t : Turn A R} (a b : A) → t ≡ on a → t ≡ on b → a ≡ b
on_is a b e f = cc

stop_is : {A R : Type 0} {t : Turn A R} (q r : R) → t ≡ stop q → t ≡ stop r → q ≡ r
stop_is q r e f = cc

not_both : {A R : Type 0} {t : Turn A R} {r : R} {a : A} → t ≡ stop r → t ≡ on a → ⊥
not_both e f = let z : ◌≡◌ {A = ℕ} 0 1 = cc in omega arith

turn_ons : (s : List ℕ) (i j : ℕ) → char_turn s i ≡ on j → (0 < seq_len s i) × (j ≡ i + seq_len s i)
turn_ons s i j e =
    by_test (eqb (seq_len s i) 0)
    (λ t. absurd (not_both (turn_stop s i (eqb-true _ _ t)) e))
    (λ t. let h : (seq_len s i ≡ 0 → ⊥) = eqb-false _ _ t in let k : 0 < seq_len s i = omega arith in
    (k, sym (on_is (i + seq_len s i) j (turn_on s i k) e)))

turn_stops : (s : List ℕ) (i r : ℕ) → char_turn s i ≡ stop r → (seq_len s i ≡ 0) × (r ≡ i)
turn_stops s i r e =
    by_test (eqb (seq_len s i) 0)
    (λ t. let z = eqb-true _ _ t in (z, stop_is r i e (turn_stop s i z)))
    (λ t. let h : (seq_len s i ≡ 0 → ⊥) = eqb-false _ _ t in absurd (not_both e (turn_on s i (omega arith))))

turn_falls : (s : List ℕ) (i j : ℕ) → char_turn s i ≡ on j → length s - j < length s - i
turn_falls s i j e = let k = turn_ons s i j e in omega (arith, k, seq_within s i k.0)

-- no character: the first wrong sequence starts here
pub wrong_stop : (s : List ℕ) (at : ℕ) → seq_len s at ≡ 0 → wrong_from s at ≡ at
unfolding wrong_from
wrong_stop s at h = turns_stop (char_turn s) 0 (λ k. length s - k) (turn_falls s) (suc (length s)) at at (omega arith) (turn_stop s at h)

-- a character: the first wrong sequence is the first behind it
pub wrong_on : (s : List ℕ) (at : ℕ) → 0 < seq_len s at → wrong_from s at ≡ wrong_from s (at + seq_len s at)
unfolding wrong_from
wrong_on s at h =
    turns_on (char_turn s) 0 (λ k. length s - k) (turn_falls s)
    (suc (length s)) (suc (length s)) at (at + seq_len s at) (omega arith) (omega arith) (turn_on s at h)

-- it is the end at most, and not before the place
pub wrong_within : (s : List ℕ) (at : ℕ) → at ≤ length s → wrong_from s at ≤ length s
unfolding wrong_from
wrong_within s at =
    turns_rule (char_turn s) 0 (λ k. length s - k) (turn_falls s) (λ a r. a ≤ length s → r ≤ length s)
    (λ a r e h. omega (arith, turn_stops s a r e))
    (λ a b r e k h. let o = turn_ons s a b e in k (omega (arith, o, seq_within s a o.0)))
    (suc (length s)) at (omega arith)

pub wrong_least : (s : List ℕ) (at : ℕ) → at ≤ wrong_from s at
unfolding wrong_from
wrong_least s at =
    turns_rule (char_turn s) 0 (λ k. length s - k) (turn_falls s) (λ a r. a ≤ r)
    (λ a r e. omega (arith, turn_stops s a r e))
    (λ a b r e k. omega (arith, turn_ons s a b e))
    (suc (length s)) at (omega arith)

-- no character stands there
pub wrong_none : (s : List ℕ) (at : ℕ) → seq_len s (wrong_from s at) ≡ 0
unfolding wrong_from
wrong_none s at =
    turns_rule (char_turn s) 0 (λ k. length s - k) (turn_falls s) (λ a r. seq_len s r ≡ 0)
    (λ a r e. let k = turn_stops s a r e in ap (seq_len s) k.1 ∙ k.0)
    (λ a b r e k. k)
    (suc (length s)) at (omega arith)

-- past the end there is none
pub wrong_past : (s : List ℕ) (at : ℕ) → length s ≤ at → wrong_from s at ≡ at
wrong_past s at h = wrong_stop s at (seq_past s at h)

-- what the answer of the code says of it
pub len_none : (k : ℕ) → some_len k ≡ None → k ≡ 0
len_none zero e = refl
len_none (suc k) e = cc

pub len_some : (k n : ℕ) → some_len k ≡ Some n → (n ≡ k) × (n ≡ 0 → ⊥)
len_some zero n e = cc
len_some (suc k) n e = let q : suc k ≡ n = cc in (sym q, λ z. omega (arith, q, z))

-- n: how many bytes the character has that stands here
module _ (s : List ℕ) (at : ℕ) {n : ℕ} (ne : n ≡ seq_len s at) where
  pub wrong_here : n ≡ 0 → wrong_from s at ≡ at
  wrong_here h = wrong_stop s at (sym ne ∙ h)

  pub wrong_next : (n ≡ 0 → ⊥) → wrong_from s at ≡ wrong_from s (at + n)
  wrong_next h = wrong_on s at (omega arith) ∙ ap (λ k. wrong_from s (at + k)) (sym ne)

  pub wrong_room : (n ≡ 0 → ⊥) → at + n ≤ length s
  wrong_room h = omega (arith, ne, seq_within s at (omega arith))

-- ---- bytes below 128

pub low_next : (s : List ℕ) (at : ℕ) → get_or s at 256 < 128 → wrong_from s at ≡ wrong_from s (at + 1)
low_next s at h = wrong_next s at (seq_one s at refl h) (λ e. omega arith)

pub low_byte : (s : List ℕ) (at : ℕ) → at < length s → get_or s at 0 < 128 → wrong_from s (at + 1) ≡ wrong_from s at
low_byte s at l h = sym (low_next s at (omega (arith, inside s at 0 256 l)))

-- so many of them from here on
pub low_pass : (s : List ℕ) (n at most : ℕ) → at + n ≤ length s → largest most (take n (drop at s)) < 128 → wrong_from s at ≡ wrong_from s (at + n)
low_pass s zero at most l h = ap (wrong_from s) (omega arith)
low_pass s (suc n) at most l h =
    let b = get_or s at 256 in
    let xs = take n (drop (at + 1) s) in
    let k : largest most (b ∷ xs) < 128 = rw (rest s at (omega arith)) at h in
    low_next s at (omega (arith, k, largest_first most b xs))
    ∙ low_pass s n (at + 1) (larger most b) (omega arith) (omega (arith, k, largest_rest most b xs))
    ∙ ap (wrong_from s) (omega arith)

-- a text whose largest byte is below 128 has no wrong sequence
pub low_end : (s : List ℕ) {r : ℕ} → r ≡ largest 0 s → r < 128 → wrong_from s 0 ≡ length s
low_end s {r} e h =
    low_pass s (length s) 0 0 (omega arith) (rw (take-length s) (omega (arith, e, h))) ∙ wrong_past s (0 + length s) (omega arith) ∙ omega arith

-- a block of them: r is its largest byte
pub low_block : (s : List ℕ) (at size : ℕ) {r : ℕ} → at + size ≤ length s → r ≡ largest 0 (take (at + size - at) (drop at s)) → r < 128
    → wrong_from s (at + size) ≡ wrong_from s at
low_block s at size {r} l e h =
    let n : at + size - at ≡ size = omega arith in
    let k : r ≡ largest 0 (take size (drop at s)) = e ∙ ap (λ m. largest 0 (take m (drop at s))) n in
    sym (low_pass s size at 0 l (omega (arith, k, h)))

-- from some place within so many of them
low_behind : (s : List ℕ) (k n at most : ℕ) → at + (k + n) ≤ length s → largest most (take (k + n) (drop at s)) < 128
    → wrong_from s (at + k) ≡ wrong_from s (at + (k + n))
low_behind s zero n at most l h =
    let e : zero + n ≡ n = omega arith in
    let i : largest most (take n (drop at s)) < 128 = omega (arith, h, ap (λ m. largest most (take m (drop at s))) e) in
    ap (wrong_from s) (omega arith) ∙ low_pass s n at most (omega arith) i ∙ ap (wrong_from s) (omega arith)
low_behind s (suc k) n at most l h =
    let b = get_or s at 256 in
    let xs = take (k + n) (drop (at + 1) s) in
    let e : suc k + n ≡ suc (k + n) = omega arith in
    let f : drop at s ≡ b ∷ drop (at + 1) s = rest s at (omega arith) in
    let i : largest most (b ∷ xs) < 128 =
    omega (arith, h, ap (λ m. largest most (take m (drop at s))) e, ap (λ ys. largest most (take (suc (k + n)) ys)) f) in
    ap (wrong_from s) (omega arith)
    ∙ low_behind s k n (at + 1) (larger most b) (omega arith) (omega (arith, i, largest_rest most b xs))
    ∙ ap (wrong_from s) (omega arith)

-- all up to a place were passed, and the bytes from before that place to the text's end are below 128: no sequence is wrong; r is their largest
pub low_last : (s : List ℕ) (last near : ℕ) {r : ℕ} → wrong_from s near ≡ wrong_from s 0 → last ≤ near
    → r ≡ largest 0 (take (length s - last) (drop last s)) → r < 128 → length s ≡ wrong_from s 0
low_last s last near {r} e l re h =
    by_test (leb (length s) near)
    (λ t. let g = leb-true (length s) near t in omega (arith, e, wrong_past s near g, wrong_within s 0 (omega arith)))
    (λ t. let g = leb-false (length s) near t in
    let k : near - last + (length s - near) ≡ length s - last = omega arith in
    let i : largest 0 (take (near - last + (length s - near)) (drop last s)) < 128 =
    omega (arith, h, re, ap (λ n. largest 0 (take n (drop last s))) k) in
    let p = low_behind s (near - last) (length s - near) last 0 (omega arith) i in
    let a : last + (near - last) ≡ near = omega arith in
    let b : last + (near - last + (length s - near)) ≡ length s = omega arith in
    sym (wrong_past s (length s) (omega arith)) ∙ sym (ap (wrong_from s) b) ∙ sym p ∙ ap (wrong_from s) a ∙ e)
