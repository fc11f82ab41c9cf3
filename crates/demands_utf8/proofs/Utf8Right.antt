-- A text: up to the first wrong sequence it is encodings of scalar values, one behind the other, and no such encoding stands there.
-- Assumes nothing.
use mathlib.Core.Path.{◌≡◌, refl, sym, ap, ◌∙◌}
use mathlib.Core.List.{List, ◌∷◌, ◌++◌}
use Prim.Native.Nat.{ℕ, zero, suc, ◌+◌, ◌-◌, ◌<◌, ◌≤◌}
use native.Mathlib.Nat.{not-suc-le-zero, add-zero}
use native.Mathlib.Omega.{arith}
use lib.ListN.{length, get_or, take, drop, length-drop}
use lib.Seq.{get_or-drop, drop-drop, take-add, take-length, drop-append_seam}
use lib.Dec.{eqb}
use borrow.Author.Tests.{eqb-true, eqb-false}
use Rattle.text.proofs.Here.{rest, by_test}
use Rattle.text_utf8.specs.Utf8.{seq_len, wrong_from}
use Rattle.text_utf8.proofs.Utf8Laws.{len_cases, seq_within, wrong_stop, wrong_on, wrong_least, wrong_none, wrong_past}
use Rattle.demands_utf8.specs.Utf8Right.{Encoded, octet, octets2, octets3, octets4, Scalar, Encodings, none, more, Utf8Right}
use Rattle.demands_utf8.proofs.Utf8Chars.{Char, char_of, encoded_len, one_char, two_char, three_char, four_char}

-- ---- a character at a place of a text

seq_of : (s : List ℕ) (at : ℕ) → seq_len s at ≡ char_of (drop at s)
unfolding seq_len char_of
seq_of s at = simp (get_or-drop, add-zero)

take_step : (s : List ℕ) (at k : ℕ) → at < length s → take (suc k) (drop at s) ≡ get_or s at 256 ∷ take k (drop (at + 1) s)
take_step s at k h = rw (rest s at h) refl

next : (s : List ℕ) (i j : ℕ) → i ≡ j → (k : ℕ) → take k (drop i s) ≡ take k (drop j s)
next s i j e k = ap (λ m. take k (drop m s)) e

-- the bytes of a character encode a scalar value
char_at : (s : List ℕ) (at : ℕ) → 0 < seq_len s at → Char (take (seq_len s at) (drop at s))
unfolding seq_len
char_at s at h =
    let a = get_or s at 256 in
    let b = get_or s (at + 1) 256 in
    let c = get_or s (at + 2) 256 in
    let d = get_or s (at + 3) 256 in
    let l = seq_within s at h in
    len_cases a b c d
    (λ t e. rw e (rw (take_step s at 0 (omega (arith, e, l))) (one_char a t)))
    (λ t e. rw e (rw (
      take_step s at 1 (omega (arith, e, l)),
      take_step s (at + 1) 0 (omega (arith, e, l)),
    ) (two_char a b t)))
    (λ t e. rw e (rw (
      take_step s at 2 (omega (arith, e, l)),
      take_step s (at + 1) 1 (omega (arith, e, l)),
      next s (at + 1 + 1) (at + 2) (omega arith) 1,
      take_step s (at + 2) 0 (omega (arith, e, l)),
    ) (three_char a b c t)))
    (λ t e. rw e (rw (
      take_step s at 3 (omega (arith, e, l)),
      take_step s (at + 1) 2 (omega (arith, e, l)),
      next s (at + 1 + 1) (at + 2) (omega arith) 2,
      take_step s (at + 2) 1 (omega (arith, e, l)),
      next s (at + 2 + 1) (at + 3) (omega arith) 1,
      take_step s (at + 3) 0 (omega (arith, e, l)),
    ) (four_char a b c d t)))
    (λ n1 n2 n3 n4 e. absurd (omega (arith, h, e)))

-- the encoding of a scalar value is a character
encoded_at : (s : List ℕ) (at n : ℕ) (xs ys : List ℕ) → Scalar n → Encoded n xs → drop at s ≡ xs ++ ys → seq_len s at ≡ length xs
encoded_at s at n xs ys sc e h = seq_of s at ∙ ap char_of h ∙ encoded_len n xs sc e ys

encoded_some : (n : ℕ) (xs : List ℕ) → Encoded n xs → 0 < length xs
encoded_some n xs (octet h) = omega arith
encoded_some n xs (octets2 x y hx hy e l m) = omega arith
encoded_some n xs (octets3 x y z hx hy hz e l m) = omega arith
encoded_some n xs (octets4 x y z w hx hy hz hw e l m) = omega arith

-- ---- what stands before the first wrong sequence

-- one character and those behind it, up to a place w
split : (s : List ℕ) (at k w : ℕ) → at + k ≤ w → take (w - at) (drop at s) ≡ take k (drop at s) ++ take (w - (at + k)) (drop (at + k) s)
split s at k w h =
    let e : w - at ≡ k + (w - (at + k)) = omega arith in
    rw e (take-add k (w - (at + k)) (drop at s) ∙ ap (λ t. take k (drop at s) ++ take (w - (at + k)) t) (drop-drop k at s))

-- m: more than the bytes that are left
before_from : (s : List ℕ) (m at : ℕ) → length s - at < m → Encodings (take (wrong_from s at - at) (drop at s))
before_from s zero at h = absurd (not-suc-le-zero h)
before_from s (suc m) at h =
    let k = seq_len s at in
    by_test (eqb k 0)
    (λ t. let z : wrong_from s at - at ≡ 0 = omega (arith, wrong_stop s at (eqb-true k 0 t)) in rw z none)
    (λ t. let n : (k ≡ 0 → ⊥) = eqb-false k 0 t in
    let p : 0 < k = omega arith in
    let c = char_at s at p in
    let w = wrong_from s (at + k) in
    let q : take (wrong_from s at - at) (drop at s) ≡ take k (drop at s) ++ take (w - (at + k)) (drop (at + k) s) =
    ap (λ v. take (v - at) (drop at s)) (wrong_on s at p) ∙ split s at k w (wrong_least s (at + k)) in
    rw q (more c.0 (take k (drop at s)) (take (w - (at + k)) (drop (at + k) s)) c.1 c.2
    (before_from s m (at + k) (omega (arith, seq_within s at p)))))

before_it : (s : List ℕ) → Encodings (take (wrong_from s 0) s)
before_it s =
    let e : wrong_from s 0 - 0 ≡ wrong_from s 0 = omega arith in
    rw (sym e) (before_from s (suc (length s)) 0 (omega arith))

only_it : (s : List ℕ) → wrong_from s 0 ≡ length s → Encodings s
only_it s h = let e : s ≡ take (wrong_from s 0) s = sym (ap (λ k. take k s) h ∙ take-length s) in rw e (before_it s)

-- ---- a text of encodings has no wrong sequence

every_from : (s t : List ℕ) → Encodings t → (at : ℕ) → drop at s ≡ t → at ≤ length s → wrong_from s at ≡ length s
every_from s t none at h l = omega (arith, wrong_past s at (omega (arith, ap length h, length-drop at s)), ap length h, length-drop at s)
every_from s t (more n xs ys sc e r) at h l =
    let q : seq_len s at ≡ length xs = encoded_at s at n xs ys sc e h in
    let some = encoded_some n xs e in
    let p : 0 < seq_len s at = omega (arith, q, some) in
    let d : drop (at + length xs) s ≡ ys = sym (drop-drop (length xs) at s) ∙ ap (drop (length xs)) h ∙ drop-append_seam xs ys in
    wrong_on s at p ∙ ap (λ k. wrong_from s (at + k)) q ∙ every_from s ys r (at + length xs) d (omega (arith, q, seq_within s at p))

every_it : (s : List ℕ) → Encodings s → wrong_from s 0 ≡ length s
every_it s e = every_from s s e 0 refl (omega arith)

there_it : (s : List ℕ) (n : ℕ) (xs ys : List ℕ) → Scalar n → Encoded n xs → drop (wrong_from s 0) s ≡ xs ++ ys → ⊥
there_it s n xs ys sc e h = omega (arith, encoded_at s (wrong_from s 0) n xs ys sc e h, encoded_some n xs e, wrong_none s 0)

pub utf8_right : Utf8Right
utf8_right = record { only = only_it; every = every_it; before = before_it; there = there_it }
