-- One character: the lines of section 4's grammar and of section 3's table say the same of each length.
-- Assumes nothing.
use mathlib.Core.Path.{◌≡◌, refl}
use mathlib.Core.Bool.{Bool, true, false, ◌&&◌, ◌||◌}
use mathlib.Core.List.{List, [], ◌∷◌, ◌++◌}
use Prim.Native.Nat.{ℕ, ◌+◌, ◌*◌, ◌-◌, ◌<◌, ◌≤◌}
use native.Mathlib.Omega.{arith}
use lib.ListN.{length, get_or}
use lib.Dec.{eqb, leb}
use borrow.Author.Tests.{eq-eqb, ne_eqb, eqb-true, eqb-false, leb-true, leb-false, le-leb, lt-leb}
use Rattle.text.specs.Class.{within}
use Rattle.text.proofs.Here.{by_test, both}
use Rattle.text_utf8.specs.Utf8.{tail, one, two, second3, three, second4, four, char_len}
use Rattle.text_utf8.proofs.Utf8Laws.{one_low, one_high, one_is, within_is, tail_range}
use Rattle.demands_utf8.specs.Utf8Right.{Encoded, octet, octets2, octets3, octets4, Scalar}

-- ---- tests

in_range : (x z b : ℕ) → x ≤ b → b ≤ z → within x z b ≡ true
in_range x z b h k = rw (le-leb x b h, le-leb b z k) refl

over : (x z b : ℕ) → z < b → within x z b ≡ false
over x z b h = by_test (leb x b) (λ t. rw (t, lt-leb b z h) refl) (λ t. rw t refl)

under : (x z b : ℕ) → b < x → within x z b ≡ false
under x z b h = rw (lt-leb x b h) refl

is_tail : (y : ℕ) → y < 64 → tail (128 + y) ≡ true
unfolding tail
is_tail y h = in_range 128 191 (128 + y) (omega arith) (omega arith)

-- one of two tests passes
either {ℓ} : {X : Type ℓ} (p q : Bool) → (p || q) ≡ true → (p ≡ true → X) → (q ≡ true → X) → X
either true q h f g = f refl
either false q h f g = g h

or_left : (p q : Bool) → p ≡ true → (p || q) ≡ true
or_left p q h = rw h refl

or_right : (p q : Bool) → q ≡ true → (p || q) ≡ true
or_right true q h = refl
or_right false q h = h

-- ---- the lengths

len1 : (a b c d : ℕ) → a < 128 → char_len a b c d ≡ 1
unfolding char_len
len1 a b c d h = rw (one_low a h) refl

len2 : (a b c d : ℕ) → 128 ≤ a → two a b ≡ true → char_len a b c d ≡ 2
unfolding char_len
len2 a b c d h e = rw (one_high a h, e) refl

len3 : (a b c d : ℕ) → 128 ≤ a → two a b ≡ false → three a b c ≡ true → char_len a b c d ≡ 3
unfolding char_len
len3 a b c d h n e = rw (one_high a h, n, e) refl

len4 : (a b c d : ℕ) → 128 ≤ a → two a b ≡ false → three a b c ≡ false → four a b c d ≡ true → char_len a b c d ≡ 4
unfolding char_len
len4 a b c d h n m e = rw (one_high a h, n, m, e) refl

two_over : (a b : ℕ) → 224 ≤ a → two a b ≡ false
unfolding two
two_over a b h = rw (over 194 223 a (omega arith)) refl

three_over : (a b c : ℕ) → 240 ≤ a → three a b c ≡ false
unfolding three second3
three_over a b c h =
    rw (
      ne_eqb a 224 (λ e. omega arith),
      over 225 236 a (omega arith),
      ne_eqb a 237 (λ e. omega arith),
      over 238 239 a (omega arith),
    ) refl

-- ---- from the table to the grammar

two_from : (x y : ℕ) → 2 ≤ x → x < 32 → y < 64 → two (192 + x) (128 + y) ≡ true
unfolding two
two_from x y h k l = rw (in_range 194 223 (192 + x) (omega arith) (omega arith), is_tail y l) refl

-- x 0: E0, 1 to 12: E1 to EC, 13: ED, 14 and 15: EE and EF
second3_from : (x y : ℕ) → x < 16 → y < 64 → (x ≡ 0 → 32 ≤ y) → (x ≡ 13 → y < 32) → second3 (224 + x) (128 + y) ≡ true
unfolding second3
second3_from x y h k low high =
    let a = 224 + x in
    let b = 128 + y in
    let p1 = eqb a 224 && within 160 191 b in
    let p2 = within 225 236 a && tail b in
    let p3 = eqb a 237 && within 128 159 b in
    let p4 = within 238 239 a && tail b in
    by_test (eqb x 0)
    (λ t. let e = eqb-true x 0 t in let l = low e in
    or_left ((p1 || p2) || p3) p4 (or_left (p1 || p2) p3 (or_left p1 p2
    (rw (eq-eqb a 224 (omega arith), in_range 160 191 b (omega arith) (omega arith)) refl))))
    (λ t. let e = eqb-false x 0 t in
    by_test (leb x 12)
    (λ u. let l = leb-true x 12 u in
    or_left ((p1 || p2) || p3) p4 (or_left (p1 || p2) p3 (or_right p1 p2
    (rw (in_range 225 236 a (omega arith) (omega arith), is_tail y k) refl))))
    (λ u. let l = leb-false x 12 u in
    by_test (eqb x 13)
    (λ v. let f = eqb-true x 13 v in let m = high f in
    or_left ((p1 || p2) || p3) p4 (or_right (p1 || p2) p3
    (rw (eq-eqb a 237 (omega arith), in_range 128 159 b (omega arith) (omega arith)) refl)))
    (λ v. let f = eqb-false x 13 v in
    or_right ((p1 || p2) || p3) p4
    (rw (in_range 238 239 a (omega arith) (omega arith), is_tail y k) refl))))

-- x 0: F0, 1 to 3: F1 to F3, 4: F4
second4_from : (x y : ℕ) → x < 5 → y < 64 → (x ≡ 0 → 16 ≤ y) → (x ≡ 4 → y < 16) → second4 (240 + x) (128 + y) ≡ true
unfolding second4
second4_from x y h k low high =
    let a = 240 + x in
    let b = 128 + y in
    let p1 = eqb a 240 && within 144 191 b in
    let p2 = within 241 243 a && tail b in
    let p3 = eqb a 244 && within 128 143 b in
    by_test (eqb x 0)
    (λ t. let e = eqb-true x 0 t in let l = low e in
    or_left (p1 || p2) p3 (or_left p1 p2
    (rw (eq-eqb a 240 (omega arith), in_range 144 191 b (omega arith) (omega arith)) refl)))
    (λ t. let e = eqb-false x 0 t in
    by_test (eqb x 4)
    (λ u. let f = eqb-true x 4 u in let m = high f in
    or_right (p1 || p2) p3
    (rw (eq-eqb a 244 (omega arith), in_range 128 143 b (omega arith) (omega arith)) refl))
    (λ u. let f = eqb-false x 4 u in
    or_left (p1 || p2) p3 (or_right p1 p2
    (rw (in_range 241 243 a (omega arith) (omega arith), is_tail y k) refl))))

-- what stands at the beginning of some bytes
unfoldable pub char_of : List ℕ → ℕ
char_of t = char_len (get_or t 0 256) (get_or t 1 256) (get_or t 2 256) (get_or t 3 256)

-- the octets of a scalar value, whatever follows them, are a character of that length
pub encoded_len : (n : ℕ) (xs : List ℕ) → Scalar n → Encoded n xs → (rest : List ℕ) → char_of (xs ++ rest) ≡ length xs
unfolding char_of three four
encoded_len n xs sc (octet h) rest = len1 n (get_or rest 0 256) (get_or rest 1 256) (get_or rest 2 256) (omega arith)
encoded_len n xs sc (octets2 x y hx hy e l m) rest =
    len2 (192 + x) (128 + y) (get_or rest 0 256) (get_or rest 1 256) (omega arith) (two_from x y (omega arith) hx hy)
encoded_len n xs sc (octets3 x y z hx hy hz e l m) rest =
    len3 (224 + x) (128 + y) (128 + z) (get_or rest 0 256) (omega arith) (two_over (224 + x) (128 + y) (omega arith))
    (rw (
      second3_from x y hx hy (λ f. omega arith)
          (λ f. by_test (leb 32 y) (λ t. let k = leb-true 32 y t in absurd (sc.apart (omega arith) (omega arith))) (λ t. leb-false 32 y t)),
      is_tail z hz,
    ) refl)
encoded_len n xs sc (octets4 x y z w hx hy hz hw e l m) rest =
    len4 (240 + x) (128 + y) (128 + z) (128 + w) (omega arith) (two_over (240 + x) (128 + y) (omega arith))
    (three_over (240 + x) (128 + y) (128 + z) (omega arith))
    (rw (second4_from x y (omega arith) hy (λ f. omega arith) (λ f. omega arith), is_tail z hz, is_tail w hw) refl)

-- ---- from the grammar to the table

-- the octets encode a scalar value
abbrev pub Char : List ℕ → Type 0
Char xs = (n : ℕ) × Scalar n × Encoded n xs

char1 : (a : ℕ) → a < 128 → Char (a ∷ [])
char1 a h = (a, record { most = omega arith; apart = λ p q. omega arith }, octet (omega arith))

-- x and y, the bits of the octets
char2 : (x y a b : ℕ) → a ≡ 192 + x → b ≡ 128 + y → 2 ≤ x → x < 32 → y < 64 → Char (a ∷ b ∷ [])
char2 x y a b ea eb l hx hy =
    let n = x * 64 + y in
    (n, record { most = omega arith; apart = λ p q. omega arith }, rw (ea, eb) (octets2 x y hx hy refl (omega arith) (omega arith)))

char3 : (x y z a b c : ℕ) → a ≡ 224 + x → b ≡ 128 + y → c ≡ 128 + z → x < 16 → y < 64 → z < 64 → 2048 ≤ x * 4096 + y * 64 + z
    → (55296 ≤ x * 4096 + y * 64 + z → x * 4096 + y * 64 + z ≤ 57343 → ⊥) → Char (a ∷ b ∷ c ∷ [])
char3 x y z a b c ea eb ec hx hy hz l h =
    let n = x * 4096 + y * 64 + z in
    (n, record { most = omega arith; apart = h }, rw (ea, eb, ec) (octets3 x y z hx hy hz refl l (omega arith)))

char4 : (x y z w a b c d : ℕ) → a ≡ 240 + x → b ≡ 128 + y → c ≡ 128 + z → d ≡ 128 + w → x < 8 → y < 64 → z < 64 → w < 64
    → 65536 ≤ x * 262144 + y * 4096 + z * 64 + w → x * 262144 + y * 4096 + z * 64 + w ≤ 1114111 → Char (a ∷ b ∷ c ∷ d ∷ [])
char4 x y z w a b c d ea eb ec ed hx hy hz hw l m =
    let n = x * 262144 + y * 4096 + z * 64 + w in
    (n, record { most = m; apart = λ p q. omega arith }, rw (ea, eb, ec, ed) (octets4 x y z w hx hy hz hw refl l m))

pub two_char : (a b : ℕ) → two a b ≡ true → Char (a ∷ b ∷ [])
unfolding two
two_char a b h =
    let t = both (within 194 223 a) (tail b) h in
    let p = within_is 194 223 a t.0 in
    let q = tail_range b t.1 in
    char2 (a - 192) (b - 128) a b (omega arith) (omega arith) (omega arith) (omega arith) (omega arith)

-- the four alternatives: after E0, after E1 to EC, after ED, after EE and EF
second3_cases {ℓ} : {X : Type ℓ} (a b : ℕ) → second3 a b ≡ true
    → (a ≡ 224 → (160 ≤ b) × (b ≤ 191) → X)
    → ((225 ≤ a) × (a ≤ 236) → (128 ≤ b) × (b ≤ 191) → X)
    → (a ≡ 237 → (128 ≤ b) × (b ≤ 159) → X)
    → ((238 ≤ a) × (a ≤ 239) → (128 ≤ b) × (b ≤ 191) → X) → X
unfolding second3
second3_cases a b h f1 f2 f3 f4 =
    let p1 = eqb a 224 && within 160 191 b in
    let p2 = within 225 236 a && tail b in
    let p3 = eqb a 237 && within 128 159 b in
    let p4 = within 238 239 a && tail b in
    either ((p1 || p2) || p3) p4 h
    (λ g. either (p1 || p2) p3 g
    (λ i. either p1 p2 i
    (λ t. let k = both (eqb a 224) (within 160 191 b) t in f1 (eqb-true a 224 k.0) (within_is 160 191 b k.1))
    (λ t. let k = both (within 225 236 a) (tail b) t in f2 (within_is 225 236 a k.0) (tail_range b k.1)))
    (λ t. let k = both (eqb a 237) (within 128 159 b) t in f3 (eqb-true a 237 k.0) (within_is 128 159 b k.1)))
    (λ t. let k = both (within 238 239 a) (tail b) t in f4 (within_is 238 239 a k.0) (tail_range b k.1))

pub three_char : (a b c : ℕ) → three a b c ≡ true → Char (a ∷ b ∷ c ∷ [])
unfolding three
three_char a b c h =
    let t = both (second3 a b) (tail c) h in
    let r = tail_range c t.1 in
    let x = a - 224 in
    let y = b - 128 in
    let z = c - 128 in
    second3_cases a b t.0
    (λ p q. char3 x y z a b c (omega arith) (omega arith) (omega arith) (omega arith) (omega arith) (omega arith) (omega arith) (λ l m. omega arith))
    (λ p q. char3 x y z a b c (omega arith) (omega arith) (omega arith) (omega arith) (omega arith) (omega arith) (omega arith) (λ l m. omega arith))
    (λ p q. char3 x y z a b c (omega arith) (omega arith) (omega arith) (omega arith) (omega arith) (omega arith) (omega arith) (λ l m. omega arith))
    (λ p q. char3 x y z a b c (omega arith) (omega arith) (omega arith) (omega arith) (omega arith) (omega arith) (omega arith) (λ l m. omega arith))

-- the three alternatives: after F0, after F1 to F3, after F4
second4_cases {ℓ} : {X : Type ℓ} (a b : ℕ) → second4 a b ≡ true
    → (a ≡ 240 → (144 ≤ b) × (b ≤ 191) → X)
    → ((241 ≤ a) × (a ≤ 243) → (128 ≤ b) × (b ≤ 191) → X)
    → (a ≡ 244 → (128 ≤ b) × (b ≤ 143) → X) → X
unfolding second4
second4_cases a b h f1 f2 f3 =
    let p1 = eqb a 240 && within 144 191 b in
    let p2 = within 241 243 a && tail b in
    let p3 = eqb a 244 && within 128 143 b in
    either (p1 || p2) p3 h
    (λ i. either p1 p2 i
    (λ t. let k = both (eqb a 240) (within 144 191 b) t in f1 (eqb-true a 240 k.0) (within_is 144 191 b k.1))
    (λ t. let k = both (within 241 243 a) (tail b) t in f2 (within_is 241 243 a k.0) (tail_range b k.1)))
    (λ t. let k = both (eqb a 244) (within 128 143 b) t in f3 (eqb-true a 244 k.0) (within_is 128 143 b k.1))

pub four_char : (a b c d : ℕ) → four a b c d ≡ true → Char (a ∷ b ∷ c ∷ d ∷ [])
unfolding four
four_char a b c d h =
    let t = both (second4 a b && tail c) (tail d) h in
    let u = both (second4 a b) (tail c) t.0 in
    let r = tail_range c u.1 in
    let v = tail_range d t.1 in
    let x = a - 240 in
    let y = b - 128 in
    let z = c - 128 in
    let w = d - 128 in
    second4_cases a b u.0
    (λ p q. char4 x y z w a b c d (omega arith) (omega arith) (omega arith) (omega arith) (omega arith) (omega arith) (omega arith) (omega arith)
    (omega arith) (omega arith))
    (λ p q. char4 x y z w a b c d (omega arith) (omega arith) (omega arith) (omega arith) (omega arith) (omega arith) (omega arith) (omega arith)
    (omega arith) (omega arith))
    (λ p q. char4 x y z w a b c d (omega arith) (omega arith) (omega arith) (omega arith) (omega arith) (omega arith) (omega arith) (omega arith)
    (omega arith) (omega arith))

pub one_char : (a : ℕ) → one a ≡ true → Char (a ∷ [])
one_char a h = char1 a (one_is a h)
