-- A value read from valid UTF-8 is valid UTF-8: a string copies characters whole, and a name has only bytes below 128.
-- Assumes nothing.
use mathlib.Core.Path.{◌≡◌, refl, sym, ap, subst, ◌∙◌}
use mathlib.Core.Bool.{Bool, true, false, ◌&&◌, ◌||◌}
use mathlib.Core.List.{List, [], ◌∷◌, ◌++◌}
use Prim.Native.Nat.{ℕ, zero, suc, ◌+◌, ◌-◌, ◌<◌, ◌≤◌}
use native.Mathlib.Nat.{lt_of_not-le}
use native.Mathlib.Decide.{dec_le}
use native.Mathlib.Numerals.{add-one}
use native.Mathlib.Omega.{arith}
use lib.Dec.{eqb, ltb}
use lib.ListN.{length, take, drop}
use borrow.Author.Tests.{ne_eqb, eqb-true, eqb-false, ltb-true}
use Rattle.text.specs.Bytes.{look}
use Rattle.text.specs.Keyword.{part}
use Rattle.text.specs.Scan.{in_ident, in_run, span, run_end, gap_end}
use Rattle.text.specs.declared.Run.TheVariants.{Name}
use Rattle.text.proofs.ClassLaws.{class_high}
use Rattle.text.proofs.Here.{by_test, never}
use Rattle.text_string.specs.Str.{is_quote, escaped, escapes, str_end, str_bytes, Str, whole, cut, str_at}
use Rattle.text_string.proofs.StrLaws.{closed_end}
use Rattle.text_utf8.proofs.Utf8Laws.{one_low, one_is}
use Rattle.text_value.specs.Value.{More, added, ends, broken, added_by, more_at, Bytes, add_to, join_turn, joined_with, joined, starts_name, value_at, value_bytes}
use Rattle.text_value.proofs.JoinLaws.{value_string, value_cut, value_name, value_none}
use Rattle.text_value.proofs.ValueLaws.{more_plain, more_bare, more_string}
use Rattle.demands_accents.proofs.Chars as C
use Rattle.demands_accents.proofs.Kept.{Keeps, turns_kept}
use Rattle.demands_accents.proofs.Chars.{Chars, char1, char2, char3, char4, two_high, three_high, four_high}

-- ---- lists of characters

pub append_chars : {xs ys : List ℕ} → Chars xs → Chars ys → Chars (xs ++ ys)
append_chars C.none k = k
append_chars (char1 t c) k = char1 t (append_chars c k)
append_chars (char2 t c) k = char2 t (append_chars c k)
append_chars (char3 t c) k = char3 t (append_chars c k)
append_chars (char4 t c) k = char4 t (append_chars c k)

-- all below 128
abbrev pub all_low : List ℕ → Bool
all_low [] = true
all_low (b ∷ xs) = ltb b 128 && all_low xs

pub low_chars : (xs : List ℕ) → all_low xs ≡ true → Chars xs
low_chars [] h = C.none
low_chars (b ∷ xs) h =
    by_test (ltb b 128)
    (λ t. char1 (one_low b (ltb-true b 128 t)) (low_chars xs (ap (λ z. z && all_low xs) (sym t) ∙ h)))
    (λ t. absurd (never (ap (λ z. z && all_low xs) t) h))

-- a byte below 128 is a character: others begin behind it
pub behind_low : {s : List ℕ} → Chars s → (at : ℕ) → look s at < 128 → Chars (drop (suc at) s)
behind_low C.none at h = absurd (omega arith)
behind_low (char1 t c) zero h = c
behind_low (char1 t c) (suc n) h = behind_low c n h
behind_low (char2 {a} {b} t c) zero h = absurd (omega (arith, two_high a b t))
behind_low (char2 {a} {b} t c) (suc zero) h = absurd (omega (arith, two_high a b t))
behind_low (char2 t c) (suc (suc n)) h = behind_low c n h
behind_low (char3 {a} {b} {c = d} t c) zero h = absurd (omega (arith, three_high a b d t))
behind_low (char3 {a} {b} {c = d} t c) (suc zero) h = absurd (omega (arith, three_high a b d t))
behind_low (char3 {a} {b} {c = d} t c) (suc (suc zero)) h = absurd (omega (arith, three_high a b d t))
behind_low (char3 t c) (suc (suc (suc n))) h = behind_low c n h
behind_low (char4 {a} {b} {c = d} {d = e} t c) zero h = absurd (omega (arith, four_high a b d e t))
behind_low (char4 {a} {b} {c = d} {d = e} t c) (suc zero) h = absurd (omega (arith, four_high a b d e t))
behind_low (char4 {a} {b} {c = d} {d = e} t c) (suc (suc zero)) h = absurd (omega (arith, four_high a b d e t))
behind_low (char4 {a} {b} {c = d} {d = e} t c) (suc (suc (suc zero))) h = absurd (omega (arith, four_high a b d e t))
behind_low (char4 t c) (suc (suc (suc (suc n)))) h = behind_low c n h

-- ---- a string

quote_low : (b : ℕ) → is_quote b ≡ true → b < 128
unfolding is_quote
quote_low b h =
    by_test (eqb b 34)
    (λ t. omega (arith, eqb-true b 34 t))
    (λ t. let k : eqb b 39 ≡ true = ap (λ z. z || eqb b 39) (sym t) ∙ h in omega (arith, eqb-true b 39 k))

escaped_low : (b : ℕ) → b < 128 → escaped b < 128
unfolding escaped
escaped_low b h =
    by_test (eqb b 110) (λ t. rw t (omega arith)) (λ t. by_test (eqb b 116) (λ u. rw t (rw u (omega arith))) (λ u. rw t (rw u h)))

escaped_high : (b : ℕ) → 128 ≤ b → escaped b ≡ b
unfolding escaped
escaped_high b h = simp (ne_eqb b 110 (λ e. omega arith), ne_eqb b 116 (λ e. omega arith))

-- q: the quote
module _ (q : ℕ) (low : q < 128) where
  plain_high : (b : ℕ) → 128 ≤ b → escapes q b ≡ false
  unfolding escapes
  plain_high b h = by_test (eqb q 34) (λ t. rw t (ne_eqb b 92 (λ e. omega arith))) (λ t. rw t refl)

  -- a byte from 128 on is copied, also after a backslash
  copied : (e : Bool) (b : ℕ) (xs : List ℕ) → 128 ≤ b → str_bytes q e (b ∷ xs) ≡ b ∷ str_bytes q false xs
  unfolding str_bytes
  copied true b xs h = ap (λ z. z ∷ str_bytes q false xs) (escaped_high b h)
  copied false b xs h = rw (ne_eqb b q (λ e. omega arith)) (rw (plain_high b h) refl)

  -- a character of one byte
  plain : (a : ℕ) (xs : List ℕ) → a < 128 → ((e : Bool) → Chars (str_bytes q e xs)) → (e : Bool) → Chars (str_bytes q e (a ∷ xs))
  unfolding str_bytes
  plain a xs h k true = char1 (one_low (escaped a) (escaped_low a h)) (k false)
  plain a xs h k false =
      by_test (eqb a q)
      (λ t. rw t C.none)
      (λ t. by_test (escapes q a) (λ u. rw t (rw u (k true))) (λ u. rw t (rw u (char1 (one_low a h) (k false)))))

  nothing : (e : Bool) → Chars (str_bytes q e [])
  unfolding str_bytes
  nothing true = C.none
  nothing false = C.none

  pub str_chars : {xs : List ℕ} → Chars xs → (e : Bool) → Chars (str_bytes q e xs)
  str_chars C.none e = nothing e
  str_chars (char1 {a} {xs} t c) e = plain a xs (one_is a t) (λ f. str_chars c f) e
  str_chars (char2 {a} {b} {xs} t c) e =
      let h = two_high a b t in
      subst Chars (sym (copied e a (b ∷ xs) (omega arith) ∙ ap (λ l. a ∷ l) (copied false b xs (omega arith)))) (char2 t (str_chars c false))
  str_chars (char3 {a} {b} {c = d} {xs} t c) e =
      let h = three_high a b d t in
      subst Chars
      (sym (copied e a (b ∷ d ∷ xs) (omega arith)
      ∙ ap (λ l. a ∷ l) (copied false b (d ∷ xs) (omega arith) ∙ ap (λ l. b ∷ l) (copied false d xs (omega arith)))))
      (char3 t (str_chars c false))
  str_chars (char4 {a} {b} {c = d} {d = f} {xs} t c) e =
      let h = four_high a b d f t in
      subst Chars
      (sym (copied e a (b ∷ d ∷ f ∷ xs) (omega arith)
      ∙ ap (λ l. a ∷ l) (copied false b (d ∷ f ∷ xs) (omega arith)
      ∙ ap (λ l. b ∷ l) (copied false d (f ∷ xs) (omega arith) ∙ ap (λ l. d ∷ l) (copied false f xs (omega arith))))))
      (char4 t (str_chars c false))

added_is : (s : List ℕ) (t : Str) (cs : List ℕ) (e : ℕ) → added_by s t ≡ added cs e → t ≡ whole cs e
unfolding added_by
added_is s (whole bs end) cs e h = cc
added_is s cut cs e h = cc

ends_not : {m : More} {k : ℕ} {cs : List ℕ} {e : ℕ} → m ≡ ends k → m ≡ added cs e → ⊥
ends_not f g = let z : ◌≡◌ {A = ℕ} 0 1 = cc in omega arith

-- ---- a name

-- what fails from 128 on is met only below
below : (p : ℕ → Bool) → ((b : ℕ) → 128 ≤ b → p b ≡ false) → (b : ℕ) → p b ≡ true → b < 128
below p high b t = elim (dec_le 128 b) [ yes h ↦ absurd (never (high b h) t) | no h ↦ lt_of_not-le h ]

name_high : (b : ℕ) → 128 ≤ b → in_run Name b ≡ false
unfolding in_run in_ident
name_high b h =
    simp (class_high b h, ne_eqb b 95 (λ e. omega arith), ne_eqb b 45 (λ e. omega arith), ne_eqb b 46 (λ e. omega arith), ne_eqb b 58 (λ e. omega arith))

span_chars : (p : ℕ → Bool) → ((b : ℕ) → p b ≡ true → b < 128) → (xs : List ℕ) → Chars (take (span p xs) xs)
unfolding span
span_chars p low [] = C.none
span_chars p low (b ∷ xs) = by_test (p b) (λ t. rw t (char1 (one_low b (low b t)) (span_chars p low xs))) (λ t. rw t C.none)

name_chars : (s : List ℕ) (at : ℕ) → Chars (part s at (run_end Name s at))
unfolding part run_end
name_chars s at =
    let n = span (in_run Name) (drop at s) in
    let e : at + n - at ≡ n = omega arith in
    rw e (span_chars (in_run Name) (below (in_run Name) name_high) (drop at s))

-- ---- the strings and values of a text of characters

abbrev AllChars : Bytes → Type 0
AllChars b = Chars b.bytes

module _ {s : List ℕ} (c : Chars s) where
  -- the string at a place with a quote
  string_chars : (at : ℕ) → is_quote (look s at) ≡ true → (bs : List ℕ) (e : ℕ) → str_at s at ≡ whole bs e → Chars bs
  unfolding str_at
  string_chars at y bs e h =
      let q = look s at in
      let l = quote_low q y in
      let xs = drop (at + 1) s in
      let k : Chars xs = subst (λ n. Chars (drop n s)) (sym (add-one at)) (behind_low c at l) in
      subst Chars (closed_end (str_bytes q false xs) (str_end q false xs (at + 1)) bs e h).1 (str_chars q l k false)

  -- a string that is added to another
  added_chars : (at : ℕ) (cs : List ℕ) (e : ℕ) → more_at s at ≡ added cs e → Chars cs
  added_chars at cs e h =
      let g = gap_end s at in
      let w = gap_end s (g + 1) in
      by_test (eqb (look s g) 43)
      (λ p. by_test (is_quote (look s w))
      (λ y. string_chars w y cs e (added_is s (str_at s w) cs e (sym (more_string s at refl refl (eqb-true _ _ p) refl refl refl y) ∙ h)))
      (λ y. absurd (ends_not (more_bare s at refl refl (eqb-true _ _ p) refl refl refl y) h)))
      (λ p. absurd (ends_not (more_plain s at refl refl (eqb-false _ _ p)) h))

  -- all that is added; m: what follows a string
  to_chars : (bs : List ℕ) (at : ℕ) → Chars bs → (m : More) → more_at s at ≡ m → Keeps AllChars AllChars (add_to bs m)
  unfolding add_to
  to_chars bs at k (added cs e) h = append_chars k (added_chars at cs e h)
  to_chars bs at k (ends e) h = k
  to_chars bs at k (broken e) h = k

  joined_chars : (at : ℕ) → Chars (joined s at).bytes
  unfolding joined joined_with join_turn
  joined_chars at =
      turns_kept AllChars AllChars (join_turn s) _ C.none (λ b k. to_chars b.bytes b.end k (more_at s b.end) refl)
      (suc (length s)) (record { bytes = []; end = at }) C.none

  -- a value
  pub value_chars : (at : ℕ) → Chars (value_bytes (value_at s at))
  unfolding value_bytes
  value_chars at =
      let g = gap_end s at in
      by_test (is_quote (look s g))
      (λ y. of (str_at s g) refl y)
      (λ y. by_test (starts_name (look s g))
      (λ n. subst (λ v. Chars (value_bytes v)) (sym (value_name s at refl refl refl y refl n refl)) (name_chars s g))
      (λ n. subst (λ v. Chars (value_bytes v)) (sym (value_none s at refl refl refl y refl n)) C.none))
    where
      of : (t : Str) → str_at s (gap_end s at) ≡ t → is_quote (look s (gap_end s at)) ≡ true → Chars (value_bytes (value_at s at))
      of (whole bs e) k y =
          subst (λ v. Chars (value_bytes v)) (sym (value_string s at refl refl refl y bs e k))
          (append_chars (string_chars (gap_end s at) y bs e k) (joined_chars e))
      of cut k y = subst (λ v. Chars (value_bytes v)) (sym (value_cut s at refl refl refl y k)) C.none
