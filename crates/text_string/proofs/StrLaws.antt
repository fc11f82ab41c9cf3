-- What a proof uses of the definitions of `specs/Str.antt`: a step of a string at a place of a text, how much a string takes, and what
-- reading it answered.
-- Assumes nothing.
use Rattle.std.specs.Prelude.{Some, None, Option}
use Rattle.std.specs.List.{list_any}
use Rattle.std.proofs.lemmas.Option.{some_pair_parts}
use mathlib.Core.Path.{◌≡◌, refl, sym, ap, ◌∙◌}
use mathlib.Core.Bool.{Bool, true, false, ◌&&◌, ◌||◌}
use mathlib.Core.List.{List, [], ◌∷◌}
use Prim.Native.Nat.{ℕ, ◌-◌, zero, suc, ◌+◌, ◌<◌, ◌≤◌}
use native.Mathlib.Nat.{lt_of_not-le}
use native.Mathlib.Decide.{dec_le}
use native.Mathlib.Omega.{arith}
use lib.ListN.{length, get_or, drop, take, drop_of_length-le, length-drop}
use lib.Dec.{eqb}
use borrow.Author.Tests.{eqb-false, eq-eqb, ne_eqb}
use Rattle.text_string.specs.Str.{among, escaped, escapes, str_end, str_bytes, Str, whole, cut, closed_by, str_at, answer_of, bytes_of}
use Rattle.text.specs.Bytes.{quote, backslash}
use Rattle.text.specs.declared.Cursor.{Cursor}
use Rattle.text.proofs.Here.{by_test, inside, rest_or, neither}

-- ---- quotes

-- ---- eight bytes at a time

and_none : (t : Bool) → (t && false) ≡ false
and_none true = refl
and_none false = refl

-- a byte is among the next ones if it is this one, or among those after it
among_step : (b : ℕ) (s : List ℕ) (n i j : ℕ) → i < length s → j ≡ i + 1
    → among b (take (suc n) (drop i s)) ≡ (eqb (get_or s i 0) b || among b (take n (drop j s)))
unfolding among
among_step b s n i j h e = rw (e, rest_or s i 0 h)

-- the library's test says the same
among_any : (b : ℕ) (xs : List ℕ) → list_any (λ y. eqb y b) xs ≡ among b xs
unfolding among
among_any b [] = refl
among_any b (x ∷ xs) = rw (among_any b xs) refl

pub among_eight : (b : ℕ) (s : List ℕ) (i : ℕ) {r : Bool} → r ≡ list_any (λ y. eqb y b) (take (i + 8 - i) (drop i s)) → r ≡ among b (take 8 (drop i s))
among_eight b s i {r} e =
    let eight : i + 8 - i ≡ 8 = omega arith in
    e ∙ among_any b _ ∙ ap (λ n. among b (take n (drop i s))) eight

plain_byte : (q b : ℕ) → eqb b backslash ≡ false → escapes q b ≡ false
unfolding escapes
plain_byte q b e = rw e (and_none (eqb q quote))

module _ (q : ℕ) (s : List ℕ) (i : ℕ) where
  pub end_past : (e : Bool) → length s ≤ i → str_end q e (drop i s) i ≡ None
  unfolding str_end
  end_past e h = rw (drop_of_length-le s h)

  pub bytes_past : (e : Bool) → length s ≤ i → str_bytes q e (drop i s) ≡ []
  unfolding str_bytes
  bytes_past e h = rw (drop_of_length-le s h)

  -- Each law takes what was tested and what the calls on the way answered: whether the byte before escapes, and whether this one does.
  module _ (h : i < length s) where
    -- after a backslash
    module _ {esc : Bool} (y : esc ≡ true) where
      pub end_skip : str_end q esc (drop i s) i ≡ str_end q false (drop (i + 1) s) (i + 1)
      unfolding str_end
      end_skip = rw (y, rest_or s i 0 h)

      pub bytes_skip : {b : ℕ} → b ≡ escaped (get_or s i 0) → str_bytes q esc (drop i s) ≡ b ∷ str_bytes q false (drop (i + 1) s)
      unfolding str_bytes
      bytes_skip e = rw (e, y, rest_or s i 0 h)

    module _ {esc : Bool} (n : esc ≡ false) where
      -- the closing quote
      module _ (e : get_or s i 0 ≡ q) where
        pub end_quote : str_end q esc (drop i s) i ≡ Some (i + 1)
        unfolding str_end
        end_quote = rw (n, rest_or s i 0 h) (rw (eq-eqb (get_or s i 0) q e))

        pub bytes_quote : str_bytes q esc (drop i s) ≡ []
        unfolding str_bytes
        bytes_quote = rw (n, rest_or s i 0 h) (rw (eq-eqb (get_or s i 0) q e))

      -- any other byte
      module _ (e : get_or s i 0 ≡ q → ⊥) {t : Bool} (te : t ≡ escapes q (get_or s i 0)) where
        pub end_more : str_end q esc (drop i s) i ≡ str_end q t (drop (i + 1) s) (i + 1)
        unfolding str_end
        end_more = rw (te, n, rest_or s i 0 h) (rw (ne_eqb (get_or s i 0) q e))

        pub bytes_escape : t ≡ true → str_bytes q esc (drop i s) ≡ str_bytes q true (drop (i + 1) s)
        unfolding str_bytes
        bytes_escape b = rw (n, rest_or s i 0 h) (rw (ne_eqb (get_or s i 0) q e) (rw (sym te ∙ b)))

        pub bytes_more : t ≡ false → str_bytes q esc (drop i s) ≡ get_or s i 0 ∷ str_bytes q esc (drop (i + 1) s)
        unfolding str_bytes
        bytes_more b = rw (n, rest_or s i 0 h) (rw (ne_eqb (get_or s i 0) q e) (rw (sym te ∙ b)))

end_same : (q : ℕ) (s : List ℕ) (i j : ℕ) → i ≡ j → str_end q false (drop i s) i ≡ str_end q false (drop j s) j
end_same q s i j e = rw e refl

-- a byte that escapes and the one after it, if there is one
pub end_escape : (q : ℕ) (s : List ℕ) (i : ℕ) {t : Bool} → i < length s → (get_or s i 0 ≡ q → ⊥) → t ≡ escapes q (get_or s i 0) → t ≡ true
    → str_end q false (drop i s) i ≡ str_end q false (drop (i + 2) s) (i + 2)
end_escape q s i h n te y =
    end_more q s i h refl n te
    ∙ elim (dec_le (length s) (i + 1)) [
      | yes p ↦ end_past q s (i + 1) _ p ∙ sym (end_past q s (i + 2) false (omega arith))
      | no p ↦ end_skip q s (i + 1) (lt_of_not-le p) y ∙ end_same q s (i + 1 + 1) (i + 2) (omega arith)
    ]

-- where neither the quote nor a backslash is among the next bytes, the string closes behind them
pub end_plain : (q : ℕ) (s : List ℕ) (n i : ℕ) → i + n ≤ length s → among q (take n (drop i s)) ≡ false → among backslash (take n (drop i s)) ≡ false
    → str_end q false (drop i s) i ≡ str_end q false (drop (i + n) s) (i + n)
end_plain q s zero i h a e = end_same q s i (i + 0) (omega arith)
end_plain q s (suc n) i h a e =
    let x = get_or s i 0 in
    let d = neither (eqb x q) (among q (take n (drop (i + 1) s))) (sym (among_step q s n i (i + 1) (omega arith) refl) ∙ a) in
    let f = neither (eqb x backslash) (among backslash (take n (drop (i + 1) s))) (sym (among_step backslash s n i (i + 1) (omega arith) refl) ∙ e) in
    end_more q s i (omega arith) refl (eqb-false x q d.0) (sym (plain_byte q x f.0))
    ∙ end_plain q s n (i + 1) (omega arith) d.1 f.1
    ∙ end_same q s (i + 1 + n) (i + suc n) (omega arith)

-- ---- a whole string, from its opening quote on

pub str_whole : (s : List ℕ) (at end : ℕ) → at < length s → str_end (get_or s at 0) false (drop (at + 1) s) (at + 1) ≡ Some end
    → str_at s at ≡ whole (str_bytes (get_or s at 0) false (drop (at + 1) s)) end
unfolding str_at closed_by
str_whole s at end h e = rw (inside s at 256 0 h) (rw e)

pub str_cut : (s : List ℕ) (at : ℕ) → at < length s → str_end (get_or s at 0) false (drop (at + 1) s) (at + 1) ≡ None → str_at s at ≡ cut
unfolding str_at closed_by
str_cut s at h e = rw (inside s at 256 0 h) (rw e)

pub str_past : (s : List ℕ) (at : ℕ) → length s ≤ at → str_at s at ≡ cut
unfolding str_at closed_by
str_past s at h = rw (end_past (get_or s at 256) s (at + 1) false (omega arith))

-- ---- how much a string takes

abbrev pub Size : List ℕ → ℕ → ℕ → ℕ → Type 0
Size bs at e n = (at + length bs < e) × (e ≤ at + n)

pub at_is : {k : Option ℕ} (a b : ℕ) → k ≡ Some a → k ≡ Some b → a ≡ b
at_is a b e f = cc

open_not : {k : Option ℕ} (a : ℕ) → k ≡ None → k ≡ Some a → ⊥
open_not a e f = let z : ◌≡◌ {A = ℕ} 0 1 = cc in omega arith

pub str_size : (q : ℕ) (esc : Bool) (xs : List ℕ) (at e : ℕ) → str_end q esc xs at ≡ Some e → Size (str_bytes q esc xs) at e (length xs)
unfolding str_end str_bytes
str_size q esc [] at e h = absurd (open_not e refl h)
str_size q true (b ∷ xs) at e h = omega (arith, str_size q false xs (at + 1) e h)
str_size q false (b ∷ xs) at e h =
    by_test (eqb b q)
    (λ t. let k = at_is (at + 1) e refl (rw t at h) in rw t (omega arith))
    (λ t. let k = rw t at h in
    by_test (escapes q b)
    (λ u. let m = str_size q true xs (at + 1) e (rw u at k) in rw t (rw u (omega arith)))
    (λ u. let m = str_size q false xs (at + 1) e (rw u at k) in rw t (rw u (omega arith))))

pub closed_end : (bs : List ℕ) (k : Option ℕ) (cs : List ℕ) (e : ℕ) → closed_by bs k ≡ whole cs e → (k ≡ Some e) × (bs ≡ cs)
unfolding closed_by
closed_end bs (Some a) cs e h = (cc, cc)
closed_end bs None cs e h = (cc, cc)

pub whole_size : (s : List ℕ) (at : ℕ) (cs : List ℕ) (e : ℕ) → str_at s at ≡ whole cs e → (at + 1 + length cs < e) × (e ≤ length s)
unfolding str_at
whole_size s at cs e h =
    let q = get_or s at 256 in
    let xs = drop (at + 1) s in
    let k = closed_end (str_bytes q false xs) (str_end q false xs (at + 1)) cs e h in
    omega (arith, str_size q false xs (at + 1) e k.0, length-drop (at + 1) s, ap length k.1)

-- ---- what reading it answered

pub closed_answer : (u : ℕ) (t : Str) (c : Cursor) (n : ℕ) → answer_of u t ≡ Some (c, n) → (t ≡ whole (bytes_of t) c.at) × (n ≡ u + length (bytes_of t))
unfolding answer_of bytes_of
closed_answer u (whole bs e) c n h =
    let p = some_pair_parts (record { at = e }) c (u + length bs) n h in
    (ap (λ (x : Cursor). whole bs x.at) p.0, sym p.1)
closed_answer u cut c n h = (cc, cc)

pub cut_answer : (u : ℕ) (t : Str) → answer_of u t ≡ None → (t ≡ cut) × (bytes_of t ≡ [])
unfolding answer_of bytes_of
cut_answer u (whole bs e) h = (cc, cc)
cut_answer u cut h = (refl, refl)
