-- What a proof uses of what follows a string, and of the bytes that are copied: one law for each way out of `read_part`.
-- Assumes nothing.
use Rattle.std.specs.Prelude.{Some, None, Option}
use Rattle.std.proofs.lemmas.Option.{some_pair_parts}
use Rattle.std.proofs.lemmas.List.{append_assoc}
use mathlib.Core.Path.{◌≡◌, refl, sym, ap, ap₂, ◌∙◌}
use mathlib.Core.Bool.{Bool, true, false}
use mathlib.Core.List.{List}
use Prim.Native.Nat.{ℕ, ◌+◌, ◌-◌, ◌≤◌}
use native.Mathlib.Omega.{arith}
use lib.ListN.{length, get_or, length-take, length-drop}
use lib.Seq.{drop-drop, sets, sets-eq}
use borrow.Rule.Slice.PartMut.{put_mid}
use borrow.Author.Tests.{eq-eqb, ne_eqb}
use Rattle.text.specs.Keyword.{part}
use Rattle.text.specs.Scan.{gap_end}
use Rattle.text.specs.declared.Cursor.{Cursor}
use Rattle.text_string.specs.Str.{is_quote, Str, whole, cut, str_at, answer_of, bytes_of}
use Rattle.text_value.specs.Value.{ends, added_by, after_plus, after_gap, more_at, more_answer, more_bytes}

-- ---- a part

pub part_length : (s : List ℕ) (i end : ℕ) → i ≤ end → end ≤ length s → length (part s i end) ≡ end - i
unfolding part
part_length s i end h k = simp (length-take, length-drop) (omega arith)

-- ---- what follows a string

-- what reading the string answered says what is added
module _ (s : List ℕ) (used : ℕ) where
  added_closed : (t : Str) (c : Cursor) (n : ℕ) → answer_of used t ≡ Some (c, n)
      → more_answer used (added_by s t) ≡ record { end = c; used = Some n; closed = true }
  unfolding answer_of more_answer added_by
  added_closed (whole bs end) c n e =
      let p = some_pair_parts (record { at = end }) c (used + length bs) n e in ap₂ (λ x k. record { end = x; used = Some k; closed = true }) p.0 p.1
  added_closed cut c n e = cc

  added_cut : (t : Str) → answer_of used t ≡ None → more_answer used (added_by s t) ≡ record { end = record { at = length s }; used = None; closed = false }
  unfolding answer_of more_answer added_by
  added_cut (whole bs end) e = cc
  added_cut cut e = refl

  added_bytes : (t : Str) → more_bytes (added_by s t) ≡ bytes_of t
  unfolding more_bytes bytes_of added_by
  added_bytes (whole bs end) = refl
  added_bytes cut = refl

-- Each law takes what the calls on the way answered, in their order: g after the gap, p what stands there, h after the second gap, q what
-- stands there, t whether that is a quote.
module _ (s : List ℕ) (at : ℕ) {g p : ℕ} (ge : g ≡ gap_end s at) (pe : p ≡ get_or s g 256) where
  pub more_plain : (p ≡ 43 → ⊥) → more_at s at ≡ ends g
  unfolding more_at after_gap
  more_plain n = rw (← ge, ne_eqb (get_or s g 256) 43 (λ e. n (pe ∙ e)))

  module _ (plus : p ≡ 43) {h q : ℕ} {t : Bool} (he : h ≡ gap_end s (g + 1)) (qe : q ≡ get_or s h 256) (te : t ≡ is_quote q) where
    pub more_bare : t ≡ false → more_at s at ≡ ends h
    unfolding more_at after_gap after_plus
    more_bare n =
        let quote : is_quote (get_or s h 256) ≡ false = cc in
        rw (← ge, eq-eqb (get_or s g 256) 43 (sym pe ∙ plus)) (rw (← he) (rw quote))

    pub more_string : t ≡ true → more_at s at ≡ added_by s (str_at s h)
    unfolding more_at after_gap after_plus
    more_string y =
        let quote : is_quote (get_or s h 256) ≡ true = cc in
        rw (← ge, eq-eqb (get_or s g 256) 43 (sym pe ∙ plus)) (rw (← he) (rw quote))

    -- a: what reading the string there answered
    module _ (y : t ≡ true) (used : ℕ) {a : Option (Cursor × ℕ)} (ae : a ≡ answer_of used (str_at s h)) where
      pub more_added : (c : Cursor) (n : ℕ) → a ≡ Some (c, n) → more_answer used (more_at s at) ≡ record { end = c; used = Some n; closed = true }
      more_added c n m = ap (more_answer used) (more_string y) ∙ added_closed s used (str_at s h) c n (sym ae ∙ m)

      pub more_cut : a ≡ None → more_answer used (more_at s at) ≡ record { end = record { at = length s }; used = None; closed = false }
      more_cut m = ap (more_answer used) (more_string y) ∙ added_cut s used (str_at s h) (sym ae ∙ m)

      pub more_stored : more_bytes (more_at s at) ≡ bytes_of (str_at s h)
      more_stored = ap more_bytes (more_string y) ∙ added_bytes s used (str_at s h)
