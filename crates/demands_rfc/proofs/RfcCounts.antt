-- The counts in the RFC's definition do not matter: what is passed over in a gap takes a byte at least, and so does an added string, so the
-- text ends before the count does.
-- Assumes nothing.
use mathlib.Core.Path.{◌≡◌, refl, ap, ◌∙◌}
use mathlib.Core.Bool.{Bool, true, false, cond}
use mathlib.Core.List.{List, [], ◌∷◌}
use mathlib.Core.Option.{Option, none, some}
use Prim.Native.Nat.{ℕ, zero, suc, ◌+◌, ◌-◌, ◌<◌, ◌≤◌}
use native.Mathlib.Nat.{not-suc-le-zero}
use native.Mathlib.Omega.{arith}
use lib.ListN.{length, get_or, drop, length-drop}
use lib.Dec.{eqb}
use borrow.Author.Tests.{eqb-true}
use Rattle.text.specs.Turns.{Turn, stop, on, after, turns}
use Rattle.text.proofs.Here.{by_test, here, both}
use Rattle.text.proofs.Turns.{turns_stop, turns_on, turns_rule}
use Rattle.demands_rfc.specs.Rfc.{is_blank, are_at, comment_close, past_comment, separator, past_gap, Read, reads, nothing, with, first, Piece, double, single}
use Rattle.demands_rfc.specs.Rfc.{gap, single_body, double_body, column_of, string_at, gap_to, gap_at, gap_and_string, plus_and_string, added_strings, more_strings}
use Rattle.demands_rfc.specs.RfcEquality.{RfcUncounted}
use Rattle.demands_rfc.proofs.RfcStrings.{nothing_read, read_is, with_reads, none_some, some_is}

-- ---- a gap

close_from : (xs : List ℕ) (at e : ℕ) → comment_close xs at ≡ some e → at < e
unfolding comment_close
close_from [] at e h = absurd (none_some refl h)
close_from (b ∷ xs) at e h =
    by_test (are_at (b ∷ xs) 0 42 47)
    (λ p. omega (arith, some_is (at + 2) e refl (rw p at h)))
    (λ p. omega (arith, close_from xs (at + 1) e (rw p at h)))

-- a turn stops here, or goes on from a place further on, within the text
abbrev Turned : List ℕ → ℕ → Turn ℕ (Option ℕ) → Type 0
Turned s i (stop none) = Unit {0}
Turned s i (stop (some g)) = i ≡ g
Turned s i (on j) = (i < j) × (i < length s)

comment_turned : (s : List ℕ) (i : ℕ) (o : Option ℕ) → i < length s → ((e : ℕ) → o ≡ some e → i < e) → Turned s i (past_comment o)
unfolding past_comment
comment_turned s i none l h = tt
comment_turned s i (some e) l h = (h e refl, l)

module _ (s : List ℕ) (i : ℕ) where
  blank_here : is_blank (get_or s i 256) ≡ true → i < length s
  unfolding is_blank
  blank_here h =
      by_test (eqb (get_or s i 256) 32)
      (λ e. here s i (λ z. omega (arith, eqb-true (get_or s i 256) 32 e)))
      (λ e. here s i (λ z. omega (arith, eqb-true (get_or s i 256) 9 (rw e at h))))

  byte_here : (b : ℕ) → b < 256 → eqb (get_or s i 256) b ≡ true → i < length s
  byte_here b l h = here s i (λ z. omega (arith, eqb-true (get_or s i 256) b h))

  pair_here : (b c : ℕ) → b < 256 → are_at s i b c ≡ true → i < length s
  unfolding are_at
  pair_here b c l h = byte_here b l (both (eqb (get_or s i 256) b) (eqb (get_or s (i + 1) 256) c) h).0

  turned : Turned s i (separator s i)
  unfolding separator
  turned =
      by_test (is_blank (get_or s i 256))
      (λ b. rw b (omega arith, blank_here b))
      (λ b. by_test (eqb (get_or s i 256) 10)
      (λ n. rw b (rw n (omega arith, byte_here 10 (omega arith) n)))
      (λ n. by_test (are_at s i 13 10)
      (λ c. rw b (rw n (rw c (omega arith, pair_here 13 10 (omega arith) c))))
      (λ c. by_test (are_at s i 47 47)
      (λ l. rw b (rw n (rw c (rw l (omega arith, pair_here 47 47 (omega arith) l)))))
      (λ l. by_test (are_at s i 47 42)
      (λ k. rw b (rw n (rw c (rw l (rw k (comment_turned s i (comment_close (drop (i + 2) s) (i + 2)) (pair_here 47 42 (omega arith) k)
      (λ e m. omega (arith, close_from (drop (i + 2) s) (i + 2) e m))))))))
      (λ k. rw b (rw n (rw c (rw l (rw k refl)))))))))

gap_falls : (s : List ℕ) (i j : ℕ) → separator s i ≡ on j → length s - j < length s - i
gap_falls s i j h = let t = rw h at (turned s i) in omega arith

gap_again : (s : List ℕ) (at : ℕ) → past_gap s at ≡ after (λ next. past_gap s next) (separator s at)
unfolding past_gap
gap_again s at = by_turn (separator s at) refl
  where
    by_turn : (t : Turn ℕ (Option ℕ)) → separator s at ≡ t → turns (separator s) none (suc (length s)) at
        ≡ after (λ next. turns (separator s) none (suc (length s)) next) t
    by_turn (stop r) e = turns_stop (separator s) none (λ k. length s - k) (gap_falls s) (suc (length s)) at r (omega arith) e
    by_turn (on j) e = turns_on (separator s) none (λ k. length s - k) (gap_falls s) (suc (length s)) (suc (length s)) at j (omega arith) (omega arith) e

gap_from : (s : List ℕ) (at g : ℕ) → past_gap s at ≡ some g → at ≤ g
unfolding past_gap
gap_from s at g h =
    turns_rule (separator s) none (λ k. length s - k) (gap_falls s) (λ a r. r ≡ some g → a ≤ g)
    (λ a r e k. let t = rw (e ∙ ap stop k) at (turned s a) in omega arith)
    (λ a b r e k m. let t = rw e at (turned s a) in omega (arith, k m))
    (suc (length s)) at (omega arith) h

gap_piece : (s : List ℕ) (at : ℕ) (p : Piece) (g : ℕ) → gap_at s at ≡ reads p g → at ≤ g
unfolding gap_at gap_to
gap_piece s at p g h = by_gap (past_gap s at) refl h
  where
    by_gap : (o : Option ℕ) → past_gap s at ≡ o → gap_to s o ≡ reads p g → at ≤ g
    by_gap none e h = absurd (nothing_read refl h)
    by_gap (some k) e h = gap_from s at g (e ∙ ap some (read_is (gap (get_or s k 256)) p k g refl h).1)

-- ---- a string

double_far : (e : Bool) (xs : List ℕ) (at : ℕ) (raw : List ℕ) (end : ℕ) → double_body e xs at ≡ reads raw end → (at < end) × (end ≤ at + length xs)
unfolding double_body
double_far e [] at raw end h = absurd (nothing_read refl h)
double_far true (b ∷ xs) at raw end h =
    let w = with_reads (b ∷◌) (double_body false xs (at + 1)) raw end h in omega (arith, double_far false xs (at + 1) w.0 end w.1)
double_far false (b ∷ xs) at raw end h =
    by_test (eqb b 34)
    (λ q. omega (arith, (read_is [] raw (at + 1) end refl (rw q at h)).1))
    (λ q. let w = with_reads (b ∷◌) (double_body (eqb b 92) xs (at + 1)) raw end (rw q at h) in omega
    (arith, double_far (eqb b 92) xs (at + 1) w.0 end w.1))

single_far : (xs : List ℕ) (at : ℕ) (raw : List ℕ) (end : ℕ) → single_body xs at ≡ reads raw end → (at < end) × (end ≤ at + length xs)
unfolding single_body
single_far [] at raw end h = absurd (nothing_read refl h)
single_far (b ∷ xs) at raw end h =
    by_test (eqb b 39)
    (λ q. omega (arith, (read_is [] raw (at + 1) end refl (rw q at h)).1))
    (λ q. let w = with_reads (b ∷◌) (single_body xs (at + 1)) raw end (rw q at h) in omega (arith, single_far xs (at + 1) w.0 end w.1))

-- it takes two bytes at least and stands within the text
string_far : (s : List ℕ) (at : ℕ) (p : Piece) (end : ℕ) → string_at s at ≡ reads p end → (at + 1 < end) × (end ≤ length s)
unfolding string_at
string_far s at p end h =
    by_test (eqb (get_or s at 256) 34)
    (λ q. let w = with_reads (double (column_of s at)) (double_body false (drop (at + 1) s) (at + 1)) p end (rw q at h) in
    omega (arith, double_far false (drop (at + 1) s) (at + 1) w.0 end w.1, length-drop (at + 1) s, byte_here s at 34 (omega arith) q))
    (λ q. by_test (eqb (get_or s at 256) 39)
    (λ a. let w = with_reads single (single_body (drop (at + 1) s) (at + 1)) p end (rw a at (rw q at h)) in
    omega (arith, single_far (drop (at + 1) s) (at + 1) w.0 end w.1, length-drop (at + 1) s, byte_here s at 39 (omega arith) a))
    (λ a. absurd (nothing_read refl (rw a at (rw q at h)))))

-- ---- what is added

first_same : (r : Read Piece) (f g : ℕ → Read (List Piece)) → ((p : Piece) (m : ℕ) → r ≡ reads p m → f m ≡ g m) → first r f ≡ first r g
unfolding first
first_same (reads p m) f g h = ap (with (p ∷◌)) (h p m refl)
first_same nothing f g h = refl

-- what follows a string is asked for only at places after it
plus_same : (s : List ℕ) (at : ℕ) (f g : ℕ → Read (List Piece)) → ((e : ℕ) → at + 2 < e → e ≤ length s → f e ≡ g e)
    → plus_and_string f s at ≡ plus_and_string g s at
unfolding plus_and_string gap_and_string
plus_same s at f g h =
    ap (λ r. cond (eqb (get_or s at 256) 43) r (reads [] at))
    (first_same (gap_at s (at + 1)) (λ i. first (string_at s i) f) (λ i. first (string_at s i) g)
    (λ p i k. first_same (string_at s i) f g
    (λ q e l. h e (omega (arith, gap_piece s (at + 1) p i k, string_far s i q e l)) (string_far s i q e l).1)))

strings_same : (s : List ℕ) (n m at : ℕ) → length s - at < n → length s - at < m → added_strings n s at ≡ added_strings m s at
unfolding added_strings
strings_same s zero m at h k = absurd (not-suc-le-zero h)
strings_same s (suc n) zero at h k = absurd (not-suc-le-zero k)
strings_same s (suc n) (suc m) at h k =
    first_same (gap_at s at) (λ i. plus_and_string (λ e. added_strings n s e) s i) (λ i. plus_and_string (λ e. added_strings m s e) s i)
    (λ p i l. plus_same s i (λ e. added_strings n s e) (λ e. added_strings m s e)
    (λ e a b. strings_same s n m e (omega (arith, gap_piece s at p i l)) (omega (arith, gap_piece s at p i l))))

strings_again : (s : List ℕ) (at : ℕ) → more_strings s at ≡ first (gap_at s at) (λ here. plus_and_string (λ end. more_strings s end) s here)
unfolding more_strings added_strings
strings_again s at =
    strings_same s (suc (length s)) (suc (suc (length s))) at (omega arith) (omega arith)

pub rfc_uncounted : RfcUncounted
rfc_uncounted = record { gaps = gap_again; strings = strings_again }
