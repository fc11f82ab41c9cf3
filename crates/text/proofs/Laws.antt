-- What a proof uses of the definitions of `specs/Scan.antt`, so that none but this file opens them. A comment takes a byte at least, so the
-- turns of a gap end.
-- Assumes nothing.
use mathlib.Core.Path.{◌≡◌, refl, sym, ap, ◌∙◌}
use mathlib.Core.Bool.{Bool, true, false, cond, ◌&&◌}
use mathlib.Core.List.{List, [], ◌∷◌}
use Prim.Native.Nat.{ℕ, suc, ◌+◌, ◌<◌, ◌≤◌, ◌-◌, max}
use native.Mathlib.Nat.{add-zero}
use native.Mathlib.Decide.{dec_le}
use native.Mathlib.Omega.{arith}
use lib.ListN.{length, get_or, drop, drop_of_length-le, length-drop}
use lib.Seq.{get_or-drop, drop-drop}
use lib.Dec.{eqb}
use borrow.Author.Tests.{eq-eqb, ne_eqb, eqb-true, eqb-false}
use Rattle.text.specs.Scan.{in_ident, in_run, span, run_end, pair_at, closing, block_end, comment_end, after_white, gap_turn, gap_end}
use Rattle.text.specs.declared.Run.{Run}
use Rattle.text.specs.declared.Run.TheVariants.{White, Line, Ident, Name}
use Rattle.text.specs.Turns.{Turn, stop, on, turns}
use Rattle.text.proofs.Turns.{turns_stop, turns_on, turns_rule}
use Rattle.text.proofs.Here.{rest, here, by_test}

-- ---- the bytes of a run

pub in_ident_lem : (b : ℕ) → in_run Ident b ≡ in_ident b
unfolding in_run
in_ident_lem b = refl

pub in_name : (b : ℕ) → in_ident b ≡ true → in_run Name b ≡ true
unfolding in_run
in_name b h = simp h

-- ---- a run

-- Both laws take what the calls on the way answered: b stands here, t whether it belongs to the run.
module _ (k : Run) (s : List ℕ) (i : ℕ) (h : i < length s) {b : ℕ} {t : Bool} (be : b ≡ get_or s i 256) (te : t ≡ in_run k b) where
  -- a byte of the run: the run ends where it ends from the next place
  pub run_more : t ≡ true → run_end k s i ≡ run_end k s (i + 1)
  unfolding run_end span
  run_more y = let e : in_run k (get_or s i 256) ≡ true = cc in rw (rest s i h) (simp e (omega arith))

  -- any other byte: it ends here
  pub run_stop : t ≡ false → run_end k s i ≡ i
  unfolding run_end span
  run_stop n = let e : in_run k (get_or s i 256) ≡ false = cc in rw (rest s i h) (simp e (omega arith))

-- what a loop over the places from `at` on answers where it went to the end: f, where it ends from a place, is that place from the end on
pub max_end : (s : List ℕ) (f : ℕ → ℕ) (at i : ℕ) → ((j : ℕ) → length s ≤ j → f j ≡ j) → length s ≤ i → (at ≤ length s → i ≤ length s) → f i ≡ f at
    → max at (length s) ≡ f at
max_end s f at i past l near e =
    elim (dec_le at (length s)) [ Prim.yes p ↦ omega (arith, past i l, near p) | Prim.no p ↦ omega (arith, past at (omega arith)) ]

pub run_past : (k : Run) (s : List ℕ) (i : ℕ) → length s ≤ i → run_end k s i ≡ i
unfolding run_end span
run_past k s i h = rw (drop_of_length-le s h) (omega arith)

-- a run ends once: from its end on there is none
span_twice : (p : ℕ → Bool) (xs : List ℕ) → span p (drop (span p xs) xs) ≡ 0
unfolding span
span_twice p [] = refl
span_twice p (b ∷ xs) = by_test (p b) (λ t. rw t (span_twice p xs)) (λ t. rw t (rw t refl))

pub run_twice : (k : Run) (s : List ℕ) (i : ℕ) → run_end k s (run_end k s i) ≡ run_end k s i
unfolding run_end
run_twice k s i =
    let n = span (in_run k) (drop i s) in
    let e : drop (i + n) s ≡ drop n (drop i s) = sym (drop-drop n i s) in
    rw e (rw (span_twice (in_run k) (drop i s)) (omega arith))

pub run_from : (k : Run) (s : List ℕ) (i : ℕ) → i ≤ run_end k s i
unfolding run_end
run_from k s i = omega arith

pub span_most : (p : ℕ → Bool) (xs : List ℕ) → span p xs ≤ length xs
unfolding span
span_most p [] = omega arith
span_most p (b ∷ xs) = pick (p b) (span_most p xs)
  where
    pick : (t : Bool) → span p xs ≤ length xs → cond t (suc (span p xs)) 0 ≤ suc (length xs)
    pick true h = omega arith
    pick false h = omega arith

pub run_within : (k : Run) (s : List ℕ) (i : ℕ) → i ≤ length s → run_end k s i ≤ length s
unfolding run_end
run_within k s i h = omega (arith, span_most (in_run k) (drop i s), length-drop i s)

-- ---- two bytes

second : (x y b c : ℕ) → (eqb x b && eqb y c) ≡ true → y ≡ c
second x y b c h = eqb-true y c (right (eqb x b) (eqb y c) h)
  where
    right : (p q : Bool) → (p && q) ≡ true → q ≡ true
    right true q h = h
    right false q h = cc

-- both bytes stand within the text
pub pair_room : (s : List ℕ) (i b c : ℕ) → c < 256 → pair_at s i b c ≡ true → i + 1 < length s
unfolding pair_at
pair_room s i b c small h = here s (i + 1) (λ e. omega (arith, second (get_or s i 256) (get_or s (i + 1) 256) b c h))

pair_drop : (s : List ℕ) (i b c : ℕ) → pair_at (drop i s) 0 b c ≡ pair_at s i b c
unfolding pair_at
pair_drop s i b c = simp (get_or-drop, add-zero)

-- ---- a block comment

pub block_stop : (s : List ℕ) (i : ℕ) → pair_at s i 42 47 ≡ true → block_end s i ≡ i + 2
unfolding block_end closing
block_stop s i h =
    let r = rest s i (omega (arith, pair_room s i 42 47 (omega arith) h)) in
    let e = rw r at (pair_drop s i 42 47 ∙ h) in
    rw r (simp e)

pub block_more : (s : List ℕ) (i : ℕ) → i < length s → pair_at s i 42 47 ≡ false → block_end s i ≡ block_end s (i + 1)
unfolding block_end closing
block_more s i l h =
    let r = rest s i l in
    let e = rw r at (pair_drop s i 42 47 ∙ h) in
    rw r (simp e (omega arith))

pub block_past : (s : List ℕ) (i : ℕ) → length s ≤ i → block_end s i ≡ i
unfolding block_end closing
block_past s i h = rw (drop_of_length-le s h) (omega arith)

pub block_from : (s : List ℕ) (i : ℕ) → i ≤ block_end s i
unfolding block_end
block_from s i = omega arith

closing_most : (xs : List ℕ) → closing xs ≤ length xs
unfolding closing
closing_most [] = omega arith
closing_most (b ∷ xs) =
    by_test (pair_at (b ∷ xs) 0 42 47)
    (λ e. rw e (omega (arith, pair_room (b ∷ xs) 0 42 47 (omega arith) e)))
    (λ e. rw e (omega (arith, closing_most xs)))

pub block_within : (s : List ℕ) (i : ℕ) → i ≤ length s → block_end s i ≤ length s
unfolding block_end
block_within s i h = omega (arith, closing_most (drop i s), length-drop i s)

-- ---- a comment

pub comment_line : (s : List ℕ) (i : ℕ) → pair_at s i 47 47 ≡ true → comment_end s i ≡ run_end Line s (i + 2)
unfolding comment_end
comment_line s i h = simp h

pub comment_block : (s : List ℕ) (i : ℕ) → pair_at s i 47 47 ≡ false → pair_at s i 47 42 ≡ true → comment_end s i ≡ block_end s (i + 2)
unfolding comment_end
comment_block s i g h = simp (g, h)

pub comment_none : (s : List ℕ) (i : ℕ) → pair_at s i 47 47 ≡ false → pair_at s i 47 42 ≡ false → comment_end s i ≡ i
unfolding comment_end
comment_none s i g h = simp (g, h)

-- a comment stands within the text and takes a byte at least
pub comment_on : (s : List ℕ) (i : ℕ) → (comment_end s i ≡ i → ⊥) → (i < comment_end s i) × (i < length s)
comment_on s i h =
    by_test (pair_at s i 47 47)
    (λ l. omega (arith, comment_line s i l, run_from Line s (i + 2), pair_room s i 47 47 (omega arith) l))
    (λ l. by_test (pair_at s i 47 42)
    (λ b. omega (arith, comment_block s i l b, block_from s (i + 2), pair_room s i 47 42 (omega arith) b))
    (λ b. absurd (h (comment_none s i l b))))

pub comment_within : (s : List ℕ) (i : ℕ) → i ≤ length s → comment_end s i ≤ length s
comment_within s i h =
    by_test (pair_at s i 47 47)
    (λ l. let r = pair_room s i 47 47 (omega arith) l in omega (arith, comment_line s i l, run_within Line s (i + 2) (omega arith)))
    (λ l. by_test (pair_at s i 47 42)
    (λ b. let r = pair_room s i 47 42 (omega arith) b in omega (arith, comment_block s i l b, block_within s (i + 2) (omega arith)))
    (λ b. omega (arith, comment_none s i l b)))

pub comment_past : (s : List ℕ) (i : ℕ) → length s ≤ i → comment_end s i ≡ i
comment_past s i h =
    by_test (eqb (comment_end s i) i)
    (λ t. eqb-true _ _ t)
    (λ t. absurd (let k : (comment_end s i ≡ i → ⊥) = eqb-false _ _ t in omega (arith, comment_on s i k)))

-- ---- a gap

gap_is : (s : List ℕ) (i : ℕ) → gap_end s i ≡ turns (gap_turn s) 0 (suc (length s)) i
unfolding gap_end
gap_is s i = refl

white_stop : (s : List ℕ) (i : ℕ) → comment_end s i ≡ i → after_white s i ≡ stop i
unfolding after_white
white_stop s i h = simp (eq-eqb (comment_end s i) i h)

white_on : (s : List ℕ) (i : ℕ) → (comment_end s i ≡ i → ⊥) → after_white s i ≡ on (comment_end s i)
unfolding after_white
white_on s i h = simp (ne_eqb (comment_end s i) i h)

on_is : {A R : Type 0} {t : Turn A R} (a b : A) → t ≡ on a → t ≡ on b → a ≡ b
on_is a b e f = cc

stop_is : {A R : Type 0} {t : Turn A R} (q r : R) → t ≡ stop q → t ≡ stop r → q ≡ r
stop_is q r e f = cc

not_both : {A R : Type 0} {t : Turn A R} {r : R} {a : A} → t ≡ stop r → t ≡ on a → ⊥
not_both e f = let z : ◌≡◌ {A = ℕ} 0 1 = cc in omega arith

white_ons : (s : List ℕ) (i j : ℕ) → after_white s i ≡ on j → (i < j) × (i < length s) × (j ≡ comment_end s i)
white_ons s i j e =
    by_test (eqb (comment_end s i) i)
    (λ t. absurd (not_both (white_stop s i (eqb-true _ _ t)) e))
    (λ t. let h : (comment_end s i ≡ i → ⊥) = eqb-false _ _ t in omega (arith, comment_on s i h, on_is (comment_end s i) j (white_on s i h) e))

white_stops : (s : List ℕ) (i r : ℕ) → after_white s i ≡ stop r → r ≡ i
white_stops s i r e =
    by_test (eqb (comment_end s i) i)
    (λ t. stop_is r i e (white_stop s i (eqb-true _ _ t)))
    (λ t. absurd (not_both e (white_on s i (eqb-false _ _ t))))

white_stopped : (s : List ℕ) (i r : ℕ) → after_white s i ≡ stop r → comment_end s i ≡ i
white_stopped s i r e =
    by_test (eqb (comment_end s i) i) (λ t. eqb-true _ _ t) (λ t. absurd (not_both e (white_on s i (eqb-false _ _ t))))

gap_falls : (s : List ℕ) (i j : ℕ) → gap_turn s i ≡ on j → length s - j < length s - i
unfolding gap_turn
gap_falls s i j e = omega (arith, white_ons s (run_end White s i) j e, run_from White s i)

-- Both laws take what the calls on the way answered: w after the white bytes, n after a comment there.
module _ (s : List ℕ) (i : ℕ) {w n : ℕ} (we : w ≡ run_end White s i) (ne : n ≡ comment_end s w) where
  -- no comment after the white bytes: the gap ends there
  pub gap_stop : n ≡ w → gap_end s i ≡ w
  unfolding gap_end gap_turn
  gap_stop h =
      turns_stop (gap_turn s) 0 (λ k. length s - k) (gap_falls s)
      (suc (length s)) i w (omega arith) (ap (after_white s) (sym we) ∙ white_stop s w (sym ne ∙ h))

  -- a comment: the gap goes on after it
  pub gap_more : (n ≡ w → ⊥) → gap_end s i ≡ gap_end s n
  unfolding gap_end gap_turn
  gap_more h =
      turns_on (gap_turn s) 0 (λ k. length s - k) (gap_falls s)
      (suc (length s)) (suc (length s)) i n (omega arith) (omega arith)
      (ap (after_white s) (sym we) ∙ white_on s w (λ e. h (ne ∙ e)) ∙ ap on (sym ne))

  -- and its end is nearer to the text's
  pub gap_on : (n ≡ w → ⊥) → length s - n < length s - i
  gap_on h = omega (arith, comment_on s w (λ e. h (ne ∙ e)), run_from White s i)

pub gap_from : (s : List ℕ) (i : ℕ) → i ≤ gap_end s i
unfolding gap_end gap_turn
gap_from s i =
    turns_rule (gap_turn s) 0 (λ k. length s - k) (gap_falls s) (λ a r. a ≤ r)
    (λ a r e. omega (arith, white_stops s (run_end White s a) r e, run_from White s a))
    (λ a b r e h. omega (arith, white_ons s (run_end White s a) b e, run_from White s a))
    (suc (length s)) i (omega arith)

pub gap_within : (s : List ℕ) (i : ℕ) → i ≤ length s → gap_end s i ≤ length s
unfolding gap_end gap_turn
gap_within s i =
    turns_rule (gap_turn s) 0 (λ k. length s - k) (gap_falls s) (λ a r. a ≤ length s → r ≤ length s)
    (λ a r e h. omega (arith, white_stops s (run_end White s a) r e, run_within White s a h))
    (λ a b r e k h. k (omega (arith, white_ons s (run_end White s a) b e, comment_within s (run_end White s a) (run_within White s a h))))
    (suc (length s)) i (omega arith)

-- a gap ends once: from its end on there is none
stop_done : (s : List ℕ) (a r : ℕ) → gap_turn s a ≡ stop r → gap_end s r ≡ r
unfolding gap_turn
stop_done s a r e =
    let w = run_end White s a in
    let q : r ≡ w = white_stops s w r e in
    gap_stop s r (q ∙ sym (run_twice White s a) ∙ ap (run_end White s) (sym q)) (q ∙ sym (white_stopped s w r e) ∙ ap (comment_end s) (sym q)) refl

pub gap_twice : (s : List ℕ) (i : ℕ) → gap_end s (gap_end s i) ≡ gap_end s i
gap_twice s i =
    let all = turns_rule (gap_turn s) 0 (λ k. length s - k) (gap_falls s) (λ a r. gap_end s r ≡ r) (stop_done s) (λ a b r e h. h) (suc (length s)) i
    (omega arith) in
    ap (gap_end s) (gap_is s i) ∙ all ∙ sym (gap_is s i)

-- g: where a gap ended
pub gap_done : (s : List ℕ) (i : ℕ) {g : ℕ} → g ≡ gap_end s i → gap_end s g ≡ g
gap_done s i e = ap (gap_end s) e ∙ gap_twice s i ∙ sym e

-- at the end there is none
pub gap_past : (s : List ℕ) (i : ℕ) → length s ≤ i → gap_end s i ≡ i
gap_past s i h = gap_stop s i (sym (run_past White s i h)) (sym (comment_past s i h)) refl
