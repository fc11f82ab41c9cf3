-- One gap: where the RFC's ends and no other white byte goes on with it, ours ends too. The RFC passes over white space and comments
-- one by one, and our gap from the place before each of them ends where it ends from the place after it.
-- Assumes nothing.
use mathlib.Core.Path.{◌≡◌, refl, sym, ap, ◌∙◌}
use mathlib.Core.Bool.{true, false, ◌||◌}
use mathlib.Core.List.{List, [], ◌∷◌}
use mathlib.Core.Option.{Option, none, some}
use Prim.Native.Nat.{ℕ, zero, suc, ◌+◌, ◌<◌, ◌≤◌}
use native.Mathlib.Nat.{lt_of_not-le}
use native.Mathlib.Decide.{dec_le}
use native.Mathlib.Omega.{arith}
use lib.ListN.{length, get_or, drop}
use lib.Dec.{eqb, leb}
use borrow.Author.Tests.{eqb-true, eqb-false, leb-true}
use Rattle.text.specs.Class.{class_of, letter, digit, white}
use Rattle.text.specs.Scan.{in_run, span, run_end, pair_at, closing, block_end, comment_end, gap_end}
use Rattle.text.specs.Turns.{Turn, stop, on, after, turns}
use Rattle.text.specs.declared.Run.TheVariants.{White, Line}
use Rattle.text.proofs.Here.{by_test, here, never, both, neither}
use Rattle.text.proofs.Laws.{run_more, run_stop, run_past, block_from, comment_line, comment_block, comment_none, gap_stop, gap_more}
use Rattle.demands_rfc.specs.Rfc.{is_blank, are_at, to_line_end, comment_close, past_comment, separator, past_gap}
use Rattle.demands_rfc.specs.RfcDomain.{odd_white}
use Rattle.demands_rfc.proofs.RfcStrings.{none_some, some_is}

-- ---- white bytes

blank_white : (b : ℕ) → is_blank b ≡ true → in_run White b ≡ true
unfolding is_blank in_run class_of
blank_white b h =
    by_test (eqb b 32)
    (λ e. ap (in_run White) (eqb-true b 32 e))
    (λ e. ap (in_run White) (eqb-true b 9 (rw e at h)))

-- what is no blank, tab or LF and none of 11, 12 and 13
not_white : (b : ℕ) → is_blank b ≡ false → eqb b 10 ≡ false → odd_white b ≡ false → white b ≡ false
unfolding is_blank odd_white
not_white b h l o =
    let k = neither (eqb b 32) (eqb b 9) h in
    let p = neither (eqb b 11 || eqb b 12) (eqb b 13) o in
    let q = neither (eqb b 11) (eqb b 12) p.0 in
    by_test (leb 9 b)
    (λ x. by_test (leb b 13)
    (λ y. absurd (among (leb-true 9 b x) (leb-true b 13 y) (eqb-false b 9 k.1) (eqb-false b 10 l) (eqb-false b 11 q.0) (eqb-false b 12 q.1)
    (eqb-false b 13 p.1)))
    (λ y. simp (x, y, k.0)))
    (λ x. simp (x, k.0))
  where
    among : 9 ≤ b → b ≤ 13 → (b ≡ 9 → ⊥) → (b ≡ 10 → ⊥) → (b ≡ 11 → ⊥) → (b ≡ 12 → ⊥) → (b ≡ 13 → ⊥) → ⊥
    among a z n9 n10 n11 n12 n13 = omega arith

no_run : (b : ℕ) → white b ≡ false → in_run White b ≡ false
unfolding in_run class_of
no_run b h = rw h (by_test (letter b) (λ l. rw l) (λ l. by_test (digit b) (λ d. rw l (rw d)) (λ d. rw l (rw d))))

-- ---- our gap, step by step

module _ (s : List ℕ) (i : ℕ) where
  white_inside : in_run White (get_or s i 256) ≡ true → i < length s
  unfolding in_run class_of
  white_inside h = here s i (λ e. never (ap (in_run White) e) h)

  on_white : in_run White (get_or s i 256) ≡ true → gap_end s i ≡ gap_end s (i + 1)
  on_white h =
      let w = run_end White s i in
      let r : w ≡ run_end White s (i + 1) = run_more White s i (white_inside h) refl refl h in
      by_test (eqb (comment_end s w) w)
      (λ e. gap_stop s i refl refl (eqb-true _ _ e) ∙ sym (gap_stop s (i + 1) r refl (eqb-true _ _ e)))
      (λ e. gap_more s i refl refl (eqb-false _ _ e) ∙ sym (gap_more s (i + 1) r refl (eqb-false _ _ e)))

  no_white : in_run White (get_or s i 256) ≡ false → run_end White s i ≡ i
  no_white h = elim (dec_le (length s) i) [ yes p ↦ run_past White s i p | no p ↦ run_stop White s i (lt_of_not-le p) refl refl h ]

  on_comment : in_run White (get_or s i 256) ≡ false → i < comment_end s i → gap_end s i ≡ gap_end s (comment_end s i)
  on_comment h l = gap_more s i (sym (no_white h)) refl (λ e. omega arith)

  ends_here : in_run White (get_or s i 256) ≡ false → are_at s i 47 47 ≡ false → are_at s i 47 42 ≡ false → gap_end s i ≡ i
  unfolding are_at pair_at
  ends_here h l b = gap_stop s i (sym (no_white h)) refl (comment_none s i l b)

  pub slash : (c : ℕ) → are_at s i 47 c ≡ true → in_run White (get_or s i 256) ≡ false
  unfolding are_at in_run class_of
  slash c h = ap (in_run White) (eqb-true (get_or s i 256) 47 (both (eqb (get_or s i 256) 47) (eqb (get_or s (i + 1) 256) c) h).0)

-- ---- comments

line_same : (xs : List ℕ) → span (in_run Line) xs ≡ to_line_end xs
unfolding span in_run to_line_end
line_same [] = refl
line_same (b ∷ xs) = by_test (eqb b 10) (λ e. rw e) (λ e. rw e (ap suc (line_same xs)))

close_same : (xs : List ℕ) (at e : ℕ) → comment_close xs at ≡ some e → at + closing xs ≡ e
unfolding comment_close closing are_at pair_at
close_same [] at e h = absurd (none_some refl h)
close_same (b ∷ xs) at e h =
    by_test (are_at (b ∷ xs) 0 42 47)
    (λ p. rw p (some_is (at + 2) e refl (rw p at h)))
    (λ p. let k = close_same xs (at + 1) e (rw p at h) in rw p (omega arith))

module _ (s : List ℕ) (i : ℕ) where
  on_line : are_at s i 47 47 ≡ true → gap_end s i ≡ gap_end s (i + 2 + to_line_end (drop (i + 2) s))
  unfolding are_at pair_at run_end
  on_line h =
      let c : comment_end s i ≡ i + 2 + to_line_end (drop (i + 2) s) = comment_line s i h ∙ ap (λ n. i + 2 + n) (line_same (drop (i + 2) s)) in
      on_comment s i (slash s i 47 h) (omega arith) ∙ ap (gap_end s) c

  on_block : (e : ℕ) → are_at s i 47 47 ≡ false → are_at s i 47 42 ≡ true → comment_close (drop (i + 2) s) (i + 2) ≡ some e → gap_end s i ≡ gap_end s e
  unfolding are_at pair_at block_end
  on_block e l h k =
      let c : comment_end s i ≡ e = comment_block s i l h ∙ close_same (drop (i + 2) s) (i + 2) e k in
      on_comment s i (slash s i 42 h) (omega (arith, comment_block s i l h, block_from s (i + 2))) ∙ ap (gap_end s) c

-- CR LF are two white bytes of ours
pair_white : (s : List ℕ) (i : ℕ) → are_at s i 13 10 ≡ true → gap_end s i ≡ gap_end s (i + 2)
unfolding are_at in_run class_of
pair_white s i h =
    let p = both (eqb (get_or s i 256) 13) (eqb (get_or s (i + 1) 256) 10) h in
    on_white s i (ap (in_run White) (eqb-true (get_or s i 256) 13 p.0))
    ∙ on_white s (i + 1) (ap (in_run White) (eqb-true (get_or s (i + 1) 256) 10 p.1))
    ∙ ap (gap_end s) (omega arith)

newline_white : (s : List ℕ) (i : ℕ) → eqb (get_or s i 256) 10 ≡ true → gap_end s i ≡ gap_end s (i + 1)
unfolding in_run class_of
newline_white s i h = on_white s i (ap (in_run White) (eqb-true (get_or s i 256) 10 h))

-- ---- the RFC's gap, turn by turn

-- what a turn says of our gap: it goes on where ours does, and where it stops at a place ours does too
abbrev Step : List ℕ → ℕ → ℕ → Turn ℕ (Option ℕ) → Type 0
Step s i g (stop none) = Unit {0}
Step s i g (stop (some j)) = j ≡ g → gap_end s i ≡ g
Step s i g (on j) = gap_end s i ≡ gap_end s j

comment_step : (s : List ℕ) (i g : ℕ) (o : Option ℕ) → ((e : ℕ) → o ≡ some e → gap_end s i ≡ gap_end s e) → Step s i g (past_comment o)
unfolding past_comment
comment_step s i g none h = tt
comment_step s i g (some e) h = h e refl

step_same : (s : List ℕ) (i g : ℕ) → odd_white (get_or s g 256) ≡ false → Step s i g (separator s i)
unfolding separator
step_same s i g o =
    by_test (is_blank (get_or s i 256))
    (λ b. rw b (on_white s i (blank_white (get_or s i 256) b)))
    (λ b. by_test (eqb (get_or s i 256) 10)
    (λ n. rw b (rw n (newline_white s i n)))
    (λ n. by_test (are_at s i 13 10)
    (λ c. rw b (rw n (rw c (pair_white s i c))))
    (λ c. by_test (are_at s i 47 47)
    (λ l. rw b (rw n (rw c (rw l (on_line s i l)))))
    (λ l. by_test (are_at s i 47 42)
    (λ k. rw b (rw n (rw c (rw l (rw k (comment_step s i g (comment_close (drop (i + 2) s) (i + 2)) (λ e. on_block s i e l k)))))))
    (λ k. rw b (rw n (rw c (rw l (rw k (λ e. ends_here s i (no_run (get_or s i 256) (not_white (get_or s i 256) b n (rw (← e) at o))) l k ∙ e))))))))))

turns_same : (s : List ℕ) (g : ℕ) → odd_white (get_or s g 256) ≡ false → (n i : ℕ) → turns (separator s) none n i ≡ some g → gap_end s i ≡ g
unfolding turns
turns_same s g o zero i h = absurd (none_some refl h)
turns_same s g o (suc n) i h = by_turn (separator s i) (step_same s i g o) h (turns_same s g o n)
  where
    by_turn : (t : Turn ℕ (Option ℕ)) → Step s i g t → after (λ j. turns (separator s) none n j) t ≡ some g
        → ((j : ℕ) → turns (separator s) none n j ≡ some g → gap_end s j ≡ g) → gap_end s i ≡ g
    by_turn (stop none) k h go = absurd (none_some refl h)
    by_turn (stop (some j)) k h go = k (some_is j g refl h)
    by_turn (on j) k h go = k ∙ go j h

pub past_same : (s : List ℕ) (at g : ℕ) → past_gap s at ≡ some g → odd_white (get_or s g 256) ≡ false → gap_end s at ≡ g
unfolding past_gap
past_same s at g h o = turns_same s g o (suc (length s)) at h
