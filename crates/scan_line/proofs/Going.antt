-- One theory for every writer: what is left to be written is a list of pieces, each step writes the first one or two of them, and room for all of
-- them is room for each.
-- Assumes nothing.
use mathlib.Core.Path.{◌≡◌, refl, sym, ap, ◌∙◌}
use mathlib.Core.List.{List, [], ◌∷◌, ◌++◌, flatten, append-nil, append_assoc}
use Prim.Native.Nat.{ℕ, ◌+◌, ◌≤◌}
use native.Mathlib.Omega.{arith}
use lib.ListN.{length, take, length-append}
use lib.Seq.{sets, length-sets, sets-eq, drop-drop}
use borrow.Rule.Slice.PartMut.{put_mid}
use Rattle.text.proofs.Writing.{Writing, begun, said, written, counted, sets_append}
use Rattle.scan_line.specs.Wrote.{Wrote}

-- the page was d, `all` is to stand there from u on, the page is e now, and the pieces are still to be written from n on
pub record Going (d : List ℕ) (u : ℕ) (all : List ℕ) (e : List ℕ) (n : ℕ) (ps : List (List ℕ)) : Type 0 where
  pub is : Writing d u all e n (flatten ps)

pub begin : (d : List ℕ) (u : ℕ) (ps : List (List ℕ)) → Going d u (flatten ps) d u ps
begin d u ps = record { is = begun d u (flatten ps) }

pub begin_two : (d : List ℕ) (u : ℕ) (p q : List ℕ) → Going d u (p ++ q) d u (p ∷ q ∷ [])
unfolding flatten
begin_two d u p q = record { is = said (ap (λ l. p ++ l) (sym (append-nil q))) (begun d u (p ++ q)) }

module _ {d : List ℕ} {u : ℕ} {all e : List ℕ} {n : ℕ} where
  -- some of what is left is written
  wrote : {bs rest f : List ℕ} {m : ℕ} → Writing d u all e n (bs ++ rest) → Wrote e n bs f m → Writing d u all f m rest
  wrote {bs} {rest} {f} {m} w h = record {
    long = ap length h.left ∙ length-sets e n bs ∙ w.long;
    same = ap (λ l. sets l m rest) h.left ∙ ap (λ k. sets (sets e n bs) k rest) h.next ∙ sym (sets_append e n bs rest) ∙ w.same;
    count = omega (arith, h.next, w.count, length-append bs rest);
  }

  room : (bs rest : List ℕ) → u + length all ≤ length d → Writing d u all e n (bs ++ rest) → n + length bs ≤ length e
  room bs rest h w = omega (arith, h, w.long, w.count, length-append bs rest)

  module _ {p : List ℕ} {ps : List (List ℕ)} where
    pub puts : Going d u all e n (p ∷ ps) → {f : List ℕ} {m : ℕ} → Wrote e n p f m → Going d u all f m ps
    unfolding flatten
    puts g h = record { is = wrote {bs = p} {rest = flatten ps} g.is h }

    pub fits : u + length all ≤ length d → Going d u all e n (p ∷ ps) → n + length p ≤ length e
    unfolding flatten
    fits h g = room p (flatten ps) h g.is

    module _ {q : List ℕ} where
      together : Going d u all e n (p ∷ q ∷ ps) → Writing d u all e n (p ++ q ++ flatten ps)
      unfolding flatten
      together g = said (sym (append_assoc p q (flatten ps))) g.is

      pub puts_two : Going d u all e n (p ∷ q ∷ ps) → {f : List ℕ} {m : ℕ} → Wrote e n (p ++ q) f m → Going d u all f m ps
      puts_two g h = record { is = wrote {bs = p ++ q} {rest = flatten ps} (together g) h }

      pub fits_two : u + length all ≤ length d → Going d u all e n (p ∷ q ∷ ps) → n + length (p ++ q) ≤ length e
      fits_two h g = room (p ++ q) (flatten ps) h (together g)

  pub long : {ps : List (List ℕ)} → Going d u all e n ps → length e ≡ length d
  long g = g.is.long

  pub ended : Going d u all e n [] → Wrote d u all e n
  unfolding flatten
  ended g = record { left = written refl g.is; next = counted refl g.is }

-- ---- from the first byte of the page on

pub from_start : {k n : ℕ} → k ≤ n → 0 + k ≤ n
from_start h = omega arith

pub from_first : {d all e : List ℕ} {n : ℕ} → Wrote d 0 all e n → (n ≡ length all) × (e ≡ sets d 0 all)
from_first w = (omega (arith, w.next), w.left)

-- ---- the length of pieces

unfoldable pub sum : List (List ℕ) → ℕ
sum [] = 0
sum (p ∷ ps) = length p + sum ps

pub flatten_length : (ps : List (List ℕ)) → length (flatten ps) ≡ sum ps
unfolding flatten sum
flatten_length [] = refl
flatten_length (p ∷ ps) = length-append p (flatten ps) ∙ ap (λ k. length p + k) (flatten_length ps)
