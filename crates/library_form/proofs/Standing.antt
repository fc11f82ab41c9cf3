-- Bytes that stand one behind the other: those between two places, and those at a place with a rest behind them. A number or a name that stands at a
-- place is read there.
-- Assumes nothing.
use mathlib.Core.Path.{◌≡◌, sym, ap, ap₂, ◌∙◌}
use mathlib.Core.List.{List, [], ◌++◌, append_assoc}
use Prim.Native.Nat.{ℕ, ◌+◌, ◌-◌, ◌≤◌}
use native.Mathlib.Omega.{arith}
use lib.ListN.{length, take, drop, length-append, length-drop, take-append-drop}
use lib.Seq.{drop-drop, take-add, drop-append_seam, length-take-le}
use Rattle.library_form.specs.Form.{good, most_number, number_at, PlacedName, name_at}
use Rattle.library_form.specs.Writer.{write_number, write_name, NameBytes, AllBytes}
use Rattle.library_form.proofs.Bounds.{number_end, name_end}
use Rattle.library_form.proofs.WriterLaws.{number_back, number_written, name_back, name_written}

-- ---- the bytes between two places

pub record Wrote (s : List ℕ) (at : ℕ) (t : List ℕ) (n : ℕ) : Type 0 where
  pub later : at ≤ n
  pub bytes : take (n - at) (drop at s) ≡ t

module _ (s : List ℕ) where
  pub wrote_none : (at : ℕ) → Wrote s at [] at
  wrote_none at = let e : at - at ≡ 0 = omega arith in record { later = omega arith; bytes = rw e }

  pub wrote_join : (at m n : ℕ) {t u : List ℕ} → Wrote s at t m → Wrote s m u n → Wrote s at (t ++ u) n
  wrote_join at m n a b =
      let p = a.later in
      let q = b.later in
      let d : n - at ≡ m - at + (n - m) = omega arith in
      let f : at + (m - at) ≡ m = omega arith in
      record {
        later = omega arith;
        bytes =
            ap (λ x. take x (drop at s)) d ∙ take-add (m - at) (n - m) (drop at s)
            ∙ ap₂ ◌++◌ a.bytes (ap (take (n - m)) (drop-drop (m - at) at s ∙ ap (λ x. drop x s) f) ∙ b.bytes);
      }

  pub number_wrote : AllBytes s → (at : ℕ) {c n : ℕ} → number_at s at ≡ good c n → Wrote s at (write_number c) n
  number_wrote bytes at e = let q = number_end s at e in record { later = omega arith; bytes = number_written s bytes at e }

  pub name_wrote : AllBytes s → (at : ℕ) {w : PlacedName} {n : ℕ} → name_at s at ≡ good w n → Wrote s at (write_name w.text) n
  name_wrote bytes at e =
      let q = name_end s at e in
      let l = q.later in
      let b = q.behind in
      record { later = omega arith; bytes = name_written s at e bytes }

-- ---- bytes that stand at a place, with a rest behind them

pub record Stands (s : List ℕ) (at : ℕ) (t rest : List ℕ) : Type 0 where
  pub inside : at ≤ length s
  pub bytes : drop at s ≡ t ++ rest

module _ (s : List ℕ) (at : ℕ) where
  pub stands_left : (t u rest : List ℕ) → Stands s at (t ++ u) rest → Stands s at t (u ++ rest)
  stands_left t u rest h = record { inside = h.inside; bytes = h.bytes ∙ append_assoc t u rest }

  pub stands_right : (t u rest : List ℕ) → Stands s at (t ++ u) rest → Stands s (at + length t) u rest
  stands_right t u rest h =
      let e : drop at s ≡ t ++ (u ++ rest) = h.bytes ∙ append_assoc t u rest in
      let l : length s - at ≡ length t + length (u ++ rest) = sym (length-drop at s) ∙ ap length e ∙ length-append t (u ++ rest) in
      let i = h.inside in
      record { inside = omega arith; bytes = sym (drop-drop (length t) at s) ∙ ap (drop (length t)) e ∙ drop-append_seam t (u ++ rest) }

  pub stands_within : (t rest : List ℕ) → Stands s at t rest → at + length t ≤ length s
  stands_within t rest h =
      let l : length s - at ≡ length t + length rest = sym (length-drop at s) ∙ ap length h.bytes ∙ length-append t rest in
      let i = h.inside in
      omega arith

  -- as the bytes before the place, and those from it on
  whole : (t rest : List ℕ) → Stands s at t rest → take at s ++ (t ++ rest) ≡ s
  whole t rest h = ap (λ l. take at s ++ l) (sym h.bytes) ∙ take-append-drop at s

  before : (t rest : List ℕ) → Stands s at t rest → length (take at s) ≡ at
  before t rest h = length-take-le at s h.inside

  pub number_stands : (c : ℕ) (rest : List ℕ) → c ≤ most_number → Stands s at (write_number c) rest → number_at s at ≡ good c (at + length (write_number c))
  number_stands c rest m h =
      let e = whole (write_number c) rest h in
      let l = before (write_number c) rest h in
      ap₂ number_at (sym e) (sym l) ∙ number_back (take at s) rest c m ∙ ap (λ x. good c (x + length (write_number c))) l

  -- a name, with its place
  pub name_stands : (bs rest : List ℕ) → NameBytes bs → Stands s at (write_name bs) rest
      → let first = at + length (write_number (length bs)) in name_at s at
      ≡ good (record { place = first; size = length bs; text = bs }) (at + length (write_name bs))
  unfolding write_name
  name_stands bs rest b h =
      let e = whole (write_name bs) rest h in
      let l = before (write_name bs) rest h in
      let v = write_number (length bs) in
      let d : at + length v + length bs ≡ at + length (v ++ bs) = omega (arith, length-append v bs) in
      ap₂ name_at (sym e) (sym l) ∙ name_back (take at s) bs rest b
      ∙ ap (λ x. good (record { place = x + length v; size = length bs; text = bs }) (x + length v + length bs)) l
      ∙ ap (λ x. good (record { place = at + length v; size = length bs; text = bs }) x) d
