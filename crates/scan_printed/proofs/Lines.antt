-- A line for each row, of any kind: the lines that are left are the pieces that are left.
-- Assumes nothing.
use mathlib.Core.Path.{◌≡◌, sym, ap, ◌∙◌}
use mathlib.Core.List.{List, ◌∷◌, map, flatten}
use Prim.Native.Nat.{ℕ, ◌+◌, ◌-◌, ◌*◌, ◌<◌, ◌≤◌}
use native.Mathlib.Nat.{sub-zero, zero-mul}
use Rattle.text.proofs.Writing.{said}
use Rattle.scan_line.specs.Wrote.{Wrote}
use Rattle.scan_line.proofs.Going.{Going, begin, ended}
use Rattle.scan_rows.specs.Rows.{rows_of}
use Rattle.scan_rows.proofs.Laws.{rows_done, rows_more}

module _ {A : Type 0} (row : ℕ → A) (size : ℕ) (line : A → List ℕ) (count : ℕ) where
  -- the lines from the r-th on
  abbrev pub lines_from : ℕ → List (List ℕ)
  lines_from r = map line (rows_of row size (count - r) (r * size))

  pub lines_begin : (d : List ℕ) (u : ℕ) → Going d u (flatten (map line (rows_of row size count 0))) d u (lines_from 0)
  lines_begin d u = rw (sub-zero count) (rw (zero-mul size) (begin d u (map line (rows_of row size count 0))))

  module _ {d : List ℕ} {u : ℕ} {all e : List ℕ} {n : ℕ} (r : ℕ) (g : Going d u all e n (lines_from r)) where
    -- i is the row there
    pub lines_more : r < count → {i : A} → i ≡ row (r * size) → Going d u all e n (line i ∷ lines_from (r + 1))
    lines_more h {i} e = record {
      is = said (ap (λ l. flatten (map line l)) (rows_more row size count r h ∙ ap (λ j. j ∷ rows_of row size (count - (r + 1)) ((r + 1) * size)) (sym e)))
          g.is;
    }

    pub lines_done : count ≤ r → Wrote d u all e n
    lines_done h = ended (record { is = said (ap (λ l. flatten (map line l)) (rows_done row size count r h)) g.is })
