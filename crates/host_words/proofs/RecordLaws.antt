-- The words of a metadata record, three for each value, one value after another.
-- Assumes nothing.
use mathlib.Core.Path.{◌≡◌, refl, sym, ap, ◌∙◌}
use mathlib.Core.List.{List, [], ◌∷◌, ◌++◌, append-nil}
use Prim.Native.Nat.{ℕ, zero, suc, ◌+◌, ◌*◌, ◌<◌, ◌≤◌}
use native.Mathlib.Numerals.{add-one}
use native.Mathlib.Omega.{arith}
use lib.ListN.{length, get_or, set, take, drop, replicate}
use lib.Seq.{sets, sets-eq, take_all, take-suc, length-take-le}
use Rattle.scan_rows.specs.Rows.{Each, table}
use Rattle.scan_rows.specs.Span.{missing, mark_of, Fits}
use Rattle.scan_rows.specs.declared.Span.{Span}
use Rattle.scan_rows.proofs.Laws.{table_length, table_step}
use Rattle.host_words.specs.Words.{record_words}

-- ---- a value's numbers are words

pub fits_at : (vs : List Span) (i : ℕ) → Each Fits vs → Fits (get_or vs i missing)
unfolding Each
fits_at [] i h = (omega arith, omega arith)
fits_at (x ∷ vs) zero h = h.0
fits_at (x ∷ vs) (suc i) h = fits_at vs i h.1

pub start_fits : (vs : List Span) (i : ℕ) → Each Fits vs → (get_or vs i missing).start < 4294967296
start_fits vs i h = (fits_at vs i h).0

pub size_fits : (vs : List Span) (i : ℕ) → Each Fits vs → (get_or vs i missing).size < 4294967296
size_fits vs i h = (fits_at vs i h).1

-- ---- a record is a table of rows of three words

abbrev three : Span → List ℕ
three x = mark_of x ∷ x.start ∷ x.size ∷ []

record_table : (vs : List Span) → record_words vs ≡ table three vs
unfolding record_words table
record_table [] = refl
record_table (x ∷ vs) = ap (λ l. mark_of x ∷ x.start ∷ x.size ∷ l) (record_table vs)

-- ---- what the loop keeps: the words of the first i values are written

pub record Writing (vs : List Span) (w : List ℕ) (i : ℕ) : Type 0 where
  pub few : i ≤ 6
  pub written : w ≡ sets (replicate 18 0) 0 (table three (take i vs))

pub begun : (vs : List Span) → Writing vs (replicate 18 0) 0
unfolding table
begun vs = record { few = omega arith; written = refl }

stored : (d : List ℕ) (k a b c : ℕ) → set (set (set d k a) (k + 1) b) (k + 2) c ≡ sets d k (a ∷ b ∷ c ∷ [])
stored d k a b c =
    let p : k + 1 ≡ suc k = omega arith in
    let q : k + 2 ≡ suc (suc k) = omega arith in
    rw (p, q)

module _ (vs : List Span) (w : List ℕ) (i : ℕ) (six : length vs ≡ 6) (g : Writing vs w i) where
  pub more : i < 6 → {m : ℕ} → m ≡ mark_of (get_or vs i missing)
      → Writing vs (set (set (set w (i * 3) m) (i * 3 + 1) (get_or vs i missing).start) (i * 3 + 2) (get_or vs i missing).size) (i + 1)
  more l {m} e =
      let x = get_or vs i missing in
      let n : length (take i vs) ≡ i = length-take-le i vs (omega (arith, six)) in
      let t : take (i + 1) vs ≡ take i vs ++ (x ∷ []) = ap (λ k. take k vs) (add-one i) ∙ take-suc vs i missing (omega (arith, six)) in
      let s : set (set (set w (i * 3) m) (i * 3 + 1) x.start) (i * 3 + 2) x.size ≡ sets w (length (take i vs) * 3) (three x)
      = stored w (i * 3) m x.start x.size ∙ ap (λ v. sets w (i * 3) (v ∷ x.start ∷ x.size ∷ [])) e ∙ ap (λ k. sets w (k * 3) (three x)) (sym n) in
      record {
        few = omega arith;
        written = table_step three 3 (λ y. refl) (take i vs) x (replicate 18 0) w _ g.written s ∙ ap (λ l. sets (replicate 18 0) 0 (table three l)) (sym t);
      }

  pub all_written : 6 ≤ i → w ≡ record_words vs
  all_written l =
      let a : take i vs ≡ vs = take_all i vs (omega (arith, six)) in
      let n : length (table three vs) ≡ 18 = table_length three 3 (λ y. refl) vs ∙ ap (λ k. k * 3) six in
      g.written ∙ ap (λ l. sets (replicate 18 0) 0 (table three l)) a
      ∙ sets-eq (table three vs) (replicate 18 0) 0 (omega (arith, n))
      ∙ ap (λ k. table three vs ++ drop (0 + k) (replicate 18 0)) n ∙ append-nil (table three vs) ∙ sym (record_table vs)
