-- A row is copied into the table, and rows of one size one behind the other make the table.
-- Assumes nothing.
use mathlib.Core.Path.{◌≡◌, refl, sym, ap, ◌∙◌}
use mathlib.Core.List.{List, [], ◌∷◌, ◌++◌, append-nil, append_assoc}
use Prim.Native.Nat.{ℕ, zero, suc, ◌+◌, ◌-◌, ◌*◌, ◌<◌, ◌≤◌}
use native.Mathlib.Nat.{zero-mul, suc-mul}
use native.Mathlib.Omega.{arith}
use lib.ListN.{length, take, length-append}
use lib.Seq.{sets, sets-eq, drop-drop}
use borrow.Rule.Slice.PartMut.{put_mid}
use Rattle.text.proofs.Writing.{sets_append}
use Rattle.scan_rows.specs.Rows.{import_size, include_size, import_words, include_words, table, import_table, include_table, rows_of, Each}
use Rattle.scan_rows.specs.declared.YangImport.{YangImport}
use Rattle.scan_rows.specs.declared.YangInclude.{YangInclude}

-- ---- a row copied at once: k of the words were from `at` on, and the table holds ys there now

pub row_put : (t ws : List ℕ) (at : ℕ) {ys : List ℕ} {k : ℕ} → ys ≡ ws → k ≡ length ws → at + length ws ≤ length t → put_mid at k t ys ≡ sets t at ws
row_put t ws at ye ke room = rw (ye, ke, sets-eq ws t at room, drop-drop (length ws) at t) (sym (append_assoc (take at t) ws _))

-- ---- a table of rows of one size, of any kind

module _ {A : Type 0} (words : A → List ℕ) where
  pub table_snoc : (is : List A) (i : A) → table words (is ++ (i ∷ [])) ≡ table words is ++ words i
  unfolding table
  table_snoc [] i = append-nil (words i)
  table_snoc (j ∷ is) i = ap (λ l. words j ++ l) (table_snoc is i) ∙ sym (append_assoc (words j) (table words is) (words i))

  module _ (size : ℕ) (long : (i : A) → length (words i) ≡ size) where
    pub table_length : (is : List A) → length (table words is) ≡ length is * size
    unfolding table
    table_length [] = sym (zero-mul size)
    table_length (i ∷ is) = length-append (words i) (table words is) ∙ omega (arith, long i, table_length is, suc-mul (length is) size)

    -- the next row behind the rows that stand there
    pub table_step : (is : List A) (i : A) (t e f : List ℕ) → e ≡ sets t 0 (table words is) → f ≡ sets e (length is * size) (words i)
        → f ≡ sets t 0 (table words (is ++ (i ∷ [])))
    table_step is i t e f p q =
        let n : length is * size ≡ 0 + length (table words is) = omega (arith, table_length is) in
        q ∙ ap (λ l. sets l (length is * size) (words i)) p ∙ ap (λ k. sets (sets t 0 (table words is)) k (words i)) n
        ∙ sym (sets_append t 0 (table words is) (words i)) ∙ ap (sets t 0) (sym (table_snoc is i))

-- rows as they are read, one after the other
module _ {A : Type 0} (row : ℕ → A) (size : ℕ) where
  pub rows_count : (n at : ℕ) → length (rows_of row size n at) ≡ n
  unfolding rows_of
  rows_count zero at = refl
  rows_count (suc n) at = ap suc (rows_count n (at + size))

  -- the rows from the r-th on
  pub rows_done : (n r : ℕ) → n ≤ r → rows_of row size (n - r) (r * size) ≡ []
  unfolding rows_of
  rows_done n r h = let z : n - r ≡ 0 = omega arith in rw z

  pub rows_more : (n r : ℕ) → r < n → rows_of row size (n - r) (r * size) ≡ row (r * size) ∷ rows_of row size (n - (r + 1)) ((r + 1) * size)
  unfolding rows_of
  rows_more n r h =
      let z : n - r ≡ suc (n - (r + 1)) = omega arith in
      let w : r + 1 ≡ suc r = omega arith in
      rw z (ap (λ k. row (r * size) ∷ rows_of row size (n - (r + 1)) k) (sym (suc-mul r size) ∙ ap (λ k. k * size) (sym w)))

module _ {A : Type 0} (P : A → Type 0) where
  pub each_snoc : (is : List A) (i : A) → Each P is → P i → Each P (is ++ (i ∷ []))
  unfolding Each
  each_snoc [] i h p = (p, tt)
  each_snoc (j ∷ is) i h p = (h.0, each_snoc is i h.1 p)

pub each_of : {A : Type 0} (P Q : A → Type 0) → ((i : A) → P i → Q i) → (is : List A) → Each P is → Each Q is
unfolding Each
each_of P Q f [] h = tt
each_of P Q f (i ∷ is) h = (f i h.0, each_of P Q f is h.1)

-- ---- imports and includes

pub import_words_lem : (i : YangImport) → length (import_words i) ≡ import_size
unfolding import_words
import_words_lem i = refl

pub include_words_lem : (i : YangInclude) → length (include_words i) ≡ include_size
unfolding include_words
include_words_lem i = refl

pub imports_length : (is : List YangImport) → length (import_table is) ≡ length is * import_size
unfolding import_table
imports_length is = table_length import_words import_size import_words_lem is

pub includes_length : (is : List YangInclude) → length (include_table is) ≡ length is * include_size
unfolding include_table
includes_length is = table_length include_words include_size include_words_lem is
