-- A row tells what was written: its words stand where the row is read, and no word of a plain row is lost.
-- Assumes nothing.
use mathlib.Core.Path.{◌≡◌, refl, sym, ap, ◌∙◌}
use mathlib.Core.Bool.{cond}
use mathlib.Core.List.{List, [], ◌∷◌, ◌++◌, append_assoc}
use Prim.Native.Nat.{ℕ, ◌+◌, ◌*◌, ◌≤◌}
use native.Mathlib.Nat.{add-zero}
use native.Mathlib.Omega.{arith}
use lib.Dec.{eqb}
use lib.ListN.{length, get_or, drop, length-append}
use lib.Seq.{sets, sets-eq, get_or-append-add}
use Rattle.text.proofs.Here.{by_test}
use Rattle.scan_rows.specs.Span.{held, missing, mark_of}
use Rattle.scan_rows.specs.Rows.{import_size, include_size, import_words, include_words, Plain, PlainImport, PlainInclude, Each, table, import_table}
use Rattle.scan_rows.specs.Rows.{include_table, span_at, marked_at, import_at, include_at, rows_of, imports_in, includes_in}
use Rattle.scan_rows.specs.declared.Span.{Span}
use Rattle.scan_rows.specs.declared.YangImport.{YangImport}
use Rattle.scan_rows.specs.declared.YangInclude.{YangInclude}
use Rattle.scan_rows.proofs.Laws.{import_words_lem, include_words_lem, imports_length, includes_length}

-- ---- the words that a row reads, from the word o of t on, are those of u
module _ (t u : List ℕ) (o : ℕ) (same : (k : ℕ) → get_or t (o + k) 0 ≡ get_or u k 0) where
  span_moved : (k : ℕ) → span_at t (o + k) ≡ span_at u k
  unfolding span_at
  span_moved k =
      let n : o + k + 1 ≡ o + (k + 1) = omega arith in
      rw n (rw (same k) (rw (same (k + 1)) refl))

  marked_moved : (k : ℕ) → marked_at t (o + k) ≡ marked_at u k
  unfolding marked_at
  marked_moved k =
      let n : o + k + 1 ≡ o + (k + 1) = omega arith in
      rw n (rw (same k) (rw (span_moved (k + 1)) refl))

  span_at_lem : span_at t o ≡ span_at u 0
  span_at_lem = ap (span_at t) (sym (add-zero o)) ∙ span_moved 0

  import_moved : import_at t o ≡ import_at u 0
  unfolding import_at
  import_moved = rw span_at_lem (rw (span_moved 2) (rw (marked_moved 4) refl))

  include_moved : include_at t o ≡ include_at u 0
  unfolding include_at
  include_moved = rw span_at_lem (rw (marked_moved 2) refl)

-- ---- a row at the head of the words

marked_back : (x : Span) → Plain x → cond (eqb (mark_of x) 0) missing (held x.start x.size) ≡ x
marked_back x p =
    by_test x.present
    (λ t. ap (λ b. cond (eqb (cond b 1 0) 0) missing (held x.start x.size)) t ∙ sym (p ∙ ap (λ b. cond b (held x.start x.size) missing) t))
    (λ f. ap (λ b. cond (eqb (cond b 1 0) 0) missing (held x.start x.size)) f ∙ sym (p ∙ ap (λ b. cond b (held x.start x.size) missing) f))

import_back : (i : YangImport) (zs : List ℕ) → PlainImport i → import_at (import_words i ++ zs) 0 ≡ i
unfolding import_at import_words span_at marked_at
import_back i zs p = rw (marked_back i.revision_date p.2) (rw (← p.0) (rw (← p.1) refl))

include_back : (i : YangInclude) (zs : List ℕ) → PlainInclude i → include_at (include_words i ++ zs) 0 ≡ i
unfolding include_at include_words span_at marked_at
include_back i zs p = rw (marked_back i.revision_date p.1) (rw (← p.0) refl)

-- ---- rows of any kind

module _ {A : Type 0} (words : A → List ℕ) (size : ℕ) (row : List ℕ → ℕ → A) (P : A → Type 0)
    (long : (i : A) → length (words i) ≡ size)
    (moved : (t u : List ℕ) (o : ℕ) → ((k : ℕ) → get_or t (o + k) 0 ≡ get_or u k 0) → row t o ≡ row u 0)
    (back : (i : A) (zs : List ℕ) → P i → row (words i ++ zs) 0 ≡ i) where
  -- behind the words xs
  rows_behind : (xs : List ℕ) (is : List A) (zs : List ℕ) → Each P is → rows_of (row (xs ++ (table words is ++ zs))) size (length is) (length xs) ≡ is
  unfolding rows_of table Each
  rows_behind xs [] zs h = refl
  rows_behind xs (i ∷ is) zs h =
      let here : xs ++ (words i ++ table words is ++ zs) ≡ xs ++ (words i ++ (table words is ++ zs)) = ap (λ l. xs ++ l)
      (append_assoc (words i) (table words is) zs) in
      let next : xs ++ (words i ++ table words is ++ zs) ≡ xs ++ words i ++ (table words is ++ zs) = here
      ∙ sym (append_assoc xs (words i) (table words is ++ zs)) in
      let on : length xs + size ≡ length (xs ++ words i) = omega (arith, length-append xs (words i), long i) in
      let first : row (xs ++ (words i ++ (table words is ++ zs))) (length xs)
      ≡ i = moved (xs ++ (words i ++ (table words is ++ zs))) (words i ++ (table words is ++ zs)) (length xs)
      (λ k. get_or-append-add xs (words i ++ (table words is ++ zs)) k 0) ∙ back i (table words is ++ zs) h.0 in
      let rest : rows_of (row (xs ++ (words i ++ table words is ++ zs))) size (length is) (length xs + size)
      ≡ is = ap (λ l. rows_of (row l) size (length is) (length xs + size)) next
      ∙ ap (rows_of (row (xs ++ words i ++ (table words is ++ zs))) size (length is)) on ∙ rows_behind (xs ++ words i) is zs h.1 in
      ap (λ l. row l (length xs) ∷ rows_of (row (xs ++ (words i ++ table words is ++ zs))) size (length is) (length xs + size)) here
      ∙ ap (λ j. j ∷ rows_of (row (xs ++ (words i ++ table words is ++ zs))) size (length is) (length xs + size)) first
      ∙ ap (λ l. i ∷ l) rest

  rows_back : (is : List A) (zs : List ℕ) → Each P is → rows_of (row (table words is ++ zs)) size (length is) 0 ≡ is
  rows_back is zs h = rows_behind [] is zs h

-- a table written from the first word on
sets_front : (t ws : List ℕ) → length ws ≤ length t → sets t 0 ws ≡ ws ++ drop (0 + length ws) t
sets_front t ws h = sets-eq ws t 0 (omega arith)

-- ---- imports and includes

pub imports_back : (is : List YangImport) (zs : List ℕ) → Each PlainImport is → imports_in (import_table is ++ zs) (length is) ≡ is
unfolding imports_in import_table
imports_back is zs h = rows_back import_words import_size import_at PlainImport import_words_lem import_moved import_back is zs h

pub includes_back : (is : List YangInclude) (zs : List ℕ) → Each PlainInclude is → includes_in (include_table is ++ zs) (length is) ≡ is
unfolding includes_in include_table
includes_back is zs h = rows_back include_words include_size include_at PlainInclude include_words_lem include_moved include_back is zs h

pub imports_written : (is : List YangImport) (t : List ℕ) → Each PlainImport is → length is * import_size ≤ length t
    → imports_in (sets t 0 (import_table is)) (length is) ≡ is
imports_written is t h room =
    ap (λ l. imports_in l (length is)) (sets_front t (import_table is) (omega (arith, imports_length is)))
    ∙ imports_back is (drop (0 + length (import_table is)) t) h

pub includes_written : (is : List YangInclude) (t : List ℕ) → Each PlainInclude is → length is * include_size ≤ length t
    → includes_in (sets t 0 (include_table is)) (length is) ≡ is
includes_written is t h room =
    ap (λ l. includes_in l (length is)) (sets_front t (include_table is) (omega (arith, includes_length is)))
    ∙ includes_back is (drop (0 + length (include_table is)) t) h
