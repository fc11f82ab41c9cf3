-- All edges are between nodes exactly if the largest number of the table's words is a node.
-- Assumes nothing.
use mathlib.Core.Path.{◌≡◌, refl, sym, ap, ◌∙◌}
use mathlib.Core.Bool.{Bool, true, false, ◌&&◌, and-true, and-false, and_assoc}
use mathlib.Core.List.{List, [], ◌∷◌, ◌++◌}
use Prim.Native.Nat.{ℕ, zero, suc, ◌+◌, ◌-◌, ◌*◌, ◌≤◌, ◌<◌, max}
use native.Mathlib.Omega.{arith}
use native.Mathlib.Numerals.{add-one}
use lib.ListN.{length, get_or, take, drop}
use lib.Dec.{ltb, leb}
use lib.Seq.{take-add, drop-cons}
use borrow.Author.Tests.{ltb-true, ltb-false, lt-ltb, le-ltb, leb-true, leb-false}
use Rattle.text_utf8.specs.Largest.{larger, largest}
use Rattle.text.proofs.Here.{by_test, both}
use Rattle.graph.specs.Numbers.{Row}
use Rattle.graph_edges.specs.Edges.{row_at, rows_in}
use Rattle.order_tables.specs.Tables.{within, all_within, fits, Fit}

-- ---- one edge

pub inside_both : (n : ℕ) (e : Row) → within n e ≡ true → (e.from < n) × (e.to < n)
inside_both n e h = let p = both (ltb e.from n) (ltb e.to n) h in (ltb-true _ _ p.0, ltb-true _ _ p.1)

-- ---- the edges of a table

all_append : (n : ℕ) (xs ys : List Row) → all_within n (xs ++ ys) ≡ (all_within n xs && all_within n ys)
unfolding all_within
all_append n [] ys = refl
all_append n (e ∷ xs) ys = go (within n e) (all_append n xs ys)
  where
    go : (b : Bool) → all_within n (xs ++ ys) ≡ (all_within n xs && all_within n ys)
        → (b && all_within n (xs ++ ys)) ≡ ((b && all_within n xs) && all_within n ys)
    go true ih = ih
    go false ih = refl

pub all_snoc : (n : ℕ) (xs : List Row) (e : Row) → all_within n (xs ++ (e ∷ [])) ≡ (all_within n xs && within n e)
unfolding all_within
all_snoc n xs e = rw (all_append n xs (e ∷ []), and-true (within n e))

-- ---- the largest number

pub larger_max : (a b : ℕ) → max a b ≡ larger a b
unfolding larger
larger_max a b = by_test (leb b a) (λ t. rw t (omega (arith, leb-true b a t))) (λ t. rw t (omega (arith, leb-false b a t)))

-- every number of a list is below n
unfoldable all_below : ℕ → List ℕ → Bool
all_below n [] = true
all_below n (x ∷ xs) = ltb x n && all_below n xs

below_append : (n : ℕ) (xs ys : List ℕ) → all_below n (xs ++ ys) ≡ (all_below n xs && all_below n ys)
unfolding all_below
below_append n [] ys = refl
below_append n (x ∷ xs) ys = rw (below_append n xs ys) (sym (and_assoc (ltb x n) (all_below n xs) (all_below n ys)))

-- the larger of two is below n exactly if both are, and so the largest of all
pub larger_below : (n a b : ℕ) → ltb (larger a b) n ≡ (ltb a n && ltb b n)
unfolding larger
larger_below n a b =
    by_test (leb b a)
    (λ t. rw t (by_test (ltb a n)
    (λ h. rw (h, lt-ltb b n (omega (arith, leb-true b a t, ltb-true a n h))))
    (λ h. rw h)))
    (λ t. rw t (by_test (ltb a n)
    (λ h. rw h)
    (λ h. rw (h, le-ltb b n (omega (arith, leb-false b a t, ltb-false a n h))))))

largest_below : (n most : ℕ) (xs : List ℕ) → ltb (largest most xs) n ≡ (ltb most n && all_below n xs)
unfolding largest all_below
largest_below n most [] = sym (and-true (ltb most n))
largest_below n most (x ∷ xs) =
    largest_below n (larger most x) xs ∙ rw (larger_below n most x) (and_assoc (ltb most n) (ltb x n) (all_below n xs))

-- ---- the edges of a table

two_more : (w : List ℕ) (k : ℕ) → k + 2 ≤ length w → take (k + 2) w ≡ take k w ++ (get_or w k 0 ∷ get_or w (k + 1) 0 ∷ [])
two_more w k l =
    take-add k 2 w ∙ ap (λ x. take k w ++ x) (ap (take 2) (drop-cons w k 0 (omega arith) ∙ ap (λ x. get_or w k 0 ∷ x)
    (ap (λ j. drop j w) (sym (add-one k)) ∙ drop-cons w (k + 1) 0 (omega arith))))

rows_below : (n m : ℕ) (w : List ℕ) → m * 2 ≤ length w → all_within n (rows_in m w) ≡ all_below n (take (m * 2) w)
unfolding rows_in all_within all_below
rows_below n zero w l = refl
rows_below n (suc m) w l =
    let q : suc m * 2 ≡ m * 2 + 2 = omega arith in
    all_snoc n (rows_in m w) (row_at w m)
    ∙ rw (
      rows_below n m w (omega arith),
      q,
      two_more w (m * 2) (omega arith),
      below_append n (take (m * 2) w) (get_or w (m * 2) 0 ∷ get_or w (m * 2 + 1) 0 ∷ []),
      and-true (ltb (get_or w (m * 2 + 1) 0) n),
    )

-- where there is an edge between nodes, there is a node
some_node : (n m : ℕ) (w : List ℕ) → (m ≡ 0 → ⊥) → all_within n (rows_in m w) ≡ true → ltb 0 n ≡ true
unfolding rows_in
some_node n zero w d h = absurd (d refl)
some_node n (suc m) w d h =
    let p = inside_both n (row_at w m) (both (all_within n (rows_in m w)) (within n (row_at w m)) (sym (all_snoc n (rows_in m w) (row_at w m)) ∙ h)).1 in
    lt-ltb 0 n (omega (arith, p.0))

pub no_edges : (n m : ℕ) (w : List ℕ) → m ≡ 0 → true ≡ all_within n (rows_in m w)
unfolding rows_in all_within
no_edges n m w e = sym (rw e)

pub most_within : (n m : ℕ) (w : List ℕ) → m * 2 ≤ length w → (m ≡ 0 → ⊥) → {r k : ℕ} → r ≡ largest 0 (take (m * 2 - 0) (drop 0 w)) → k ≡ r
    → ltb k n ≡ all_within n (rows_in m w)
most_within n m w l d {r} {k} e f =
    let z : m * 2 - 0 ≡ m * 2 = omega arith in
    let e' : r ≡ largest 0 (take (m * 2) w) = rw z at e in
    let q : ltb k n ≡ (ltb 0 n && all_within n (rows_in m w)) = rw (f, e') (largest_below n 0 (take (m * 2) w) ∙ rw (rows_below n m w l)) in
    q ∙ by_test (all_within n (rows_in m w)) (λ h. rw (h, some_node n m w d h)) (λ h. rw h (and-false (ltb 0 n)))

-- ---- the tables

module _ (nodes n : ℕ) (w : List ℕ) (m : ℕ) where
  -- what fits has all that is asked
  pub fitting : fits nodes n w m ≡ true → Fit n w m
  fitting h =
      let p = both (leb n 1024) _ h in
      let q = both (leb m 8192) _ p.1 in
      let r = both (leb (n * 2) nodes) _ q.1 in
      let s = both (leb (m * 2) (length w)) _ r.1 in
      record { few_nodes = leb-true _ _ p.0; few_edges = leb-true _ _ q.0; long = leb-true _ _ s.0; inside = s.1 }
