-- Counted lists read by a loop: the answer from the start is the answer from here, behind the things that were read. One theory for all of them.
-- Assumes nothing.
use mathlib.Core.Path.{◌≡◌, refl, sym, ap, ◌∙◌}
use mathlib.Core.Logic.{⊎_elim, ◌⊎◌}
use mathlib.Core.List.{List, [], ◌∷◌, ◌++◌}
use Prim.Native.Nat.{ℕ, zero, suc, ◌+◌, ◌-◌, ◌≤◌, ◌<◌}
use native.Mathlib.Omega.{arith}
use native.Mathlib.Numerals.{add-one}
use borrow.Author.Tests.{lt-ltb, le-ltb}
use Rattle.library_form.specs.Form.{Ans, good, bad, bind, number_at, many}
use Rattle.library_image.specs.Image.{Reader, count_at, counted}
use Rattle.library_lists.specs.Lists.{done}

-- ---- readings of which only the place behind is known

pub done_bad : {A : Type 0} (a : Ans A) {p : ℕ} → bad p ≡ done a → a ≡ bad p
done_bad (good x n) {p} e = let z : ◌≡◌ {A = ℕ} 0 1 = cc in absurd (omega arith)
done_bad (bad q) {p} e = let z : q ≡ p = cc in ap bad z

pub bind_bad : {A B : Type 0} (a : Ans A) (f : A → ℕ → Ans B) {p : ℕ} → bad p ≡ done a → bind a f ≡ bad p
bind_bad a f e = rw (done_bad a e)

pub bind_behind : {A B : Type 0} (a : Ans A) (f : ℕ → Ans B) {n : ℕ} → good tt n ≡ done a → bind a (λ x m. f m) ≡ f n
bind_behind (good x m) f {n} e = let z : m ≡ n = cc in ap f z
bind_behind (bad q) f {n} e = let z : ◌≡◌ {A = ℕ} 0 1 = cc in absurd (omega arith)

-- ---- one thing more at the end of a counted list

pub many_snoc : {A : Type 0} (p : List A → ℕ → Ans A) (k : ℕ) (seen : List A) (at : ℕ)
    → many p (suc k) seen at ≡ bind (many p k seen at) (λ xs n. bind (p xs n) (λ a m. good (xs ++ (a ∷ [])) m))
unfolding many
many_snoc p zero seen at = refl
many_snoc {A} p (suc k) seen at = go (p seen at) (λ a n. many_snoc p k (seen ++ (a ∷ [])) n)
  where
    go : (r : Ans A) → ((a : A) (n : ℕ) → many p (suc k) (seen ++ (a ∷ [])) n
        ≡ bind (many p k (seen ++ (a ∷ [])) n) (λ xs n. bind (p xs n) (λ a m. good (xs ++ (a ∷ [])) m)))
        → bind r (λ a n. many p (suc k) (seen ++ (a ∷ [])) n) ≡ bind (bind r (λ a n. many p k (seen ++ (a ∷ [])) n))
        (λ xs n. bind (p xs n) (λ a m. good (xs ++ (a ∷ [])) m))
    go (good a n) ih = ih a n
    go (bad q) ih = refl

-- ---- the loop

module _ {A : Type 0} (p : List A → ℕ → Ans A) where
  pub record Going (count start i at : ℕ) : Type 0 where
    pub seen : List A
    pub sofar : many p i [] start ≡ good seen at
    pub rest : many p count [] start ≡ many p (count - i) seen at
    pub room : i ≤ count

  unfoldable pub going : (count start : ℕ) → Going count start 0 start
  unfolding many
  going count start = let e : count - 0 ≡ count = omega arith in record { seen = []; sofar = refl; rest = rw e; room = omega arith }

  module _ {count start i at : ℕ} (g : Going count start i at) where
    pub next : i < count → many p (count - i) g.seen at ≡ bind (p g.seen at) (λ a n. many p (count - (i + 1)) (g.seen ++ (a ∷ [])) n)
    unfolding many
    next h = let e : count - i ≡ suc (count - (i + 1)) = omega arith in rw e

    unfoldable pub further : {a : A} {n : ℕ} → p g.seen at ≡ good a n → i < count → Going count start (i + 1) n
    further {a} {n} e h = record {
      seen = g.seen ++ (a ∷ []);
      sofar = rw add-one (many_snoc p i [] start ∙ rw (g.sofar, e));
      rest = g.rest ∙ next h ∙ rw e;
      room = omega arith;
    }

    stopped : {q : ℕ} → p g.seen at ≡ bad q → i < count → many p count [] start ≡ bad q
    stopped e h = g.rest ∙ next h ∙ rw e

    all_read : count ≤ i → many p count [] start ≡ good g.seen at
    unfolding many
    all_read h = let e : count - i ≡ 0 = omega arith in g.rest ∙ rw e

    -- where only the place behind what was read is known
    pub further_behind : {n : ℕ} → good tt n ≡ done (p g.seen at) → i < count → Going count start (i + 1) n
    further_behind {n} e h = go (p g.seen at) refl e
      where
        go : (r : Ans A) → p g.seen at ≡ r → good tt n ≡ done r → Going count start (i + 1) n
        go (good a m) k e = let z : n ≡ m = cc in rw z (further k h)
        go (bad q) k e = let z : ◌≡◌ {A = ℕ} 0 1 = cc in absurd (omega arith)

-- ---- the count

module _ (least most : ℕ) (s : List ℕ) (at : ℕ) where
  -- the ways out of `read_count`
  pub no_number : {p : ℕ} → bad p ≡ number_at s at → bad p ≡ count_at least most s at
  unfolding count_at
  no_number e = rw (← e) refl

  module _ {count n : ℕ} (e : good count n ≡ number_at s at) where
    pub out : ((count < least) ⊎ ((least ≤ count) × (most < count))) → bad at ≡ count_at least most s at
    unfolding count_at
    out = ⊎_elim (λ h. rw (← e) (rw (lt-ltb _ _ h))) (λ h. rw (← e) (rw (le-ltb _ _ h.0, lt-ltb _ _ h.1)))

    pub as_many : least ≤ count → count ≤ most → good count n ≡ count_at least most s at
    unfolding count_at
    as_many l h = rw (← e) (rw (le-ltb _ _ l, le-ltb _ _ h))

  -- a list by its count: one law for each way out of its loop
  module _ {A : Type 0} (p : Reader A) where
    pub no_count : {u : ℕ} → bad u ≡ count_at least most s at → bad u ≡ done (counted least most p s at)
    unfolding counted
    no_count e = rw (← e) refl

    module _ {count n : ℕ} (e : good count n ≡ count_at least most s at) {i here : ℕ} (g : Going (p s) count n i here) where
      by_count : counted least most p s at ≡ many (p s) count [] n
      unfolding counted
      by_count = rw (← e) refl

      pub list_stopped : {u : ℕ} → p s g.seen here ≡ bad u → i < count → bad u ≡ done (counted least most p s at)
      list_stopped h l = sym (ap done (by_count ∙ stopped (p s) g h l))

      pub list_read : count ≤ i → good tt here ≡ done (counted least most p s at)
      list_read l = sym (ap done (by_count ∙ all_read (p s) g l))
