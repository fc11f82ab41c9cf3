-- A part of the trail grows by a word at its end; what stands before a number ends where it stands first; a part turned round at its lowest number is
-- the two parts around it, the second first.
-- Assumes nothing.
use mathlib.Core.Path.{◌≡◌, refl, sym, ap, ◌∙◌}
use mathlib.Core.Logic.{⊎_elim}
use mathlib.Core.Bool.{true, cond}
use mathlib.Core.List.{List, [], ◌∷◌, ◌++◌, append-nil, append_assoc}
use Prim.Native.Nat.{ℕ, zero, suc, ◌+◌, ◌-◌, ◌≤◌, ◌<◌}
use native.Mathlib.Omega.{arith}
use native.Mathlib.Nat.{eq-or-lt_of_le}
use native.Mathlib.Numerals.{add-one}
use lib.ListN.{length, get_or, take, drop, drop_of_length-le}
use Rattle.std.proofs.lemmas.List.{drop-take}
use lib.Seq.{sets, sets-eq, drop-drop, slice, slice_empty, slice-cons, take-suc, length-take-le, length-slice, drop-append-le, drop-cons, append_snoc}
use lib.Dec.{ltb}
use borrow.Author.Tests.{eq-eqb, ne_eqb, lt-ltb, le-ltb}
use Rattle.text.proofs.Here.{never}
use Rattle.order_tables.specs.Free.{mem}
use Rattle.order_tables.proofs.Distinct.{mem_other}
use Rattle.order_ring.specs.Ring.{until, since, least_of, lowest_first}
use Rattle.order_ring.specs.Trail.{Behind, LowestAt}

slice_snoc : (f t : ℕ) (l : List ℕ) → f ≤ t → t < length l → slice f (t + 1) l ≡ slice f t l ++ (get_or l t 0 ∷ [])
slice_snoc f t l h k =
    rw (add-one t, take-suc l t 0 k) (drop-append-le f (take t l) (get_or l t 0 ∷ []) (omega (arith, length-take-le t l (omega arith))))

pub slice_more : (f t : ℕ) (l : List ℕ) → f < t → t ≤ length l → slice f t l ≡ get_or l f 0 ∷ slice (f + 1) t l
slice_more f t l h k = slice-cons f t l 0 h k ∙ rw (← add-one f)

-- ---- the loop of `behind`

pub record Seeking (trail : List ℕ) (at v i : ℕ) : Type 0 where
  pub from : at ≤ i
  pub sofar : until v (drop at trail) ≡ slice at i trail ++ until v (drop i trail)
  pub later : mem v (drop i trail) ≡ true

pub seek_begun : (trail : List ℕ) (at v : ℕ) → mem v (drop at trail) ≡ true → Seeking trail at v at
seek_begun trail at v m = record { from = omega arith; sofar = rw (slice_empty at trail); later = m }

module _ (trail : List ℕ) (at v i : ℕ) (h : Seeking trail at v i) where
  module _ (l : i < length trail) where
    here : drop i trail ≡ get_or trail i 0 ∷ drop (i + 1) trail
    here = drop-cons trail i 0 l ∙ rw (← add-one i)

    pub seek_found : {x : ℕ} → x ≡ get_or trail i 0 → x ≡ v → Behind trail at v (i + 1)
    unfolding until
    seek_found q e =
        let k : get_or trail i 0 ≡ v = sym q ∙ e in
        let n : until v (drop i trail) ≡ [] = rw (here, eq-eqb (get_or trail i 0) v k) in
        let a : until v (drop at trail) ≡ slice at i trail = h.sofar ∙ rw (n, append-nil) in
        record { past = omega (arith, h.from); within = omega arith; part = slice_snoc at i trail h.from l ∙ rw (a, k) }

    pub seek_more : {x : ℕ} → x ≡ get_or trail i 0 → (x ≡ v → ⊥) → Seeking trail at v (i + 1)
    unfolding until
    seek_more q d =
        let k : get_or trail i 0 ≡ v → ⊥ = λ e. d (q ∙ e) in
        let n : until v (drop i trail) ≡ get_or trail i 0 ∷ until v (drop (i + 1) trail) = rw (here, ne_eqb (get_or trail i 0) v k) in
        record {
          from = omega (arith, h.from);
          sofar = h.sofar ∙ ap (λ (r : List ℕ). slice at i trail ++ r) n
              ∙ sym (append_snoc (slice at i trail) (get_or trail i 0) (until v (drop (i + 1) trail)))
              ∙ ap (λ (r : List ℕ). r ++ until v (drop (i + 1) trail)) (sym (slice_snoc at i trail h.from l));
          later = sym (mem_other v (get_or trail i 0) (drop (i + 1) trail) k) ∙ rw (← here) h.later;
        }

  -- it is met before the end
  pub seek_ends : length trail ≤ i → {r : ℕ} → Behind trail at v r
  unfolding mem
  seek_ends l {r} = let e : drop i trail ≡ [] = drop_of_length-le trail {i = i} l in absurd (never {b = mem v []} refl (rw e at h.later))

-- ---- the lowest of a part

least_lower : (m x : ℕ) (xs : List ℕ) → x < m → least_of m (x ∷ xs) ≡ least_of x xs
unfolding least_of
least_lower m x xs l = let e : cond (ltb x m) x m ≡ x = rw (lt-ltb x m l) in ap (λ (y : ℕ). least_of y xs) e

least_higher : (m x : ℕ) (xs : List ℕ) → m ≤ x → least_of m (x ∷ xs) ≡ least_of m xs
unfolding least_of
least_higher m x xs l = let e : cond (ltb x m) x m ≡ m = rw (le-ltb x m l) in ap (λ (y : ℕ). least_of y xs) e

-- p is the first place of the lowest number from `at` up to i
pub record Lowering (trail : List ℕ) (at end p i : ℕ) : Type 0 where
  pub from : at ≤ p
  pub below : p < i
  pub within : i ≤ end
  pub lowest : (j : ℕ) → at ≤ j → j < i → get_or trail p 0 ≤ get_or trail j 0
  pub first : (j : ℕ) → at ≤ j → j < p → get_or trail p 0 < get_or trail j 0
  pub sofar : least_of (get_or trail at 0) (slice (at + 1) end trail) ≡ least_of (get_or trail p 0) (slice i end trail)

pub lower_begun : (trail : List ℕ) (at end : ℕ) → at < end → Lowering trail at end at (at + 1)
lower_begun trail at end l = record {
  from = omega arith;
  below = omega arith;
  within = omega arith;
  lowest = λ j a b. let e : j ≡ at = omega arith in rw e (omega arith);
  first = λ j a b. absurd (omega arith);
  sofar = refl;
}

module _ (trail : List ℕ) (at end p : ℕ) (k : end ≤ length trail) where
  -- the part from m on and before m, where m stands first at p
  module _ (m : ℕ) (own : get_or trail p 0 ≡ m) (b : p < end) where
    since_at : (d i : ℕ) → i + d ≡ p → ((j : ℕ) → i ≤ j → j < p → get_or trail j 0 ≡ m → ⊥) → since m (slice i end trail) ≡ slice p end trail
    unfolding since
    since_at zero i e f =
        let q : i ≡ p = omega arith in
        rw q (rw (slice_more p end trail b k, own, eq-eqb m m refl))
    since_at (suc d) i e f =
        rw (slice_more i end trail (omega arith) k, ne_eqb (get_or trail i 0) m (f i (omega arith) (omega arith)))
        (since_at d (i + 1) (omega arith) (λ j x y. f j (omega arith) y))

    until_at : (d i : ℕ) → i + d ≡ p → ((j : ℕ) → i ≤ j → j < p → get_or trail j 0 ≡ m → ⊥) → until m (slice i end trail) ≡ slice i p trail
    unfolding until
    until_at zero i e f =
        let q : i ≡ p = omega arith in
        rw q (rw (slice_more p end trail b k, own, eq-eqb m m refl, slice_empty p trail))
    until_at (suc d) i e f =
        rw (
          slice_more i end trail (omega arith) k,
          ne_eqb (get_or trail i 0) m (f i (omega arith) (omega arith)),
          slice_more i p trail (omega arith) (omega arith),
          until_at d (i + 1) (omega arith) (λ j x y. f j (omega arith) y),
        )

  module _ (i : ℕ) (h : Lowering trail at end p i) where
    lower_here : i < end → get_or trail i 0 < get_or trail p 0 → Lowering trail at end i (i + 1)
    lower_here l x = record {
      from = omega (arith, h.from, h.below);
      below = omega arith;
      within = omega arith;
      lowest = λ j a b. ⊎_elim
          (λ e. rw e (omega arith))
          (λ c. omega (arith, h.lowest j a c))
          (eq-or-lt_of_le {n = j} {m = i} (omega arith));
      first = λ j a b. omega (arith, h.lowest j a b);
      sofar = h.sofar ∙ ap (least_of (get_or trail p 0)) (slice_more i end trail l k)
          ∙ least_lower (get_or trail p 0) (get_or trail i 0) (slice (i + 1) end trail) x;
    }

    lower_stays : i < end → get_or trail p 0 ≤ get_or trail i 0 → Lowering trail at end p (i + 1)
    lower_stays l x = record {
      from = h.from;
      below = omega (arith, h.below);
      within = omega arith;
      lowest = λ j a b. ⊎_elim (λ e. rw e x) (λ c. h.lowest j a c) (eq-or-lt_of_le {n = j} {m = i} (omega arith));
      first = h.first;
      sofar = h.sofar ∙ ap (least_of (get_or trail p 0)) (slice_more i end trail l k)
          ∙ least_higher (get_or trail p 0) (get_or trail i 0) (slice (i + 1) end trail) x;
    }

    -- q: the place after the turn
    pub lower_new : {q : ℕ} → i < end → get_or trail i 0 < get_or trail p 0 → q ≡ i → Lowering trail at end q (i + 1)
    lower_new l x e = rw e (lower_here l x)

    pub lower_old : {q : ℕ} → i < end → get_or trail p 0 ≤ get_or trail i 0 → q ≡ p → Lowering trail at end q (i + 1)
    lower_old l x e = rw e (lower_stays l x)

    pub lower_done : end ≤ i → LowestAt trail at end p
    unfolding lowest_first least_of
    lower_done l =
        let e : i ≡ end = omega (arith, h.within) in
        let b : p < end = omega (arith, h.below) in
        let m : least_of (get_or trail at 0) (slice (at + 1) end trail) ≡ get_or trail p 0 = h.sofar ∙ rw (e, slice_empty end trail) in
        let all : slice at end trail ≡ get_or trail at 0 ∷ slice (at + 1) end trail = slice_more at end trail (omega (arith, h.from)) k in
        let d : at + (p - at) ≡ p = omega (arith, h.from) in
        let other : (j : ℕ) → at ≤ j → j < p → get_or trail j 0 ≡ get_or trail p 0 → ⊥ = λ j x y q. omega (arith, h.first j x y) in
        record {
          from = h.from;
          below = b;
          same = rw all (rw (m, ← all)
              (rw (since_at (get_or trail p 0) refl b (p - at) at d other, until_at (get_or trail p 0) refl b (p - at) at d other)));
        }
