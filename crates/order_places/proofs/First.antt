-- The places before the first that is wrong are free each after those before it, and that one is not: so a check from the start goes on from there, and
-- ends there.
-- Assumes nothing.
use Rattle.std.specs.Prelude.{Ok, Err}
use mathlib.Core.Path.{◌≡◌, refl, sym, ◌∙◌}
use mathlib.Core.Logic.{◌⊎◌, inl, inr, ⊎_elim}
use mathlib.Core.List.{List, [], ◌∷◌}
use mathlib.Core.Bool.{Bool, true, false, cond, ◌&&◌, and-false}
use Prim.Native.Nat.{ℕ, zero, suc, ◌≤◌, ◌<◌, max}
use native.Mathlib.Omega.{arith}
use native.Mathlib.Nat.{eq-or-lt_of_le}
use lib.ListN.{length, get_or, take, drop, replicate, length-replicate, drop_of_length-le}
use lib.Seq.{take-suc, drop-cons, length-take-le}
use lib.Dec.{eqb, ltb}
use borrow.Author.Tests.{eq-eqb, ne_eqb, lt-ltb, le-ltb, ltb-true, ltb-false}
use Rattle.graph.specs.Numbers.{Row}
use Rattle.graph_edges.specs.Edges.{rows_in}
use Rattle.text_lent.proofs.Numbers.{decide}
use Rattle.order_tables.specs.Free.{mem, ready, free}
use Rattle.order_tables.specs.Tables.{Fit}
use Rattle.order_tables.proofs.Ready.{within_row}
use Rattle.order_places.specs.Noted.{nowhere, place_in, Blank, Noted, AllNoted, all_let, Known, Unbroken}
use Rattle.order_places.specs.Places.{place_from, place_of}
use Rattle.order_places.proofs.Noting.{few, early, late}

order : (a b : ℕ) → (a < b) ⊎ (b ≤ a)
order a b = go (ltb a b) refl
  where
    go : (x : Bool) → ltb a b ≡ x → (a < b) ⊎ (b ≤ a)
    go true e = inl (ltb-true a b e)
    go false e = inr (ltb-false a b e)

-- ---- the table tells what the list does

module _ (list : List ℕ) (n : ℕ) (places : List ℕ) (r : ℕ) (g : Noted list n places r) where
  told : (v k : ℕ) → k ≤ r → mem v (take k list) ≡ ltb (place_in places v) k
  told v k l = ⊎_elim
      (λ m. early list n places r g v k l m ∙ sym (lt-ltb (place_in places v) k m))
      (λ m. late list n places r g v k l m ∙ sym (le-ltb (place_in places v) k m))
      (order (place_in places v) k)

  stands_at : (v k : ℕ) → k < r → eqb v (get_or list k 0) ≡ eqb (place_in places v) k
  stands_at v k l = ⊎_elim
      (λ e. eq-eqb v (get_or list k 0) e ∙ sym (eq-eqb (place_in places v) k (rw e (g.placed k l))))
      (λ d. ne_eqb v (get_or list k 0) d ∙ sym (ne_eqb (place_in places v) k (λ e. d (sym (at_place v k l e)))))
      (decide v (get_or list k 0))
    where
      at_place : (v k : ℕ) → k < r → place_in places v ≡ k → get_or list k 0 ≡ v
      at_place v k l e = rw e at (g.there v (λ z. omega (arith, few list n places r g, g.low))).1

  ready_told : (es : List Row) (k : ℕ) → k < r → ready es (take k list) (get_or list k 0) ≡ all_let places es k
  unfolding ready all_let
  ready_told [] k l = refl
  ready_told (e ∷ es) k l = rw (stands_at e.to k l, told e.from k (omega arith), ready_told es k l)
      (go (eqb (place_in places e.to) k))
    where
      go : (b : Bool) → cond b (ltb (place_in places e.from) k && all_let places es k) (all_let places es k)
          ≡ (cond b (ltb (place_in places e.from) k) true && all_let places es k)
      go true = refl
      go false = refl

-- ---- free or not

module _ (list : List ℕ) (n : ℕ) (places : List ℕ) (r : ℕ) (a : AllNoted list n places r) (es : List Row) (good : ℕ)
    (u : Unbroken places es r good) where
  is_free : (k : ℕ) → k < good → free n es (take k list) (get_or list k 0) ≡ true
  is_free k l =
      let m : k < r = omega (arith, u.most) in
      let s : mem (get_or list k 0) (take k list) ≡ false =
      late list n places r a.noted (get_or list k 0) k (omega arith) (omega (arith, a.noted.placed k m)) in
      rw (lt-ltb (get_or list k 0) n (a.noted.below k m), s, ready_told list n places r a.noted es k m, u.stand k l)

  not_free : good < length list → free n es (take good list) (get_or list good 0) ≡ false
  not_free l = ⊎_elim stopped barred (eq-or-lt_of_le {n = good} {m = r} u.most)
    where
      barred : good < r → free n es (take good list) (get_or list good 0) ≡ false
      barred m = rw (ready_told list n places r a.noted es good m, u.falls m, and-false, and-false)

      stopped : good ≡ r → free n es (take good list) (get_or list good 0) ≡ false
      stopped q = rw q (⊎_elim
          (λ b. rw (known (a.stop (omega arith) b), and-false))
          (λ b. rw (le-ltb (get_or list r 0) n b))
          (order (get_or list r 0) n))
        where
          known : (place_in places (get_or list r 0) ≡ nowhere → ⊥) → mem (get_or list r 0) (take r list) ≡ true
          known d = early list n places r a.noted (get_or list r 0) r (omega arith) (a.noted.there (get_or list r 0) d).0

-- ---- the check from the start, and from the first places on

on_from : (n : ℕ) (es : List Row) (list : List ℕ) (g : ℕ) → g ≤ length list
    → ((k : ℕ) → k < g → free n es (take k list) (get_or list k 0) ≡ true) → place_of n es list ≡ place_from n es (take g list) (drop g list)
unfolding place_from
on_from n es list zero l h = refl
on_from n es list (suc g) l h = on_from n es list g (omega arith) (λ k m. h k (omega arith)) ∙ step
  where
    step : place_from n es (take g list) (drop g list) ≡ place_from n es (take (suc g) list) (drop (suc g) list)
    step = rw (drop-cons list g 0 (omega arith), take-suc list g 0 (omega arith), h g (omega arith))

-- ---- the ways out

module _ (list : List ℕ) (n : ℕ) (places : List ℕ) (r : ℕ) (a : AllNoted list n places r) (edges : List ℕ) (m good : ℕ)
    (u : Unbroken places (rows_in m edges) r good) where
  reached : place_of n (rows_in m edges) list ≡ place_from n (rows_in m edges) (take good list) (drop good list)
  reached = on_from n (rows_in m edges) list good (omega (arith, u.most, a.noted.within)) (is_free list n places r a (rows_in m edges) good u)

  as_long : length (take good list) ≡ good
  as_long = length-take-le good list (omega (arith, u.most, a.noted.within))

  module _ (l : length list ≤ good) where
    at_end : drop good list ≡ []
    at_end = drop_of_length-le list {i = good} l

    right : n ≤ good → (Ok tt) ≡ place_of n (rows_in m edges) list
    unfolding place_from
    right k = sym (reached ∙ rw (at_end, as_long, le-ltb good n k))

    too_short : good < n → Err good ≡ place_of n (rows_in m edges) list
    unfolding place_from
    too_short k = sym (reached ∙ rw (at_end, as_long, lt-ltb good n k))

  wrong : good < length list → Err good ≡ place_of n (rows_in m edges) list
  unfolding place_from
  wrong l = sym (reached ∙ rw (drop-cons list good 0 l, not_free list n places r a (rows_in m edges) good u l, as_long))

  module _ {all : ℕ} (e : all ≡ max (length list) n) where
    pub all_right : all ≤ good → (Ok tt) ≡ place_of n (rows_in m edges) list
    all_right l = right (omega arith) (omega arith)

    pub first_wrong : good < all → Err good ≡ place_of n (rows_in m edges) list
    first_wrong l = ⊎_elim wrong (λ k. too_short k (omega arith)) (order good (length list))

-- ---- what the calls ask

pub blank_table : (n : ℕ) (edges : List ℕ) (m : ℕ) → Fit n edges m → Blank n (replicate {A = ℕ} 1024 4294967295)
blank_table n edges m f = record { few = f.few_nodes; long = rw length-replicate f.few_nodes; empty = λ v. none_there 1024 v }
  where
    none_there : (k v : ℕ) → place_in (replicate k nowhere) v ≡ nowhere
    none_there zero v = refl
    none_there (suc k) zero = refl
    none_there (suc k) (suc v) = none_there k v

pub all_known : (n : ℕ) (edges : List ℕ) (m : ℕ) (list places : List ℕ) (r : ℕ) → Fit n edges m → AllNoted list n places r
    → Known edges m places
all_known n edges m list places r f a = record {
  long = f.long;
  from_in = λ i l. omega (arith, (within_row n m edges i l f.inside).0, a.noted.long);
  to_in = λ i l. omega (arith, (within_row n m edges i l f.inside).1, a.noted.long);
}
