-- A node that is noted stands at one place only, so the table says of each node whether it stands among the first of the list; and places that hold
-- different nodes are no more than there are nodes.
-- Assumes nothing.
use mathlib.Core.Path.{◌≡◌, refl, sym, ap, ◌∙◌}
use mathlib.Core.Logic.{⊎_elim}
use mathlib.Core.List.{List, [], ◌∷◌}
use mathlib.Core.Bool.{Bool, true, false}
use Prim.Native.Nat.{ℕ, zero, suc, ◌+◌, ◌≤◌, ◌<◌}
use native.Mathlib.Omega.{arith}
use native.Mathlib.Nat.{eq-or-lt_of_le}
use lib.ListN.{length, get_or, set, take, length-set}
use lib.Seq.{get_or-set_same, get_or-set_other, get_or-take, length-take-le, take-suc}
use mir.Syntax.{w32}
use mir.Val.{Fits}
use Rattle.text_lent.proofs.Numbers.{decide}
use Rattle.order_tables.specs.Free.{mem}
use Rattle.order_tables.proofs.Mem.{mem_place, place_mem}
use Rattle.order_tables.proofs.Distinct.{Distinct, none, distinct_snoc, short}
use Rattle.order_places.specs.Noted.{nowhere, place_in, Blank, Noted, AllNoted}

-- what a read of the table gives
pub read : (places : List ℕ) (v : ℕ) → v < length places → place_in places v ≡ get_or places v 0
read [] v l = absurd (omega arith)
read (x ∷ places) zero l = refl
read (x ∷ places) (suc v) l = read places v (omega arith)

module _ (list : List ℕ) (n : ℕ) (places : List ℕ) (r : ℕ) (g : Noted list n places r) where
  taken : (k : ℕ) → k ≤ r → length (take k list) ≡ k
  taken k l = length-take-le k list (omega (arith, g.within))

  pub late : (v k : ℕ) → k ≤ r → k ≤ place_in places v → mem v (take k list) ≡ false
  late v k l h = go (mem v (take k list)) refl
    where
      go : (b : Bool) → mem v (take k list) ≡ b → b ≡ false
      go false e = refl
      go true e =
          let s = mem_place v (take k list) e in
          let b : s.place < k = omega (arith, s.below, taken k l) in
          let q : get_or list s.place 0 ≡ v = sym (get_or-take k list s.place 0 b) ∙ s.same in
          let p : place_in places v ≡ s.place = rw q at (g.placed s.place (omega arith)) in
          absurd (omega arith)

  -- ---- how many they are

  apart : (i : ℕ) → i ≤ r → Distinct (take i list)
  apart zero l = none
  apart (suc i) l =
      rw (take-suc list i 0 (omega (arith, g.within)))
      (distinct_snoc (take i list) (get_or list i 0) (apart i (omega arith))
      (late (get_or list i 0) i (omega arith) (omega (arith, g.placed i (omega arith)))))

  pub few : r ≤ n
  few = omega (arith, taken r (omega arith), short n (take r list) (apart r (omega arith)) inside)
    where
      inside : (v : ℕ) → mem v (take r list) ≡ true → v < n
      inside v e =
          let s = mem_place v (take r list) e in
          let k : s.place < r = omega (arith, s.below, taken r (omega arith)) in
          let q : get_or list s.place 0 ≡ v = sym (get_or-take r list s.place 0 k) ∙ s.same in
          rw q at (g.below s.place k)

  -- ---- so none of their places is that of a node which is not there

  pub early : (v k : ℕ) → k ≤ r → place_in places v < k → mem v (take k list) ≡ true
  early v k l b =
      let p : ℕ = place_in places v in
      let q : get_or (take k list) p 0 ≡ v = get_or-take k list p 0 b ∙ (g.there v (λ e. omega (arith, few, g.low))).1 in
      rw q at (place_mem (take k list) p (omega (arith, taken k l)))

-- ---- one place after another

-- what the loop keeps
pub record Noting (list : List ℕ) (n : ℕ) (before places : List ℕ) (i : ℕ) : Type 0 where
  pub noted : Noted list n places i
  pub kept : length places ≡ length before

pub none_noted : (list : List ℕ) (n : ℕ) (places : List ℕ) → Blank n places → Noting list n places places 0
none_noted list n places b = record {
  noted = record {
    within = omega arith;
    low = b.few;
    long = b.long;
    below = λ i l. absurd (omega arith);
    placed = λ i l. absurd (omega arith);
    there = λ v d. absurd (d (b.empty v));
  };
  kept = refl;
}

module _ (list : List ℕ) (n : ℕ) (before places : List ℕ) (i : ℕ) (g : Noting list n before places i) where
  pub place_fits : Fits w32 i
  place_fits = record { fits = omega (arith, few list n places i g.noted, g.noted.low) }

  pub ended : length list ≤ i → AllNoted list n places (length list)
  ended l = let e : i ≡ length list = omega (arith, g.noted.within) in rw (← e) (record { noted = g.noted; few = few list n places i g.noted; stop = λ k. absurd (omega arith) })

  module _ {v : ℕ} (q : v ≡ get_or list i 0) where
    pub no_node : n ≤ v → AllNoted list n places i
    no_node l = record {
      noted = g.noted;
      few = few list n places i g.noted;
      stop = λ k b. absurd (omega arith);
    }

    module _ (b : v < n) where
      its : place_in places v ≡ get_or places v 0
      its = read places v (omega (arith, g.noted.long))

      pub repeated : (get_or places v 0 ≡ nowhere → ⊥) → AllNoted list n places i
      repeated d = record { noted = g.noted; few = few list n places i g.noted; stop = λ k b. rw (← q) (λ z. d (sym its ∙ z)) }

      -- a node that has no place yet
      module _ (z : get_or places v 0 ≡ nowhere) (l : i < length list) where
        own : place_in (set places v i) v ≡ i
        own = get_or-set_same places v i nowhere (omega (arith, g.noted.long))

        here : (k : ℕ) → k ≡ i → get_or list k 0 ≡ v
        here k e = ap (λ (k : ℕ). get_or list k 0) e ∙ sym q

        else : (u : ℕ) → (u ≡ v → ⊥) → place_in (set places v i) u ≡ place_in places u
        else u d = get_or-set_other places v u i nowhere d

        -- a node with a place is another
        other : (k : ℕ) → k < i → get_or list k 0 ≡ v → ⊥
        other k m e = omega (
          arith,
          its,
          z,
          ap (place_in places) e,
          g.noted.placed k m,
          few list n places i g.noted,
          g.noted.low,
        )

        pub noted_more : Noting list n before (set places v i) (i + 1)
        noted_more = record {
          noted = record {
            within = omega arith;
            low = g.noted.low;
            long = rw length-set g.noted.long;
            below = λ k m. ⊎_elim (λ e. rw (here k e) b) (λ m. g.noted.below k m) (eq-or-lt_of_le {n = k} {m = i} (omega arith));
            placed = λ k m. ⊎_elim
                (λ e. rw (here k e) (own ∙ sym e))
                (λ m. else (get_or list k 0) (other k m) ∙ g.noted.placed k m)
                (eq-or-lt_of_le {n = k} {m = i} (omega arith));
            there = λ u d. ⊎_elim
                (λ s. let y : place_in (set places v i) u ≡ i = ap (place_in (set places v i)) s ∙ own in (omega arith, here _ y ∙ sym s))
                (λ s. rw (else u s) (let y = g.noted.there u (λ h. d (else u s ∙ h)) in (omega (arith, y.0), y.1)))
                (decide u v);
          };
          kept = length-set places v i ∙ g.kept;
        }
