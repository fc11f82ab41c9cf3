-- An edge bars one place at the most, so what it leaves of the first places ends there or where they ended before; what all edges leave is what one
-- after another leaves, and edges that bar none of them leave all.
-- Assumes nothing.
use mathlib.Core.Path.{◌≡◌, refl, sym, ◌∙◌}
use mathlib.Core.Logic.{⊎_elim}
use mathlib.Core.List.{List, [], ◌∷◌, ◌++◌}
use mathlib.Core.Bool.{Bool, true, false, ◌&&◌, and-true, and-false, and_assoc, true≢false}
use Prim.Native.Nat.{ℕ, zero, suc, ◌+◌, ◌*◌, ◌≤◌, ◌<◌}
use native.Mathlib.Omega.{arith}
use native.Mathlib.Nat.{eq-or-lt_of_le}
use native.Mathlib.Numerals.{add-one}
use lib.Dec.{leb, ltb}
use lib.ListN.{get_or}
use borrow.Author.Tests.{eq-eqb, ne_eqb, lt-ltb, le-ltb, ltb-true, ltb-false, leb-true, leb-false}
use Rattle.graph.specs.Numbers.{Row}
use Rattle.graph_edges.specs.Edges.{row_at, rows_in}
use Rattle.text_lent.proofs.Numbers.{decide}
use Rattle.text.proofs.Here.{both}
use Rattle.order_places.specs.Noted.{place_in, lets, all_let, bars, Known, KnownAt, NodeAt, NextBreak, Unbroken}
use Rattle.order_places.proofs.Noting.{read}

-- ---- the words of an edge

pub place_read : (places edges : List ℕ) (at : ℕ) → NodeAt edges at places → {v : ℕ} → v ≡ get_or edges at 0
    → get_or places v 0 ≡ place_in places (get_or edges at 0)
place_read places edges at g q = rw q (sym (read places (get_or edges at 0) g.known))

pub edge_known : (edges places : List ℕ) (m : ℕ) → Known edges m places → (i : ℕ) → i < m → KnownAt edges i places
edge_known edges places m g i l = record { long = omega (arith, g.long); from_in = g.from_in i l; to_in = g.to_in i l }

pub second_known : (edges places : List ℕ) (m : ℕ) → Known edges m places → (i : ℕ) → i < m → NodeAt edges (i * 2 + 1) places
second_known edges places m g i l = record { there = omega (arith, g.long); known = g.to_in i l }

-- ---- what one edge leaves

record Leaves (places : List ℕ) (e : Row) (good r : ℕ) : Type 0 where
  most : r ≤ good
  stand : (k : ℕ) → k < r → lets places e k ≡ true
  falls : r < good → lets places e r ≡ false

module _ (places : List ℕ) (e : Row) (good : ℕ) where
  abbrev from : ℕ
  from = place_in places e.from

  abbrev to : ℕ
  to = place_in places e.to

  elsewhere : (k : ℕ) → (to ≡ k → ⊥) → lets places e k ≡ true
  elsewhere k d = rw (ne_eqb to k d)

  here : lets places e to ≡ ltb from to
  here = rw (eq-eqb to to refl)

  -- it stands past the places, or its first node stands earlier
  leaves_all : bars places e good ≡ false → Leaves places e good good
  leaves_all h = go (ltb to good) (leb to from) refl refl h
    where
      all : ((k : ℕ) → k < good → lets places e k ≡ true) → Leaves places e good good
      all s = record { most = omega arith; stand = s; falls = λ m. absurd (omega arith) }

      go : (x y : Bool) → ltb to good ≡ x → leb to from ≡ y → (x && y) ≡ false → Leaves places e good good
      go false y p q h = all (λ k m. elsewhere k (λ e. omega (arith, ltb-false to good p)))
      go true false p q h = all (λ k m. ⊎_elim
          (λ z. rw (← z) (here ∙ lt-ltb from to (leb-false to from q)))
          (λ z. elsewhere k z)
          (decide to k))
      go true true p q h = absurd (true≢false h)

  leaves_before : bars places e good ≡ true → Leaves places e good to
  leaves_before h =
      let t = both (ltb to good) (leb to from) h in
      record {
        most = omega (arith, ltb-true to good t.0);
        stand = λ k m. elsewhere k (λ z. omega arith);
        falls = λ m. here ∙ le-ltb from to (leb-true to from t.1);
      }

-- ---- the search for an edge

-- what the loop keeps
pub record Seeking (places edges : List ℕ) (first m good i : ℕ) : Type 0 where
  pub low : first ≤ i
  pub most : i ≤ m
  pub pass : (k : ℕ) → first ≤ k → k < i → bars places (row_at edges k) good ≡ false

pub none_sought : (places edges : List ℕ) (first m good : ℕ) → first ≤ m → Seeking places edges first m good first
none_sought places edges first m good l = record { low = omega arith; most = l; pass = λ k a b. absurd (omega arith) }

module _ (places edges : List ℕ) (first m good i : ℕ) (g : Seeking places edges first m good i) where
  pub one_sought : {t : Bool} → t ≡ bars places (row_at edges i) good → t ≡ false → i < m → Seeking places edges first m good (i + 1)
  one_sought h f l = record {
    low = omega (arith, g.low);
    most = omega arith;
    pass = λ k a b. ⊎_elim (λ e. rw e (sym h ∙ f)) (λ b. g.pass k a b) (eq-or-lt_of_le {n = k} {m = i} (omega arith));
  }

  pub found : {t : Bool} → t ≡ bars places (row_at edges i) good → t ≡ true → NextBreak places edges first m good i
  found h t = record { low = g.low; most = g.most; pass = g.pass; barred = λ l. sym h ∙ t }

  pub none_found : m ≤ i → NextBreak places edges first m good m
  none_found l =
      let e : i ≡ m = omega (arith, g.most) in
      rw (← e) (record { low = g.low; most = omega arith; pass = g.pass; barred = λ k. absurd (omega arith) })

-- ---- one edge after another

let_snoc : (places : List ℕ) (es : List Row) (e : Row) (k : ℕ) → all_let places (es ++ (e ∷ [])) k ≡ (all_let places es k && lets places e k)
unfolding all_let
let_snoc places [] e k = and-true (lets places e k)
let_snoc places (x ∷ es) e k = rw (let_snoc places es e k) (sym (and_assoc (lets places x k) (all_let places es k) (lets places e k)))

module _ (edges places : List ℕ) (good : ℕ) where
  one_passed : (i least r : ℕ) → Unbroken places (rows_in i edges) good least → Leaves places (row_at edges i) least r
      → Unbroken places (rows_in (suc i) edges) good r
  unfolding rows_in
  one_passed i least r g h = record {
    most = omega (arith, g.most, h.most);
    stand = λ k b. let_snoc places (rows_in i edges) (row_at edges i) k ∙ rw (g.stand k (omega (arith, h.most)), h.stand k b);
    falls = λ b. let_snoc places (rows_in i edges) (row_at edges i) r ∙ ⊎_elim
        (λ q. rw (q, g.falls (omega arith)))
        (λ b. rw (h.falls b, and-false))
        (eq-or-lt_of_le {n = r} {m = least} h.most);
  }

  -- edges that bar no place
  some_passed : (first least r : ℕ) → first ≤ r → Unbroken places (rows_in first edges) good least
      → ((k : ℕ) → first ≤ k → k < r → bars places (row_at edges k) least ≡ false) → Unbroken places (rows_in r edges) good least
  some_passed first least zero l g h = let e : first ≡ 0 = omega arith in rw e at g
  some_passed first least (suc r) l g h = ⊎_elim
      (λ e. rw e at g)
      (λ l. one_passed r least least
      (some_passed first least r (omega arith) g (λ k a b. h k a (omega arith)))
      (leaves_all places (row_at edges r) least (h r (omega arith) (omega arith))))
      (eq-or-lt_of_le {n = first} {m = suc r} l)

  -- what the loop keeps
  pub record Passing (m i least : ℕ) : Type 0 where
    pub low : i ≤ m
    pub sofar : Unbroken places (rows_in i edges) good least
    pub barred : i < m → bars places (row_at edges i) least ≡ true

  passing : (first m least i : ℕ) → Unbroken places (rows_in first edges) good least → NextBreak places edges first m least i → Passing m i least
  passing first m least i g h = record {
    low = h.most;
    sofar = some_passed first least i h.low g h.pass;
    barred = h.barred;
  }

  pub none_passed : (m i : ℕ) → NextBreak places edges 0 m good i → Passing m i good
  unfolding rows_in all_let
  none_passed m i h = passing 0 m good i (record { most = omega arith; stand = λ k l. refl; falls = λ l. absurd (omega arith) }) h

  module _ (m i least : ℕ) (g : Passing m i least) where
    pub more_passed : {to : ℕ} → to ≡ place_in places (row_at edges i).to → i < m → {r : ℕ} → NextBreak places edges (i + 1) m to r → Passing m r to
    more_passed {to} t l {r} h = passing (i + 1) m to r
        (rw add-one (one_passed i least to g.sofar (rw (← t) at (leaves_before places (row_at edges i) least (g.barred l)))))
        h

    pub all_passed : m ≤ i → Unbroken places (rows_in m edges) good least
    all_passed l = let e : i ≡ m = omega (arith, g.low) in rw e at g.sofar
