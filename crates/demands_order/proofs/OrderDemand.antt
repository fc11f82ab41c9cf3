-- The demand on the order, from its parts.
-- Assumes nothing.
use Prim.Native.Nat.{ℕ, ◌<◌}
use mathlib.Core.Path.{◌≡◌, refl, sym, ap, ◌∙◌}
use mathlib.Core.Logic.{⊎_elim}
use mathlib.Core.Bool.{true}
use mathlib.Core.List.{List, [], ◌∷◌}
use native.Mathlib.Omega.{arith}
use native.Mathlib.Nat.{eq-or-lt_of_le}
use lib.ListN.{length}
use Rattle.graph.specs.Numbers.{Row}
use Rattle.order_tables.specs.Tables.{all_within}
use Rattle.order_take.specs.Taking.{taken}
use Rattle.order_take.proofs.Taken.{taken_in_turn, taken_short, taken_stuck}
use Rattle.order_ring.specs.Ring.{ring_of}
use Rattle.demands_order.specs.Order.{Returns, Valid, NotAfter, same, lower, later, First, BackCycle, RightOrder, OrderDemand}
use Rattle.demands_order.proofs.OrderValid.{turn_valid, valid_no_chain}
use Rattle.demands_order.proofs.OrderPlaces.{right_in_turn, valid_right, wrong_first_wrong, first_wrong_wrong}
use Rattle.demands_order.proofs.OrderLeast.{taken_lowest, taken_all, taken_least}
use Rattle.demands_order.proofs.OrderCycle.{round_returns, ringed, back_cycle}
use Rattle.demands_order.proofs.OrderOnly.{one_cycle}

abbrev front_of : List ℕ → ℕ
front_of [] = 0
front_of (x ∷ xs) = x

abbrev behind_front : List ℕ → List ℕ
behind_front [] = []
behind_front (x ∷ xs) = xs

-- of two lists of which neither comes after the other, both are the same; the other way round is told of two lists that are these
neither_of : {xs ys : List ℕ} → NotAfter xs ys → {us vs : List ℕ} → NotAfter us vs → us ≡ ys → vs ≡ xs → xs ≡ ys
neither_of same k e f = refl
neither_of (lower l) same e f = sym f ∙ e
neither_of (lower l) (lower m) e f = absurd (omega (arith, l, m, ap front_of e, ap front_of f))
neither_of (lower l) (later k) e f = absurd (omega (arith, l, ap front_of e, ap front_of f))
neither_of (later h) same e f = sym f ∙ e
neither_of (later h) (lower m) e f = absurd (omega (arith, m, ap front_of e, ap front_of f))
neither_of (later {x = x} h) (later k) e f = ap (λ zs. x ∷ zs) (neither_of h k (ap behind_front e) (ap behind_front f))

neither_after : {xs ys : List ℕ} → NotAfter xs ys → NotAfter ys xs → xs ≡ ys
neither_after h k = neither_of h k refl refl

module _ (n : ℕ) (es : List Row) (inside : all_within n es ≡ true) where
  taken_valid : length (taken n es) ≡ n → Valid n es (taken n es)
  taken_valid e = turn_valid n es inside (taken_in_turn n es) (omega arith)

  returns : length (taken n es) < n → Returns es
  returns l = round_returns n es (taken n es) (ring_of n es (taken n es)) (ringed n es (taken n es) (taken_stuck n es l) inside).round

  cycle : length (taken n es) < n → BackCycle n es (taken n es) (ring_of n es (taken n es))
  cycle l = back_cycle n es (taken n es) (taken_stuck n es l) inside

  not_refused : (length (taken n es) < n → ⊥) → length (taken n es) ≡ n
  not_refused f = ⊎_elim (λ e. e) (λ l. absurd (f l)) (eq-or-lt_of_le {n = length (taken n es)} {m = n} (taken_short n es))

  refused : (length (taken n es) ≡ n → ⊥) → length (taken n es) < n
  refused f = ⊎_elim (λ e. absurd (f e)) (λ l. l) (eq-or-lt_of_le {n = length (taken n es)} {m = n} (taken_short n es))

  found : (xs : List ℕ) → Valid n es xs → length (taken n es) ≡ n
  found xs v = not_refused (λ l. let r = returns l in valid_no_chain n es xs v r.node r.chain)

  first : length (taken n es) ≡ n → First n es (taken n es)
  first e = record { valid = taken_valid e; lowest = taken_least n es }

  all_ordered : RightOrder n es
  all_ordered = record {
    taking = taken_lowest n es;
    none_free = taken_all n es;
    ordered = first;
    only_order = λ xs f. let e = found xs f.valid in neither_after (f.lowest (taken n es) (taken_valid e)) ((first e).lowest xs f.valid);
    found = found;
    chain_refused = λ r. refused (λ e. valid_no_chain n es (taken n es) (taken_valid e) r.node r.chain);
    refused_chain = returns;
    ring = cycle;
    only_ring = λ l xs c. one_cycle n es (taken n es) xs (ring_of n es (taken n es)) c (cycle l);
    accepts = λ xs h. let r = right_in_turn n es xs h in turn_valid n es inside r.0 r.1;
    accepted = valid_right n es;
    accepts_own = λ e. valid_right n es (taken n es) (taken_valid e);
    first_wrong = wrong_first_wrong n es;
    wrong_first = first_wrong_wrong n es;
  }

pub order_demand : OrderDemand
order_demand = all_ordered
