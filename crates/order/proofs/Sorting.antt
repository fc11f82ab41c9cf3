-- Each way out of `order` and `order_check`. What was taken stands in the order table with zeros behind it, so the table's beginning is what the ring is
-- looked for in.
-- Assumes nothing.
use Rattle.std.specs.Prelude.{Ok, Err, Result}
use mathlib.Core.Path.{◌≡◌, sym, ap, ap₂, ◌∙◌}
use mathlib.Core.Bool.{Bool, true, false, not}
use mathlib.Core.List.{List}
use Prim.Native.Nat.{ℕ, ◌-◌, ◌≤◌, ◌<◌}
use native.Mathlib.Omega.{arith}
use lib.ListN.{length, take, length-replicate}
use lib.Seq.{sets, take_at, length-sets}
use borrow.Author.Tests.{eq-eqb, ne_eqb, le-leb, lt-leb, not-true, not-false}
use Rattle.text_lent.specs.Padded.{zeros, padded}
use Rattle.text_lent.proofs.Clears.{written_zero, padded_none}
use Rattle.graph.specs.Numbers.{Row}
use Rattle.graph_edges.specs.Edges.{rows_in}
use Rattle.order_tables.specs.Tables.{fits, Fit}
use Rattle.order_tables.specs.Free.{Stuck}
use Rattle.order_tables.proofs.Distinct.{short}
use Rattle.order_tables.proofs.Within.{fitting}
use Rattle.order_take.specs.Taking.{taken}
use Rattle.order_take.proofs.Taken.{taken_short, taken_stuck}
use Rattle.order_ring.specs.Ring.{ring_of}
use Rattle.order_ring.proofs.Round.{ring_ringed}
use Rattle.order_places.specs.Places.{place_of}
use Rattle.order.specs.declared.Ordered.{Ordered}
use Rattle.order.specs.declared.Checked.{Checked}
use Rattle.order.specs.Order.{sorted_of, order_of, Sorts, Orders, checked, told_place, check_of}

-- ---- tables that fit

module _ (n : ℕ) (edges : List ℕ) (m : ℕ) (table : List ℕ) (fit : Fit n edges m) (room : n ≤ length table) (clear : table ≡ zeros (length table))
    {count : ℕ} {after : List ℕ} (c : count ≡ length (taken n (rows_in m edges))) (w : after ≡ sets table 0 (taken n (rows_in m edges))) where
  abbrev es : List Row
  es = rows_in m edges

  within_table : length (taken n es) ≤ length table
  within_table = omega (arith, taken_short n es, room)

  laid : after ≡ padded (length table) (taken n es)
  laid = written_zero table (taken n es) clear w within_table

  -- all nodes were taken
  pub all_sorted : count ≡ n → Sorts n es (length table) (record { number = 0; length = count }) after
  unfolding sorted_of
  all_sorted e = record {
    number = rw (eq-eqb (length (taken n es)) n (sym c ∙ e));
    count = rw (eq-eqb (length (taken n es)) n (sym c ∙ e)) c;
    written = rw (eq-eqb (length (taken n es)) n (sym c ∙ e)) laid;
  }

  -- some are left over
  kept : length after ≡ length table
  kept = ap length w ∙ length-sets table 0 (taken n es)

  pub count_in : count ≤ length after
  count_in = omega (arith, c, kept, within_table)

  pub room_still : n ≤ length after
  room_still = omega (arith, kept, room)

  front : take count after ≡ taken n es
  unfolding padded
  front = ap (take count) laid ∙ take_at (taken n es) (zeros (length table - length (taken n es))) count (sym c)

  pub laid_still : after ≡ padded (length after) (take count after)
  laid_still = rw (kept, front) laid

  pub stuck : (count ≡ n → ⊥) → Stuck n es (take count after)
  stuck d = rw front (taken_stuck n es (omega (arith, c, d, taken_short n es)))

  pub ring_few : (count ≡ n → ⊥) → {k : ℕ} → k ≡ length (ring_of n es (take count after)) → k < 4294967296
  ring_few d {k} kk =
      let r = ring_ringed n es (take count after) (stuck d) fit.inside in
      omega (arith, kk, short n (ring_of n es (take count after)) r.differ (λ v h. (r.way v h).below), fit.few_nodes)

  pub ring_sorted : (count ≡ n → ⊥) → {k : ℕ} {last : List ℕ} → k ≡ length (ring_of n es (take count after))
      → last ≡ padded (length after) (ring_of n es (take count after)) → Sorts n es (length table) (record { number = 40; length = k }) last
  unfolding sorted_of
  ring_sorted d {k} {last} kk ll =
      let e = ne_eqb (length (taken n es)) n (λ q. d (c ∙ q)) in
      record {
        number = rw e;
        count = rw e (kk ∙ ap (λ l. length (ring_of n es l)) front);
        written = rw e (ll ∙ ap₂ (λ j l. padded j (ring_of n es l)) kept front);
      }

-- ---- order

module _ (nodes : List ℕ) (n : ℕ) (edges : List ℕ) (m : ℕ) (table : List ℕ) {zero : List ℕ} (z : zero ≡ zeros (length table)) {b : Bool}
    (f : b ≡ fits (length nodes) n edges m) where
  same_long : length zero ≡ length table
  same_long = ap length z ∙ length-replicate {A = ℕ} (length table) 0

  pub unfit : not b ≡ true → Orders nodes n edges m table (record { number = 43; length = 0 }) zero
  unfolding order_of
  unfit t =
      let e : fits (length nodes) n edges m ≡ false = sym f ∙ not-true b t in
      record { number = rw e; count = rw e; written = rw e (z ∙ padded_none (length table)) }

  pub too_short : not b ≡ false → length zero < n → Orders nodes n edges m table (record { number = 41; length = 0 }) zero
  unfolding order_of
  too_short t l =
      let e : fits (length nodes) n edges m ≡ true = sym f ∙ not-false b t in
      let k = lt-leb n (length table) (omega (arith, same_long, l)) in
      record { number = rw (e, k); count = rw (e, k); written = rw (e, k) (z ∙ padded_none (length table)) }

  pub fit_now : not b ≡ false → Fit n edges m
  fit_now t = fitting (length nodes) n edges m (sym f ∙ not-false b t)

  pub clear_now : zero ≡ zeros (length zero)
  clear_now = z ∙ ap zeros (sym same_long)

  pub sorted_so : not b ≡ false → n ≤ length zero → {r : Ordered} {after : List ℕ} → Sorts n (rows_in m edges) (length zero) r after
      → Orders nodes n edges m table r after
  unfolding order_of
  sorted_so t l {r} {after} s =
      let e : fits (length nodes) n edges m ≡ true = sym f ∙ not-false b t in
      let k = le-leb n (length table) (omega (arith, same_long, l)) in
      record {
        number = rw (e, k) s.number;
        count = rw (e, k) s.count;
        written = rw (e, k) (s.written ∙ ap (λ j. padded j (sorted_of n (rows_in m edges)).nodes) same_long);
      }

-- ---- order_check

module _ (nodes n : ℕ) (edges : List ℕ) (m : ℕ) (list : List ℕ) {b : Bool} (f : b ≡ fits nodes n edges m) where
  pub check_unfit : not b ≡ true → checked 43 0 ≡ check_of nodes n edges m list
  unfolding check_of
  check_unfit t = sym (rw (← f, not-true b t))

  pub check_fit : not b ≡ false → Fit n edges m
  check_fit t = fitting nodes n edges m (sym f ∙ not-false b t)

  pub check_told : not b ≡ false → {p : Result (Unit {0}) ℕ} {r : Checked} → p ≡ place_of n (rows_in m edges) list → r ≡ told_place p → r ≡ check_of nodes n edges m list
  unfolding check_of
  check_told t pp rr = rr ∙ ap told_place pp ∙ sym (rw (← f, not-false b t))

pub right_told : (p : Result (Unit {0}) ℕ) → p ≡ (Ok tt) → checked 0 0 ≡ told_place p
unfolding told_place
right_told p h = sym (ap told_place h)

pub wrong_told : (p : Result (Unit {0}) ℕ) (i : ℕ) → p ≡ Err i → checked 42 i ≡ told_place p
unfolding told_place
wrong_told p i h = sym (ap told_place h)
