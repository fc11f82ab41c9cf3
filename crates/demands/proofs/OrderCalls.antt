-- The calls' answers from the demand on the order: tables that fit have their edges between nodes, so all of it holds of them. A built graph's tables fit,
-- since its counts are within the limits, its tables as long as was lent, and its rows between its nodes.
-- Assumes nothing.
use Rattle.std.specs.Prelude.{Ok, Err, Result}
use Prim.Native.Nat.{ℕ, ◌-◌, ◌*◌, ◌≤◌, ◌<◌}
use mathlib.Core.Path.{◌≡◌, refl, sym, ap, subst}
use mathlib.Core.Bool.{true, false}
use mathlib.Core.Logic.{◌⊎◌, ⊎_elim, ◌↔◌}
use mathlib.Core.List.{List, [], ◌∷◌, Memᴰ}
use native.Mathlib.Omega.{arith}
use native.Mathlib.Nat.{eq-or-lt_of_le}
use lib.ListN.{length, length-append, length-replicate}
use lib.Dec.{leb}
use borrow.Author.Tests.{eq-eqb, ne_eqb, le-leb, lt-leb, lt-ltb, leb-true, leb-false}
use Rattle.text.proofs.Here.{by_test}
use Rattle.text_lent.specs.Padded.{zeros, padded}
use Rattle.library_form.specs.Writer.{AllBytes}
use Rattle.graph.specs.Numbers.{Row}
use Rattle.graph.proofs.Numbers.{mem_row}
use Rattle.graph_edges.specs.Edges.{rows_in}
use Rattle.library_bundle.specs.Reading.{longest_text}
use Rattle.graph.specs.Nodes.{Mode}
use Rattle.yanglib.specs.ToGraph.{graphed, AnswerFits, Graphs}
use Rattle.graph_tables.specs.Tables.{node_words, row_words}
use Rattle.graph_tables.specs.Lengths.{lengths_of, is_too_short}
use Rattle.yanglib.proofs.Bounds.{answer_fits}
use Rattle.graph_tables.proofs.Short.{Enough, long_enough}
use Rattle.order_tables.specs.Tables.{all_within, fits}
use Rattle.order_tables.proofs.Within.{fitting}
use Rattle.order_take.specs.Taking.{taken}
use Rattle.order_take.proofs.Taken.{taken_short}
use Rattle.order_ring.specs.Ring.{ring_of}
use Rattle.order_places.specs.Places.{place_of}
use Rattle.order.specs.Order.{sorted, sorted_of, order_of, checked, told_place, check_of}
use Rattle.demands_order.specs.Order.{Returns, RightOrder}
use Rattle.demands.specs.OrderCalls.{OrderCause, unfit, too_short, chain_back, in_order, CheckCause, wrong, right, OrderAnswers, OrderCalls}
use Rattle.demands.proofs.Graphing.{bytes_demand3}
use Rattle.demands.proofs.Numbers.{demand1}
use Rattle.demands_order.proofs.OrderDemand.{order_demand}

-- ---- the order

module _ (nodes n : ℕ) (edges : List ℕ) (m : ℕ) where
  abbrev es : List Row
  es = rows_in m edges

  does_not_fit : (table : ℕ) → fits nodes n edges m ≡ false → order_of nodes n edges m table ≡ sorted 43 []
  unfolding order_of
  does_not_fit table f = rw f

  module _ (f : fits nodes n edges m ≡ true) where
    right_order : RightOrder n es
    right_order = order_demand n es (fitting nodes n edges m f).inside

    all_or_less : (length (taken n es) ≡ n) ⊎ (length (taken n es) < n)
    all_or_less = eq-or-lt_of_le {n = length (taken n es)} {m = n} (taken_short n es)

    no_room : (table : ℕ) → table < n → order_of nodes n edges m table ≡ sorted 41 []
    unfolding order_of
    no_room table l = rw (f, lt-leb n table l)

    module _ (table : ℕ) (l : n ≤ table) where
      all_taken : length (taken n es) ≡ n → order_of nodes n edges m table ≡ sorted 0 (taken n es)
      unfolding order_of sorted_of
      all_taken e = rw (f, le-leb n table l, eq-eqb (length (taken n es)) n e)

      some_left : length (taken n es) < n → order_of nodes n edges m table ≡ sorted 40 (ring_of n es (taken n es))
      unfolding order_of sorted_of
      some_left h = rw (f, le-leb n table l, ne_eqb (length (taken n es)) n (λ e. omega arith))

      no_return : length (taken n es) ≡ n → Returns es → ⊥
      no_return e r = omega (arith, right_order.chain_refused r)

  module _ (table : ℕ) where
    -- the number that there is, and why
    cause : OrderCause nodes n edges m table (order_of nodes n edges m table).number
    cause = by_test (fits nodes n edges m)
        (λ f. by_test (leb n table)
        (λ t. let l = leb-true n table t in
        ⊎_elim
        (λ e. subst (OrderCause nodes n edges m table) (sym (ap (λ x. x.number) (all_taken f table l e))) (in_order f l (no_return f table l e)))
        (λ h. subst (OrderCause nodes n edges m table) (sym (ap (λ x. x.number) (some_left f table l h)))
        (chain_back f l ((right_order f).refused_chain h)))
        (all_or_less f))
        (λ t. let l = leb-false n table t in
        subst (OrderCause nodes n edges m table) (sym (ap (λ x. x.number) (no_room f table l))) (too_short f l)))
        (λ f. subst (OrderCause nodes n edges m table) (sym (ap (λ x. x.number) (does_not_fit table f))) (unfit f))

    caused : (k : ℕ) → OrderCause nodes n edges m table k → (order_of nodes n edges m table).number ≡ k
    caused k (unfit f) = ap (λ x. x.number) (does_not_fit table f)
    caused k (too_short f l) = ap (λ x. x.number) (no_room f table l)
    caused k (chain_back f l r) = ap (λ x. x.number) (some_left f table l ((right_order f).chain_refused r))
    caused k (in_order f l d) =
        ap (λ x. x.number) (all_taken f table l (⊎_elim (λ e. e) (λ h. absurd (d ((right_order f).refused_chain h))) (all_or_less f)))

    nothing : (k : ℕ) → OrderCause nodes n edges m table k → 40 < k → (order_of nodes n edges m table).nodes ≡ []
    nothing k (unfit f) l = ap (λ x. x.nodes) (does_not_fit table f)
    nothing k (too_short f h) l = ap (λ x. x.nodes) (no_room f table h)
    nothing k (chain_back f h r) l = absurd (omega arith)
    nothing k (in_order f h d) l = absurd (omega arith)

    -- what a ring is, and what an order is
    record Ring : Type 0 where
      fit : fits nodes n edges m ≡ true
      less : length (taken n es) < n
      is : (order_of nodes n edges m table).nodes ≡ ring_of n es (taken n es)

    a_ring : (k : ℕ) → OrderCause nodes n edges m table k → k ≡ 40 → Ring
    a_ring k (unfit f) e = absurd (omega arith)
    a_ring k (too_short f h) e = absurd (omega arith)
    a_ring k (chain_back f h r) e =
        let l = (right_order f).chain_refused r in
        record { fit = f; less = l; is = ap (λ x. x.nodes) (some_left f table h l) }
    a_ring k (in_order f h d) e = absurd (omega arith)

    record Whole : Type 0 where
      fit : fits nodes n edges m ≡ true
      all : length (taken n es) ≡ n
      is : (order_of nodes n edges m table).nodes ≡ taken n es

    an_order : (k : ℕ) → OrderCause nodes n edges m table k → k ≡ 0 → Whole
    an_order k (unfit f) e = absurd (omega arith)
    an_order k (too_short f h) e = absurd (omega arith)
    an_order k (chain_back f h r) e = absurd (omega arith)
    an_order k (in_order f h d) e =
        let l = ⊎_elim (λ e. e) (λ h. absurd (d ((right_order f).refused_chain h))) (all_or_less f) in
        record { fit = f; all = l; is = ap (λ x. x.nodes) (all_taken f table h l) }

    right_told : fits nodes n edges m ≡ true → (list : List ℕ) → place_of n es list ≡ Ok tt → check_of nodes n edges m list ≡ checked 0 0
    unfolding check_of told_place
    right_told f list p = rw (f, p)

    answers : OrderAnswers nodes n edges m table
    answers = record {
      given = λ k. (λ e. subst (OrderCause nodes n edges m table) e cause, caused k);
      nothing = nothing;
      ring = λ e. let r = a_ring _ cause e in rw r.is ((right_order r.fit).ring r.less);
      taking = λ e i l. let w = an_order _ cause e in rw w.is ((right_order w.fit).taking i (omega (arith, l, w.all)));
      order = λ e. let w = an_order _ cause e in rw w.is ((right_order w.fit).ordered w.all);
      accepted = λ e. let w = an_order _ cause e in rw w.is (right_told w.fit (taken n es) ((right_order w.fit).accepts_own w.all));
    }

  -- ---- the check

  module _ (list : List ℕ) where
    check_unfit : fits nodes n edges m ≡ false → check_of nodes n edges m list ≡ checked 43 0
    unfolding check_of
    check_unfit f = rw f

    check_told : fits nodes n edges m ≡ true → {p : Result (Unit {0}) ℕ} → place_of n es list ≡ p → check_of nodes n edges m list ≡ told_place p
    unfolding check_of
    check_told f q = rw (f, q)

    check_here : CheckCause nodes n edges m list (check_of nodes n edges m list).number (check_of nodes n edges m list).place
    unfolding told_place
    check_here = by_test (fits nodes n edges m)
        (λ f. at_place f (place_of n es list) refl)
        (λ f. subst (λ c. CheckCause nodes n edges m list c.number c.place) (sym (check_unfit f)) (unfit f))
      where
        at_place : fits nodes n edges m ≡ true → (p : Result (Unit {0}) ℕ) → place_of n es list ≡ p
            → CheckCause nodes n edges m list (check_of nodes n edges m list).number (check_of nodes n edges m list).place
        at_place f (Ok tt) q =
            subst (λ c. CheckCause nodes n edges m list c.number c.place) (sym (check_told f q)) (right f ((right_order f).accepts list q))
        at_place f (Err i) q =
            subst (λ c. CheckCause nodes n edges m list c.number c.place) (sym (check_told f q)) (wrong f ((right_order f).first_wrong list i q))

    checked_so : (k p : ℕ) → CheckCause nodes n edges m list k p → check_of nodes n edges m list ≡ checked k p
    unfolding told_place
    checked_so k p (unfit f) = check_unfit f
    checked_so k p (wrong {i = i} f w) = check_told f ((right_order f).wrong_first list i w)
    checked_so k p (right f v) = check_told f ((right_order f).accepted list v)

    check_given : (k p : ℕ) → (check_of nodes n edges m list ≡ checked k p) ↔ CheckCause nodes n edges m list k p
    check_given k p = (λ e. subst (λ c. CheckCause nodes n edges m list c.number c.place) e check_here, checked_so k p)

-- ---- a built graph

padded_least : (k : ℕ) (xs : List ℕ) → k ≤ length (padded k xs)
unfolding padded
padded_least k xs = omega (arith, length-append xs (zeros (k - length xs)), length-replicate {A = ℕ} (k - length xs) 0)

-- rows that are all small are within
all_small : (n : ℕ) (rs : List Row) → ((r : Row) → Memᴰ r rs → (r.from < n) × (r.to < n)) → all_within n rs ≡ true
unfolding all_within
all_small n [] h = refl
all_small n (r ∷ rs) h =
    let k = h r (Memᴰ.head refl) in
    rw (lt-ltb r.from n k.0, lt-ltb r.to n k.1, all_small n rs (λ q j. h q (Memᴰ.tail j)))

module _ (mode : Mode) (s b n e d f g l : List ℕ) (i j : ℕ) {n₁ e₁ d₁ f₁ g₁ l₁ : List ℕ} (bytes : AllBytes s)
    (h : Graphs mode s b n e d f g l (Ok (i, j)) n₁ e₁ d₁ f₁ g₁ l₁) where
  few : (i ≤ 1024) × (j ≤ 8192)
  unfolding AnswerFits
  few = subst AnswerFits (sym h.answer) (answer_fits mode s b bytes (lengths_of n e d f g l))

  lent : is_too_short (longest_text b) (lengths_of n e d f g l) ≡ false
  lent = ((demand1.graph_built mode s b (lengths_of n e d f g l)).0 (i, j, sym h.answer)).lent

  enough : Enough (longest_text b) (lengths_of n e d f g l)
  enough = long_enough (longest_text b) (lengths_of n e d f g l) lent

  tables_fit : fits (length n₁) i e₁ j ≡ true
  tables_fit =
      let r = (bytes_demand3 mode).called s b n e d f g l i j bytes h in
      let x = graphed mode s b (lengths_of n e d f g l) in
      let a : 2048 ≤ length n₁ = rw h.nodes (omega (arith, enough.nodes, padded_least (length n) (node_words x.nodes))) in
      let c : 16384 ≤ length e₁ = rw h.edges (omega (arith, enough.edges, padded_least (length e) (row_words x.rows))) in
      rw (
        le-leb i 1024 few.0,
        le-leb j 8192 few.1,
        le-leb (i * 2) (length n₁) (omega (arith, few)),
        le-leb (j * 2) (length e₁) (omega (arith, few)),
        all_small i (rows_in j e₁) r.rows_small,
      )

pub order_calls : OrderCalls
order_calls = record {
  ordered = answers;
  check = check_given;
  tables_fit = tables_fit;
  registered = λ mode s b n e d f g l i j table {n₁} {e₁} bytes h z u v p q k.
      let r = (bytes_demand3 mode).called s b n e d f g l i j bytes h in
      ((answers (length n₁) i e₁ j table).order z).valid.unbroken u v (mem_row ((r.exact u v p q).1 k));
}
