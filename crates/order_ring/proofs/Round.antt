-- The way back from a node left over comes to a node twice, since there are only n of them; what lies between is a ring along the edges. A ring that is
-- turned round is one still, so it can begin at its lowest node.
-- Assumes nothing.
use Prim.Native.Nat.{ℕ, zero, suc, ◌+◌, ◌≤◌, ◌<◌}
use mathlib.Core.Path.{◌≡◌, refl, sym, ◌∙◌, ap, subst}
use mathlib.Core.Logic.{⊎_elim}
use mathlib.Core.Bool.{Bool, true, false, cond, ◌&&◌, or_comm}
use mathlib.Core.List.{List, [], ◌∷◌, ◌++◌, append-nil, append_assoc}
use native.Mathlib.Omega.{arith}
use lib.Dec.{eqb, ltb}
use lib.ListN.{length, get_or}
use lib.Seq.{append_snoc}
use borrow.Author.Tests.{eqb-true, eqb-false, ltb-true, ltb-false, not-true}
use Rattle.text.proofs.Here.{by_test, never, both}
use Rattle.text_lent.proofs.Numbers.{decide}
use Rattle.graph.specs.Numbers.{Row, row, mem_r}
use Rattle.order_tables.specs.Free.{mem, Stuck}
use Rattle.order_tables.specs.Tables.{all_within}
use Rattle.order_tables.proofs.Mem.{mem_append, mem_snoc_else}
use Rattle.order_tables.proofs.Lowest.{lowest_has, lowest_low}
use Rattle.order_tables.proofs.Ready.{Awaited, unready, within_edge}
use Rattle.order_tables.proofs.Distinct.{Distinct, none, more, distinct_snoc, short, mem_head, mem_tail, mem_other}
use Rattle.order_ring.specs.Ring.{left, first_left, before, until, since, go_back, least_of, lowest_first, ring_of}

-- ---- what stands before a member, and from it on

parted : (m : ℕ) (xs : List ℕ) → until m xs ++ since m xs ≡ xs
unfolding until since
parted m [] = refl
parted m (x ∷ xs) = go (eqb x m) (parted m xs)
  where
    go : (b : Bool) → until m xs ++ since m xs ≡ xs → cond b [] (x ∷ until m xs) ++ cond b (x ∷ xs) (since m xs) ≡ x ∷ xs
    go true e = refl
    go false e = ap (λ l. x ∷ l) e

until_mem : (m u : ℕ) (xs : List ℕ) → mem u (until m xs) ≡ true → mem u xs ≡ true
until_mem m u xs h = ap (mem u) (sym (parted m xs)) ∙ mem_append u (until m xs) (since m xs) ∙ rw h

until_not : (m u : ℕ) (xs : List ℕ) → mem u xs ≡ false → mem u (until m xs) ≡ false
until_not m u xs h = by_test (mem u (until m xs)) (λ t. absurd (never h (until_mem m u xs t))) (λ f. f)

until_ends : (m : ℕ) (xs : List ℕ) → mem m (until m xs) ≡ false
unfolding until mem
until_ends m [] = refl
until_ends m (x ∷ xs) = go (eqb x m) refl (until_ends m xs)
  where
    go : (b : Bool) → eqb x m ≡ b → mem m (until m xs) ≡ false → mem m (cond b [] (x ∷ until m xs)) ≡ false
    go true e ih = refl
    go false e ih = mem_other m x (until m xs) (eqb-false x m e) ∙ ih

until_distinct : (m : ℕ) (xs : List ℕ) → Distinct xs → Distinct (until m xs)
unfolding until
until_distinct m [] none = none
until_distinct m (x ∷ xs) (more q d) = go (eqb x m) (until_distinct m xs d)
  where
    go : (b : Bool) → Distinct (until m xs) → Distinct (cond b [] (x ∷ until m xs))
    go true k = none
    go false k = more (until_not m x xs q) k

-- from a member on a list begins with it
record Begins (m : ℕ) (xs : List ℕ) : Type 0 where
  rest : List ℕ
  is : since m xs ≡ m ∷ rest

begins : (m : ℕ) (xs : List ℕ) → mem m xs ≡ true → Begins m xs
unfolding since mem
begins m [] h = absurd (never refl h)
begins m (x ∷ xs) h = go (eqb x m) refl (begins m xs) h
  where
    go : (b : Bool) → eqb x m ≡ b → (mem m xs ≡ true → Begins m xs) → cond b true (mem m xs) ≡ true → Begins m (x ∷ xs)
    go true e f k = record { rest = xs; is = rw (e, eqb-true x m e) }
    go false e f k = let r = f k in record { rest = r.rest; is = rw e r.is }

-- ---- rings

-- from u through the list to v, each leading to the next
unfoldable pub Along : (ℕ → ℕ → Type 0) → ℕ → List ℕ → ℕ → Type 0
Along leads u [] v = leads u v
Along leads u (x ∷ xs) v = leads u x × Along leads x xs v

-- once round
unfoldable pub Round : (ℕ → ℕ → Type 0) → List ℕ → Type 0
Round leads [] = ⊥
Round leads (x ∷ xs) = Along leads x xs x

-- u leads to the first of the list, and each of the list to the one behind it
unfoldable Trail : (ℕ → ℕ → Type 0) → ℕ → List ℕ → Type 0
Trail leads u [] = Unit {0}
Trail leads u (x ∷ xs) = leads u x × Trail leads x xs

mem_turned : (v : ℕ) (xs ys : List ℕ) → mem v (ys ++ xs) ≡ mem v (xs ++ ys)
mem_turned v xs ys = mem_append v ys xs ∙ or_comm (mem v ys) (mem v xs) ∙ sym (mem_append v xs ys)

distinct_turned : (xs ys : List ℕ) → Distinct (xs ++ ys) → Distinct (ys ++ xs)
distinct_turned [] ys d = rw append-nil d
distinct_turned (x ∷ xs) ys (more q d) =
    let e : Distinct (xs ++ (ys ++ (x ∷ []))) = rw (append_assoc xs ys (x ∷ [])) at (distinct_snoc (xs ++ ys) x d q) in
    rw (append_snoc ys x xs) at (distinct_turned xs (ys ++ (x ∷ [])) e)

module _ (leads : ℕ → ℕ → Type 0) where
  along_joined : (u : ℕ) (xs : List ℕ) (m : ℕ) (ys : List ℕ) (v : ℕ) → Along leads u xs m → Along leads m ys v → Along leads u (xs ++ (m ∷ ys)) v
  unfolding Along
  along_joined u [] m ys v a b = (a, b)
  along_joined u (x ∷ xs) m ys v a b = (a.0, along_joined x xs m ys v a.1 b)

  along_split : (u : ℕ) (xs : List ℕ) (m : ℕ) (ys : List ℕ) (v : ℕ) → Along leads u (xs ++ (m ∷ ys)) v → Along leads u xs m × Along leads m ys v
  unfolding Along
  along_split u [] m ys v a = a
  along_split u (x ∷ xs) m ys v a = let r = along_split x xs m ys v a.1 in ((a.0, r.0), r.1)

  round_turned : (xs ys : List ℕ) → Round leads (xs ++ ys) → Round leads (ys ++ xs)
  unfolding Round
  round_turned [] ys r = rw append-nil r
  round_turned (x ∷ xs) [] r = subst (λ l. Round leads (x ∷ l)) (append-nil xs) r
  round_turned (x ∷ xs) (y ∷ ys) r = let s = along_split x xs y ys x r in along_joined y ys x xs y s.1 s.0

  trail_until : (u v : ℕ) (xs : List ℕ) → Trail leads u xs → mem v xs ≡ true → Along leads u (until v xs) v
  unfolding Trail until mem Along
  trail_until u v [] t h = absurd (never refl h)
  trail_until u v (x ∷ xs) t h = go (eqb x v) refl (trail_until x v xs t.1) h
    where
      go : (b : Bool) → eqb x v ≡ b → (mem v xs ≡ true → Along leads x (until v xs) v) → cond b true (mem v xs) ≡ true
          → Along leads u (cond b [] (x ∷ until v xs)) v
      go true e f k = rw (eqb-true x v e) at t.0
      go false e f k = (t.0, f k)

-- ---- the way back

-- u is the lowest left-over node with an edge to v
pub record Led (n : ℕ) (es : List Row) (done : List ℕ) (u v : ℕ) : Type 0 where
  pub edge : mem_r (row u v) es ≡ true
  pub over : mem u done ≡ false
  pub is : u ≡ before n es done v

-- the nodes on the way back from the lowest node left over
pub data Reached (n : ℕ) (es : List Row) (done : List ℕ) : ℕ → Type 0 where
  first : {v : ℕ} → v ≡ first_left n done → Reached n es done v
  further : {u v : ℕ} → Reached n es done v → Led n es done u v → Reached n es done u

pub record OnWay (n : ℕ) (es : List Row) (done : List ℕ) (v : ℕ) : Type 0 where
  pub over : mem v done ≡ false
  pub below : v < n
  pub reached : Reached n es done v

-- a ring on that way
pub record Ringed (n : ℕ) (es : List Row) (done xs : List ℕ) : Type 0 where
  pub round : Round (Led n es done) xs
  pub differ : Distinct xs
  pub way : (v : ℕ) → mem v xs ≡ true → OnWay n es done v

module _ (n : ℕ) (es : List Row) (done : List ℕ) where
  turned : (xs ys : List ℕ) → Ringed n es done (xs ++ ys) → Ringed n es done (ys ++ xs)
  turned xs ys r = record {
    round = round_turned (Led n es done) xs ys r.round;
    differ = distinct_turned xs ys r.differ;
    way = λ v h. r.way v (sym (mem_turned v xs ys) ∙ h);
  }

  module _ (stuck : Stuck n es done) (inside : all_within n es ≡ true) where
    abbrev leads : ℕ → ℕ → Bool
    leads v u = left done u && mem_r (row u v) es

    -- a node left over waits for one that is left over
    pub before_below : (v : ℕ) → v < n → mem v done ≡ false → before n es done v < n
    before_below v b m =
        let a : Awaited done v es = unready done v es (stuck.waiting v b m) in
        let e : leads v a.from ≡ true = rw (a.missing, a.edge) in
        omega (arith, lowest_low (leads v) n a.from e, (within_edge n es a.from v inside a.edge).0)

    before_led : (v : ℕ) → v < n → mem v done ≡ false → Led n es done (before n es done v) v
    before_led v b m =
        let r = both (left done (before n es done v)) _ (lowest_has (leads v) n (before_below v b m)) in
        record { edge = r.1; over = not-true _ r.0; is = refl }

    -- what was gone through, and where the way is now
    record Going (seen : List ℕ) (v : ℕ) : Type 0 where
      differ : Distinct seen
      trail : Trail (Led n es done) v seen
      way : (u : ℕ) → mem u seen ≡ true → OnWay n es done u
      here : OnWay n es done v

    back_further : (seen : List ℕ) (v : ℕ) → Going seen v → mem v seen ≡ false → Going (v ∷ seen) (before n es done v)
    unfolding Trail
    back_further seen v g h =
        let r = before_led v g.here.below g.here.over in
        record {
          differ = more h g.differ;
          trail = (r, g.trail);
          way = λ u k. ⊎_elim (λ e. rw (← e) g.here) (λ d. g.way u (sym (mem_other u v seen d) ∙ k)) (decide v u);
          here = record { over = r.over; below = before_below v g.here.below g.here.over; reached = further g.here.reached r };
        }

    back_round : (seen : List ℕ) (v : ℕ) → Going seen v → mem v seen ≡ true → Ringed n es done (until v seen ++ (v ∷ []))
    unfolding Round
    back_round seen v g h = record {
      round = round_turned (Led n es done) (v ∷ []) (until v seen) (trail_until (Led n es done) v v seen g.trail h);
      differ = distinct_snoc (until v seen) v (until_distinct v seen g.differ) (until_ends v seen);
      way = λ u k. ⊎_elim
          (λ e. rw e g.here)
          (λ d. g.way u (until_mem v u seen (sym (mem_snoc_else u v (until v seen) d) ∙ k)))
          (decide u v);
    }

    back_ringed : (turns : ℕ) (seen : List ℕ) (v : ℕ) → Going seen v → turns + length seen ≡ suc n → Ringed n es done (go_back (before n es done) turns seen v)
    unfolding go_back
    back_ringed zero seen v g e = absurd (omega (arith, short n seen g.differ (λ u k. (g.way u k).below)))
    back_ringed (suc k) seen v g e = by_test (mem v seen)
        (λ h. rw h (back_round seen v g h))
        (λ h. rw h (back_ringed k (v ∷ seen) (before n es done v) (back_further seen v g h) (omega arith)))

    back_begun : Going [] (first_left n done)
    unfolding Trail mem
    back_begun = record {
      differ = none;
      trail = tt;
      way = λ u h. absurd (never refl h);
      here = record { over = not-true _ (lowest_has (left done) n stuck.some); below = stuck.some; reached = first refl };
    }

    back_ring : Ringed n es done (go_back (before n es done) (suc n) [] (first_left n done))
    back_ring = back_ringed (suc n) [] (first_left n done) back_begun (omega arith)

-- ---- from the lowest node on

least_kept : (m : ℕ) (xs : List ℕ) → mem (least_of m xs) (m ∷ xs) ≡ true
unfolding least_of
least_kept m [] = mem_head m []
least_kept m (x ∷ xs) = go (ltb x m) (least_kept (cond (ltb x m) x m) xs)
  where
    go : (b : Bool) → mem (least_of (cond b x m) xs) (cond b x m ∷ xs) ≡ true → mem (least_of (cond b x m) xs) (m ∷ x ∷ xs) ≡ true
    go true h = mem_tail _ m (x ∷ xs) h
    go false h = ⊎_elim
        (λ e. rw (← e) (mem_head m (x ∷ xs)))
        (λ d. mem_other _ m (x ∷ xs) d ∙ mem_tail _ x xs (sym (mem_other _ m xs d) ∙ h))
        (decide m (least_of m xs))

lower_low : (m x : ℕ) → (cond (ltb x m) x m ≤ m) × (cond (ltb x m) x m ≤ x)
lower_low m x = by_test (ltb x m)
    (λ t. rw t (omega (arith, ltb-true x m t), omega arith))
    (λ t. rw t (omega arith, ltb-false x m t))

least_first : (m : ℕ) (xs : List ℕ) → least_of m xs ≤ m
unfolding least_of
least_first m [] = omega arith
least_first m (x ∷ xs) = omega (arith, least_first (cond (ltb x m) x m) xs, (lower_low m x).0)

least_each : (m : ℕ) (xs : List ℕ) (u : ℕ) → mem u xs ≡ true → least_of m xs ≤ u
unfolding least_of mem
least_each m [] u h = absurd (never refl h)
least_each m (x ∷ xs) u h = ⊎_elim
    (λ e. omega (arith, e, least_first (cond (ltb x m) x m) xs, (lower_low m x).1))
    (λ d. least_each (cond (ltb x m) x m) xs u (sym (mem_other u x xs d) ∙ h))
    (decide x u)

least_low : (m : ℕ) (xs : List ℕ) (u : ℕ) → mem u (m ∷ xs) ≡ true → least_of m xs ≤ u
least_low m xs u h = ⊎_elim
    (λ e. omega (arith, e, least_first m xs))
    (λ d. least_each m xs u (sym (mem_other u m xs d) ∙ h))
    (decide m u)

module _ (n : ℕ) (es : List Row) (done : List ℕ) where
  from_lowest : (xs : List ℕ) → Ringed n es done xs → Ringed n es done (lowest_first xs)
  unfolding lowest_first
  from_lowest [] r = r
  from_lowest (x ∷ xs) r = turned n es done (until (least_of x xs) (x ∷ xs)) (since (least_of x xs) (x ∷ xs)) (rw (parted (least_of x xs) (x ∷ xs)) r)

  pub ring_ringed : Stuck n es done → all_within n es ≡ true → Ringed n es done (ring_of n es done)
  ring_ringed stuck inside = from_lowest (go_back (before n es done) (suc n) [] (first_left n done)) (back_ring n es done stuck inside)

pub first_lowest : (xs : List ℕ) (v : ℕ) → mem v (lowest_first xs) ≡ true → get_or (lowest_first xs) 0 0 ≤ v
unfolding lowest_first mem
first_lowest [] v h = absurd (never refl h)
first_lowest (x ∷ xs) v h =
    let m = least_of x xs in
    let b : Begins m (x ∷ xs) = begins m (x ∷ xs) (least_kept x xs) in
    let e : mem v (x ∷ xs) ≡ true = ap (mem v) (sym (parted m (x ∷ xs))) ∙ sym (mem_turned v (until m (x ∷ xs)) (since m (x ∷ xs))) ∙ h in
    rw b.is (least_low x xs v e)
