-- Where a scan stands: over each turn and at its end, what was met from there on, and which place was the first and which the last.
-- Assumes nothing.
use Rattle.std.specs.Prelude.{None}
use Prim.Native.Nat.{ℕ, ◌<◌, ◌≤◌}
use mathlib.Core.Path.{◌≡◌, refl, sym, ap, subst, ◌∙◌}
use mathlib.Core.Logic.{◌⊎◌, inl, inr, ⊎_elim}
use mathlib.Core.List.{List, ◌++◌}
use native.Mathlib.Omega.{arith}
use Rattle.text.specs.Keyword.{match_at}
use Rattle.text.specs.Scan.{gap_end}
use Rattle.text.specs.Turns.{Turn, stop, on}
use Rattle.scan_rows.specs.declared.Span.{Span}
use Rattle.demands_values.specs.Behind.{Behind, Reaches, first, next, Unmet, UnmetBefore, UnmetBehind, Met, MetFirst, MetLast}
use Rattle.demands_values.proofs.BehindLaws.{behind_more}

-- ---- the states that a loop comes to

module _ {A R : Type 0} (step : A → Turn A R) where
  pub reach_on : {a b c : A} → step a ≡ on b → Reaches step b c → Reaches step a c
  reach_on t first = next first t
  reach_on t (next r u) = next (reach_on t r) u

  -- the first turn of the way
  reach_front : {a c : A} → Reaches step a c → (c ≡ a) ⊎ ((b : A) × (step a ≡ on b) × Reaches step b c)
  reach_front first = inl refl
  reach_front {a} {c} (next {b = b} r t) =
      ⊎_elim (λ e. inr (c, ap step (sym e) ∙ t, first)) (λ w. inr (w.0, w.1, next w.2 t)) (reach_front r)

  -- what holds of a state and of all that come behind it; where the loop stops, none does
  module _ (P : A → Type 0) {a : A} (p : P a) where
    pub all_stop : {r : R} → step a ≡ stop r → (c : A) → Reaches step a c → P c
    all_stop {r} t c h = ⊎_elim (λ e. subst P (sym e) p) (λ w. absurd (on_stop (sym w.1 ∙ t))) (reach_front h)
      where
        on_stop : {b : A} → ◌≡◌ {A = Turn A R} (on b) (stop r) → ⊥
        on_stop e = let z : ◌≡◌ {A = ℕ} 0 1 = cc in omega arith

    pub all_on : {b : A} → step a ≡ on b → ((c : A) → Reaches step b c → P c) → (c : A) → Reaches step a c → P c
    all_on {b} t behind c h =
        ⊎_elim (λ e. subst P (sym e) p) (λ w. behind c (subst (λ z. Reaches step z c) (same (sym w.1 ∙ t)) w.2)) (reach_front h)
      where
        same : {d : A} → ◌≡◌ {A = Turn A R} (on d) (on b) → d ≡ b
        same e = cc

-- ---- a keyword over the turns of a scan; x: its value at a state, z: the one at the end

module _ {A R : Type 0} (step : A → Turn A R) (at : A → ℕ) (s word : List ℕ) where
  abbrev pub Won : A → List ℕ → Span → Span → Type 0
  Won g store x z = ((z ≡ x) × Unmet step at s word g) ⊎ MetLast step at s word store g z

  -- a turn's statement has the keyword and gives y, or it has not and x stays
  abbrev pub Gives : A → List ℕ → Span → Span → Type 0
  Gives g part x y = Behind s word (gap_end s (at g)) part y ⊎ ((match_at s (gap_end s (at g)) word ≡ None) × (y ≡ x))

-- ---- a scan, which goes forward with each turn

module _ {A R : Type 0} (step : A → Turn A R) (at : A → ℕ) (forward : (a b : A) → step a ≡ on b → at a < at b) where
  pub reach_at : {a b : A} → Reaches step a b → at a ≤ at b
  reach_at first = omega arith
  reach_at {a} {b} (next {b = c} r t) = omega (arith, reach_at r, forward c b t)

  module _ (s word : List ℕ) where
    abbrev Free : A → Type 0
    Free b = match_at s (gap_end s (at b)) word ≡ None

    -- nothing is met where it stops; over a turn
    pub unmet_stop : {g : A} {r : R} → step g ≡ stop r → Free g → Unmet step at s word g
    unmet_stop t f = all_stop step Free f t

    pub unmet_on : {g h : A} → step g ≡ on h → Free g → Unmet step at s word h → Unmet step at s word g
    unmet_on t f u = all_on step Free f t u

    module _ {g h : A} (turn : step g ≡ on h) where
      abbrev pub met_on : {store : List ℕ} {x : Span} → Met step at s word store h x → Met step at s word store g x
      met_on m = record { state = m.state; reached = reach_on step turn m.reached; value = m.value }

      -- behind g, and behind a place that is met later
      pub behind_here : Unmet step at s word h → UnmetBehind step at s word g (at g)
      behind_here u = all_on step (λ b. at g < at b → Free b) (λ l. absurd (omega arith)) turn (λ b r l. u b r)

      pub behind_later : {p : ℕ} → at h ≤ p → UnmetBehind step at s word h p → UnmetBehind step at s word g p
      behind_later {p} l u = all_on step (λ b. p < at b → Free b) (λ k. absurd (omega (arith, forward g h turn))) turn u

      before_later : {p : ℕ} → Free g → UnmetBefore step at s word h p → UnmetBefore step at s word g p
      before_later {p} f u = all_on step (λ b. at b < p → Free b) (λ l. f) turn u

    -- before the first state
    before_here : (g : A) → UnmetBefore step at s word g (at g)
    before_here g b r l = absurd (omega (arith, reach_at r))

    -- ---- last wins

    pub won_stop : {g : A} {r : R} → step g ≡ stop r → Free g → (store : List ℕ) {x z : Span} → z ≡ x → Won step at s word g store x z
    won_stop t f store e = inl (e, unmet_stop t f)

    -- the store at the end begins with what is stored behind the turn
    module _ {g h : A} (turn : step g ≡ on h) (store part rest : List ℕ) (grown : store ≡ part ++ rest) where
      abbrev pub met_here : (z : Span) → Behind s word (gap_end s (at g)) part z → Met step at s word store g z
      met_here z b = record {
        state = g;
        reached = first;
        value = subst (λ l. Behind s word (gap_end s (at g)) l z) (sym grown) (behind_more part rest b);
      }

      pub won_on : (x y z : Span) → Gives step at s word g part x y → Won step at s word h store y z → Won step at s word g store x z
      won_on x y z gives won = ⊎_elim (λ stays. ⊎_elim (given stays) (kept stays) gives) (λ m. inr (later m)) won
        where
          given : (z ≡ y) × Unmet step at s word h → Behind s word (gap_end s (at g)) part y → Won step at s word g store x z
          given stays b = inr (met_here z (subst (Behind s word (gap_end s (at g)) part) (sym stays.0) b), behind_here turn stays.1)

          kept : (z ≡ y) × Unmet step at s word h → Free g × (y ≡ x) → Won step at s word g store x z
          kept stays not = inl (stays.0 ∙ not.1, unmet_on turn not.0 stays.1)

          later : MetLast step at s word store h z → MetLast step at s word store g z
          later m = (met_on turn m.0, behind_later turn (reach_at m.0.reached) m.1)

      -- ---- first wins

      pub first_here : (z : Span) → Behind s word (gap_end s (at g)) part z → MetFirst step at s word store g z
      first_here z b = (met_here z b, before_here g)

      pub first_on : Free g → (z : Span) → MetFirst step at s word store h z → MetFirst step at s word store g z
      first_on f z m = (met_on turn m.0, before_later turn f m.1)
