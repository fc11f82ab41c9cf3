-- The lowest zero, group by group: below a group's bound no zero of it stands, so that the look through it can begin there, and where the look ends is
-- a bound again.
-- Assumes nothing.
use mathlib.Core.Path.{◌≡◌, sym, ap, ◌∙◌}
use mathlib.Core.Logic.{⊎_elim}
use mathlib.Core.List.{List}
use Prim.Native.Nat.{ℕ, ◌+◌, ◌-◌, ◌*◌, ◌/◌, ◌≤◌, ◌<◌, max, min}
use native.Mathlib.Nat.{div-add-mod', mod-lt}
use native.Mathlib.Omega.{arith}
use Rattle.std.specs.Int.{div_ceil}
use lib.Arith.{digits_div}
use lib.ListN.{length, get_or, set, length-set}
use lib.Seq.{get_or-set_same, get_or-set_other}
use lib.Dec.{ltb}
use borrow.Author.Tests.{eq-eqb, ne_eqb, ltb-true, ltb-false}
use Rattle.text.proofs.Here.{by_test}
use Rattle.text_lent.proofs.Numbers.{decide}
use Rattle.order_tables.specs.Free.{lowest_from, zero_at}
use Rattle.order_tables.proofs.Lowest.{lowest_is, lowest_not, none_before, zero_there}
use Rattle.order_take.specs.Chains.{Lows, GroupEnd, LooksIn, LookedIn, Looks, Looked, Lowered}

-- ---- a group

in_group : (w g : ℕ) → g * 32 ≤ w → w < g * 32 + 32 → w / 32 ≡ g
in_group w g a b = let e : w ≡ g * 32 + (w - g * 32) = omega arith in ap (λ (k : ℕ). k / 32) e ∙ digits_div g {m = 32} {r = w - g * 32} (omega arith)

group_low : (w : ℕ) → w / 32 * 32 ≤ w
group_low w = omega (arith, div-add-mod' w 32)

group_high : (w : ℕ) → w < w / 32 * 32 + 32
group_high w = omega (arith, div-add-mod' w 32, mod-lt w {m = 32} (omega arith))

module _ (waits lows : List ℕ) (g n : ℕ) (p : LooksIn waits lows g n) where
  low_in : g < length lows
  low_in = omega (arith, p.here, p.looks.few, p.looks.kept.room)

  -- no zero of the group stands below x, which so can be its bound
  module _ {x : ℕ} (none : (w : ℕ) → g * 32 ≤ w → w < g * 32 + 32 → w < n → w < x → get_or waits w 0 ≡ 0 → ⊥) where
    not_start : 32 ≡ g → ⊥
    not_start q = omega (arith, p.here, p.looks.few)

    raised : Lows n waits (set lows g x)
    raised = record {
      room = length-set lows g x ∙ p.looks.kept.room;
      near = rw (get_or-set_other lows g 32 x 0 not_start) p.looks.kept.near;
      low = λ w a z. ⊎_elim
          (λ q. let y : get_or (set lows g x) (w / 32) 0 ≡ x = ap (λ (k : ℕ). get_or (set lows g x) k 0) q ∙ get_or-set_same lows g x 0 low_in in
          by_test (ltb w x)
          (λ t. absurd (none w (omega (arith, group_low w)) (omega (arith, group_high w)) a (ltb-true w x t) z))
          (λ t. omega (arith, ltb-false w x t)))
          (λ d. rw (get_or-set_other lows g (w / 32) x 0 d) (p.looks.kept.low w a z))
          (decide (w / 32) g);
      start = λ w a z. rw (get_or-set_other lows g 32 x 0 not_start) (p.looks.kept.start w a z);
    }

  module _ {last : ℕ} (e : GroupEnd (g * 32) n last) {first : ℕ} (m : first ≡ max (g * 32) (get_or lows g 0))
      {v : ℕ} (f : v ≡ lowest_from (zero_at waits) first (last - first)) where
    above : (w : ℕ) → g * 32 ≤ w → w < g * 32 + 32 → w < n → get_or waits w 0 ≡ 0 → first ≤ w
    above w a b c z =
        let low : get_or lows g 0 ≤ w = rw (← in_group w g a b) (p.looks.kept.low w c z) in
        omega arith

    none_below : (w : ℕ) → g * 32 ≤ w → w < g * 32 + 32 → w < n → w < v → get_or waits w 0 ≡ 0 → ⊥
    none_below w a b c d z = none_before waits first last f w (above w a b c z) d z

    pub group_hit : v < last → LookedIn waits lows g n v (set lows g v)
    group_hit l = record {
      room = length-set lows g v;
      near = λ k. omega (arith, e.near);
      none = none_below;
      zero_at_lem = λ k. zero_there waits first last f l;
      kept = raised none_below;
    }

    pub group_vain : last ≤ v → LookedIn waits lows g n n (set lows g last)
    group_vain l = record {
      room = length-set lows g last;
      near = λ k. absurd (omega arith);
      none = λ w a b c d z. none_below w a b c (omega (arith, e.all w c b)) z;
      zero_at_lem = λ k. absurd (omega arith);
      kept = raised (λ w a b c d z. none_below w a b c (omega (arith, d)) z);
    }

-- ---- group after group

-- as many groups begin below n
group_begins : (n g : ℕ) {e : ℕ} → e ≡ div_ceil n 32 → g < e → g * 32 < n
group_begins n g q l = omega (arith, q)

no_group : (n g : ℕ) {e : ℕ} → e ≡ div_ceil n 32 → e ≤ g → n ≤ g * 32
no_group n g q l = omega (arith, q)

pub record Searching (waits : List ℕ) (n g : ℕ) (lows : List ℕ) : Type 0 where
  pub most : g ≤ 32
  pub none : (w : ℕ) → w < g * 32 → w < n → get_or waits w 0 ≡ 0 → ⊥
  pub kept : Lows n waits lows

pub search_begun : (waits lows : List ℕ) (n : ℕ) → Looks waits lows n → {g : ℕ} → g ≡ get_or lows 32 0 → Searching waits n g lows
search_begun waits lows n p {g} q = record {
  most = omega (arith, p.kept.near);
  none = λ w a b z. omega (arith, p.kept.start w b z, group_low w);
  kept = p.kept;
}

module _ (waits lows₀ : List ℕ) (n : ℕ) (p : Looks waits lows₀ n) (g : ℕ) (lows : List ℕ) (s : Searching waits n g lows) where
  pub search_done : {e : ℕ} → e ≡ div_ceil n 32 → e ≤ g → Looked waits n n lows
  search_done q l = record {
    answer = sym (lowest_not (zero_at waits) n (λ j k. ne_eqb _ _ (s.none j (omega (arith, no_group n g q l)) k)));
    kept = s.kept;
  }

  module _ {e : ℕ} (q : e ≡ div_ceil n 32) (m : g < e) where
    l : g * 32 < n
    l = group_begins n g q m

    pub may_look : LooksIn waits lows g n
    may_look = record { looks = record { few = p.few; room = p.room; kept = s.kept }; here = l }

    module _ {v : ℕ} {lows₁ : List ℕ} (r : LookedIn waits lows g n v lows₁) where
      below : (w : ℕ) → w < g * 32 + 32 → w < n → w < v → get_or waits w 0 ≡ 0 → ⊥
      below w a b c z = by_test (ltb w (g * 32)) (λ t. s.none w (ltb-true w (g * 32) t) b z) (λ t. r.none w (ltb-false w (g * 32) t) a b c z)

      started : Lows n waits (set lows₁ 32 g)
      started = record {
        room = length-set lows₁ 32 g ∙ r.kept.room;
        near = rw start_is s.most;
        low = λ w a z. rw (get_or-set_other lows₁ 32 (w / 32) g 0 (λ q. omega (arith, group_low w, p.few))) (r.kept.low w a z);
        start = λ w a z. rw start_is (by_test (ltb (w / 32) g)
            (λ t. absurd (s.none w (omega (arith, ltb-true (w / 32) g t, group_high w)) a z))
            (λ t. ltb-false (w / 32) g t));
      }
        where
          start_is : get_or (set lows₁ 32 g) 32 0 ≡ g
          start_is = get_or-set_same lows₁ 32 g 0 (omega (arith, r.kept.room))

      pub same_size : length (set lows₁ 32 g) ≡ length lows₀
      same_size = length-set lows₁ 32 g ∙ r.kept.room ∙ sym p.kept.room

      pub search_hit : v < n → Looked waits n v (set lows₁ 32 g)
      search_hit k = record {
        answer = sym (lowest_is (zero_at waits) n v k (eq-eqb _ _ (r.zero_at_lem k))
            (λ j m. ne_eqb _ _ (below j (omega (arith, r.near k)) (omega arith) m)));
        kept = started;
      }

      pub search_on : n ≤ v → Searching waits n (g + 1) lows₁
      search_on k = record {
        most = omega (arith, p.few, l);
        none = λ w a b z. below w (omega arith) b (omega arith) z;
        kept = r.kept;
      }

-- ---- a bound made less

module _ (lows : List ℕ) (i most : ℕ) (l : i < length lows) where
  pub lowered : {r : ℕ} → r ≡ min (get_or lows i 0) most → Lowered lows i most (set lows i r)
  lowered {r} k = record {
    room = length-set lows i r;
    here = omega (arith, get_or-set_same lows i r 0 l);
    less = λ j. ⊎_elim
        (λ q. rw q (omega (arith, get_or-set_same lows i r 0 l)))
        (λ d. omega (arith, get_or-set_other lows i j r 0 d))
        (decide j i);
  }
