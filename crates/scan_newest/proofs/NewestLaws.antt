-- The newest of all that were read is one of them, none is greater, and all before it are less. One that comes later takes its place only
-- if it is greater, and less passes on.
-- Assumes nothing.
use mathlib.Core.Path.{◌≡◌, refl, sym, ap, ◌∙◌}
use mathlib.Core.Logic.{◌⊎◌, inl, inr, ⊎_elim}
use mathlib.Core.Bool.{true, false, not, ◌&&◌}
use mathlib.Core.List.{List, [], ◌∷◌, ◌++◌}
use Prim.Native.Nat.{ℕ}
use native.Mathlib.Omega.{arith}
use Rattle.text.proofs.Here.{by_test}
use Rattle.scan_rows.specs.Rows.{Each}
use Rattle.scan_rows.specs.Span.{value_in, Within}
use Rattle.scan_newest.specs.Newest.{less, Revision, no_revision, Read, newer, newest_from, newest, First}
use Rattle.scan_newest.proofs.LessLaws.{less_irrefl, less_trans, less_asym, less_above, least_trans}

-- ---- one more

from_snoc : (n : Revision) (rs : List Revision) (r : Revision) → newest_from n (rs ++ r ∷ []) ≡ newer (newest_from n rs) r
unfolding newest_from
from_snoc n [] r = refl
from_snoc n (q ∷ rs) r = from_snoc (newer n q) rs r

pub newest_snoc : (rs : List Revision) (r : Revision) → newest (rs ++ r ∷ []) ≡ newer (newest rs) r
unfolding newest
newest_snoc rs r = from_snoc no_revision rs r

-- the first read is the newest at once
pub newest_cons : (r : Revision) (rs : List Revision) → newest (r ∷ rs) ≡ newest_from r rs
unfolding newest newest_from newer
newest_cons r rs = refl

-- ---- the newer of two

module _ (n r : Revision) where
  -- what holds of both holds of it
  newer_keeps : (P : Revision → Type 0) → P n → P r → P (newer n r)
  unfolding newer
  newer_keeps P p q = by_test (n.span.present && not (less n.value r.value)) (λ t. rw t p) (λ f. rw f q)

  module _ (h : Read n) where
    pub newer_old : less n.value r.value ≡ false → newer n r ≡ n
    unfolding newer
    newer_old l = rw (h, l) refl

    pub newer_new : less n.value r.value ≡ true → newer n r ≡ r
    unfolding newer
    newer_new l = rw (h, l) refl

    -- it is less than neither
    newer_least : (less (newer n r).value n.value ≡ false) × (less (newer n r).value r.value ≡ false)
    newer_least =
        by_test (less n.value r.value)
        (λ t. rw (newer_new t) (less_asym n.value r.value t, less_irrefl r.value))
        (λ f. rw (newer_old f) (less_irrefl n.value, f))

-- ---- what holds of all

module _ (P : Revision → Type 0) where
  from_keeps : (n : Revision) (rs : List Revision) → P n → Each P rs → P (newest_from n rs)
  unfolding newest_from Each
  from_keeps n [] p h = p
  from_keeps n (r ∷ rs) p h = from_keeps (newer n r) rs (newer_keeps n r P p h.0) h.1

  -- what holds of none and of all that were read holds of the newest
  pub newest_keeps : (rs : List Revision) → P no_revision → Each P rs → P (newest rs)
  unfolding newest
  newest_keeps rs p h = from_keeps no_revision rs p h

pub newest_within : (n : ℕ) (rs : List Revision) → Each (λ r. Within n r.span) rs → Within n (newest rs).span
newest_within n rs h = newest_keeps (λ r. Within n r.span) rs (omega arith) h

-- its value lies in the store where its span says
pub newest_valued : (store : List ℕ) (rs : List Revision) → Each (λ r. value_in store r.span ≡ r.value) rs
    → value_in store (newest rs).span ≡ (newest rs).value
unfolding value_in
newest_valued store rs h = newest_keeps (λ r. value_in store r.span ≡ r.value) rs refl h

-- ---- present exactly if one was read

pub newest_none : newest [] ≡ no_revision
unfolding newest newest_from
newest_none = refl

pub newest_present : (r : Revision) (rs : List Revision) → Each Read (r ∷ rs) → Read (newest (r ∷ rs))
unfolding Each
newest_present r rs h = rw (newest_cons r rs) (from_keeps Read r rs h.0 h.1)

-- ---- none is greater

from_greatest : (n : Revision) (rs : List Revision) → Read n → Each Read rs
    → (less (newest_from n rs).value n.value ≡ false) × Each (λ r. less (newest_from n rs).value r.value ≡ false) rs
unfolding newest_from Each
from_greatest n [] p h = (less_irrefl n.value, tt)
from_greatest n (r ∷ rs) p h =
    let m = newer n r in
    let top = (newest_from m rs).value in
    let on = from_greatest m rs (newer_keeps n r Read p h.0) h.1 in
    let least = newer_least n r p in
    (least_trans top m.value n.value on.0 least.0, (least_trans top m.value r.value on.0 least.1, on.1))

pub newest_greatest : (rs : List Revision) → Each Read rs → Each (λ r. less (newest rs).value r.value ≡ false) rs
unfolding Each newest newest_from newer
newest_greatest [] h = tt
newest_greatest (r ∷ rs) h = rw (newest_cons r rs) (from_greatest r rs h.0 h.1)

-- ---- of equals the first

module _ (r : Revision) (rs : List Revision) {m : Revision} where
  first_here : m ≡ r → First (r ∷ rs) m
  unfolding Each
  first_here e = record { before = []; behind = rs; parts = ap (λ q. q ∷ rs) (sym e); lesser = tt }

  first_behind : First rs m → less r.value m.value ≡ true → First (r ∷ rs) m
  unfolding Each
  first_behind f l = record { before = r ∷ f.before; behind = f.behind; parts = ap (λ l. r ∷ l) f.parts; lesser = (l, f.lesser) }

-- m is n itself, or it is the first of the greatest behind n, and n is less
unfoldable Follows : Revision → List Revision → Revision → Type 0
Follows n rs m = (m ≡ n) ⊎ (First rs m × (less n.value m.value ≡ true))

follows_none : (n : Revision) → Follows n [] n
unfolding Follows
follows_none n = inl refl

module _ (n r : Revision) (rs : List Revision) (m : Revision) where
  follows_new : less n.value r.value ≡ true → Follows r rs m → Follows n (r ∷ rs) m
  unfolding Follows
  follows_new t h =
      ⊎_elim
      (λ e. inr (first_here r rs e, ap (λ q. less n.value q.value) e ∙ t))
      (λ f. inr (first_behind r rs f.0 f.1, less_trans n.value r.value m.value t f.1))
      h

  follows_old : less n.value r.value ≡ false → Follows n rs m → Follows n (r ∷ rs) m
  unfolding Follows
  follows_old u h =
      ⊎_elim
      (λ e. inl e)
      (λ f. inr (first_behind r rs f.0 (less_above n.value r.value m.value u f.1), f.1))
      h

follows_first : (r : Revision) (rs : List Revision) (m : Revision) → Follows r rs m → First (r ∷ rs) m
unfolding Follows
follows_first r rs m h = ⊎_elim (λ e. first_here r rs e) (λ f. first_behind r rs f.0 f.1) h

from_first : (n : Revision) (rs : List Revision) → Read n → Each Read rs → Follows n rs (newest_from n rs)
unfolding newest_from Each
from_first n [] p h = follows_none n
from_first n (r ∷ rs) p h =
    by_test (less n.value r.value)
    (λ t. rw (newer_new n r p t) (follows_new n r rs (newest_from r rs) t (from_first r rs h.0 h.1)))
    (λ u. rw (newer_old n r p u) (follows_old n r rs (newest_from n rs) u (from_first n rs p h.1)))

pub newest_first : (r : Revision) (rs : List Revision) → Each Read (r ∷ rs) → First (r ∷ rs) (newest (r ∷ rs))
unfolding Each
newest_first r rs h = rw (newest_cons r rs) (follows_first r rs (newest_from r rs) (from_first r rs h.0 h.1))
