-- Request 2026-10 as a theorem: the walk that remembers draws what the plain walk draws, and no text is read twice.
-- Assumes nothing.
use Prim.Native.Nat.{ℕ, zero, suc, ◌+◌}
use mathlib.Core.Path.{◌≡◌, refl, sym, ap, subst}
use mathlib.Core.Logic.{∥∥₁_elim}
use mathlib.Core.HLevel.{⊥_prop}
use mathlib.Core.Bool.{Bool, true, false, cond}
use mathlib.Core.List.{List, [], ◌∷◌, ◌++◌, Memᴰ, Nodup, Nodup-nil}
use mathlib.Mathlib.Data.List.Nodup.{cons as Nodup-cons}
use lib.Dec.{eqb, leb}
use Rattle.text.specs.Refusal.{no_refusal}
use Rattle.graph.specs.Graph.{no_entry_text, no_included_text, too_deep, deepest, Out, built, refused, then_o, on_out}
use Rattle.graph.specs.Numbers.{Row, row, add_row, Codes, no_text, refused_scan, codes, each_o, import_code, given_code, walk_codes, walk_entry_codes, faulty}
use Rattle.graph.specs.Numbers.{EntryCode, draw_from}
use Rattle.graph.specs.Once.{Mark, unread, reading, below, Marks, nothing_read, mark, Went, walked, halted, then_rows, then_w, Below, includes_once, ended}
use Rattle.graph.specs.Once.{visit_once, met, walk_once, on_walked, draw_once, is_unread, ReadsBelow, includes_read, visit_read, walk_read, entries_read, Grows}
use Rattle.graph.specs.Once.{raised, Between, plainly, OnceDemand}
use Rattle.graph.proofs.Tests.{both_bools}
use Rattle.graph.proofs.Rowing.{OnBuilt, each_grows, given_grows}
use Rattle.graph.proofs.Remembering.{mark_here, Right, entry_right, at_first, between_through, between_grows}

-- ---- what is read

-- no text becomes unread
abbrev NoneUnread : Marks → Marks → Type 0
NoneUnread m m₁ = (u : ℕ) → is_unread (m₁ u) ≡ true → is_unread (m u) ≡ true

-- xs are read one after another, each unread when its turn comes, and m₁ is left
unfoldable InTurn : Marks → List ℕ → Marks → Type 0
InTurn m [] m₁ = NoneUnread m m₁
InTurn m (v ∷ xs) m₁ = (is_unread (m v) ≡ true) × InTurn (mark m v reading) xs m₁

-- a mark that is not "unread" was set
marked : (m : Marks) (v : ℕ) (x : Mark) → is_unread x ≡ false → NoneUnread m (mark m v x)
marked m v x q u = go (eqb u v)
  where
    go : (b : Bool) → is_unread (cond b x (m u)) ≡ true → is_unread (m u) ≡ true
    go true e = both_bools e q
    go false e = e

both_marked : (m m₁ : Marks) (v : ℕ) → NoneUnread m m₁ → NoneUnread (mark m v reading) (mark m₁ v reading)
both_marked m m₁ v k u = go (eqb u v)
  where
    go : (b : Bool) → is_unread (cond b reading (m₁ u)) ≡ true → is_unread (cond b reading (m u)) ≡ true
    go true e = e
    go false e = k u e

turns_before : (m m₁ : Marks) (xs : List ℕ) (m₂ : Marks) → NoneUnread m m₁ → InTurn m₁ xs m₂ → InTurn m xs m₂
unfolding InTurn
turns_before m m₁ [] m₂ k t = λ u e. k u (t u e)
turns_before m m₁ (v ∷ xs) m₂ k t = (k v t.0, turns_before (mark m v reading) (mark m₁ v reading) xs m₂ (both_marked m m₁ v k) t.1)

turns_after : (m : Marks) (xs : List ℕ) (m₁ m₂ : Marks) → InTurn m xs m₁ → NoneUnread m₁ m₂ → InTurn m xs m₂
unfolding InTurn
turns_after m [] m₁ m₂ t k = λ u e. t u (k u e)
turns_after m (v ∷ xs) m₁ m₂ t k = (t.0, turns_after (mark m v reading) xs m₁ m₂ t.1 k)

turns_append : (m : Marks) (xs : List ℕ) (m₁ : Marks) (ys : List ℕ) (m₂ : Marks) → InTurn m xs m₁ → InTurn m₁ ys m₂ → InTurn m (xs ++ ys) m₂
unfolding InTurn
turns_append m [] m₁ ys m₂ t s = turns_before m m₁ ys m₂ t s
turns_append m (v ∷ xs) m₁ ys m₂ t s = (t.0, turns_append (mark m v reading) xs m₁ ys m₂ t.1 s)

was_unread : (m : Marks) (xs : List ℕ) (m₁ : Marks) → InTurn m xs m₁ → {u : ℕ} → Memᴰ u xs → is_unread (m u) ≡ true
unfolding InTurn
was_unread m [] m₁ t {u = u} x'' = elim x'' [ ]
was_unread m (v ∷ xs) m₁ t (Memᴰ.head e) = rw e t.0
was_unread m (v ∷ xs) m₁ t {u} (Memᴰ.tail n) = marked m v reading refl u (was_unread (mark m v reading) xs m₁ t.1 n)

turns_differ : (m : Marks) (xs : List ℕ) (m₁ : Marks) → InTurn m xs m₁ → Nodup xs
unfolding InTurn
turns_differ m [] m₁ t = Nodup-nil
turns_differ m (v ∷ xs) m₁ t =
    Nodup-cons
    (λ o. ∥∥₁_elim o ⊥_prop (λ n. both_bools (was_unread (mark m v reading) xs m₁ t.1 n) (ap is_unread (mark_here m v reading))))
    (turns_differ (mark m v reading) xs m₁ t.1)

-- ---- a walk reads so; where it is refused, some marks are left

abbrev ReadBy : Marks → List ℕ → Went → Type 0
ReadBy m xs (walked rs m₁ h) = InTurn m xs m₁
ReadBy m xs (halted n a) = (m₁ : Marks) × InTurn m xs m₁

nothing : (m : Marks) → InTurn m [] m
unfolding InTurn
nothing m u e = e

then_read : (m : Marks) (xs : List ℕ) (m₁ : Marks) (ys : List ℕ) → InTurn m xs m₁ → (w : Went) → ReadBy m₁ ys w → ReadBy m (xs ++ ys) w
then_read m xs m₁ ys t (walked rs m₂ h) s = turns_append m xs m₁ ys m₂ t s
then_read m xs m₁ ys t (halted n a) s = (s.0, turns_append m xs m₁ ys s.0 t s.1)

module _ (limit : ℕ) (f : Below) (t : ReadsBelow) (right : (u : ℕ) (rs : List Row) (m : Marks) → ReadBy m (t u rs m) (f u rs m)) (v : ℕ) where
  includes_read_lem : (cs : List ℕ) (rs : List Row) (m : Marks) (h : ℕ) → ReadBy m (includes_read limit f t v cs rs m) (includes_once limit f v cs rs m h)
  unfolding includes_read includes_once
  includes_read_lem [] rs m h = nothing m
  includes_read_lem (zero ∷ cs) rs m h = (m, nothing m)
  includes_read_lem (suc zero ∷ cs) rs m h = (m, nothing m)
  includes_read_lem (suc (suc u) ∷ cs) rs m h = go (add_row limit rs (row u v)) (includes_read_lem cs)
    where
      Rest : Type 0
      Rest = (rs₂ : List Row) (m₂ : Marks) (k : ℕ) → ReadBy m₂ (includes_read limit f t v cs rs₂ m₂) (includes_once limit f v cs rs₂ m₂ k)

      on : (xs : List ℕ) (w : Went) → ReadBy m xs w → Rest
          → ReadBy m (xs ++ on_walked w (λ rs₂ m₂. includes_read limit f t v cs rs₂ m₂) (λ n a. []))
          (then_w w (λ rs₂ m₂ k. includes_once limit f v cs rs₂ m₂ (raised h k)))
      on xs (walked rs₂ m₂ k) r ih =
          then_read m xs m₂ (includes_read limit f t v cs rs₂ m₂) r (includes_once limit f v cs rs₂ m₂ (raised h k)) (ih rs₂ m₂ (raised h k))
      on xs (halted n a) r ih = (r.0, turns_append m xs r.0 [] r.0 r.1 (nothing r.0))

      go : (o : Out Row) → Rest
          → ReadBy m (on_out o (λ rs₁. t u rs₁ m ++ on_walked (f u rs₁ m) (λ rs₂ m₂. includes_read limit f t v cs rs₂ m₂) (λ n a. [])) (λ n a. []))
          (then_w (then_rows o (λ rs₁. f u rs₁ m)) (λ rs₂ m₂ k. includes_once limit f v cs rs₂ m₂ (raised h k)))
      go (built rs₁) ih = on (t u rs₁ m) (f u rs₁ m) (right u rs₁ m) ih
      go (refused n a) ih = (m, nothing m)

  visit_read_lem : (absent : ℕ) (c : Codes) (rs : List Row) (m : Marks) → is_unread (m v) ≡ true
      → ReadBy m (visit_read limit f t v c rs m) (visit_once limit f absent v c rs m)
  unfolding InTurn
  visit_read_lem absent no_text rs m q = (m, nothing m)
  visit_read_lem absent (refused_scan a) rs m q = (mark m v reading, (q, nothing (mark m v reading)))
  visit_read_lem absent (codes imports includes) rs m q = go (each_o (import_code limit v) imports rs)
    where
      on : (xs : List ℕ) (w : Went) → ReadBy (mark m v reading) xs w → ReadBy m (v ∷ xs) (then_w w (ended v))
      on xs (walked rs₁ m₁ h) r = (q, turns_after (mark m v reading) xs m₁ (mark m₁ v (below h)) r (marked m₁ v (below h) refl))
      on xs (halted n a) r = (r.0, (q, r.1))

      go : (o : Out Row)
          → ReadBy m (v ∷ on_out o (λ rs₁. includes_read limit f t v includes rs₁ (mark m v reading)) (λ n a. []))
          (then_rows o (λ rs₁. then_w (includes_once limit f v includes rs₁ (mark m v reading) 0) (ended v)))
      go (built rs₁) =
          on (includes_read limit f t v includes rs₁ (mark m v reading)) (includes_once limit f v includes rs₁ (mark m v reading) 0)
          (includes_read_lem includes rs₁ (mark m v reading) 0)
      go (refused n a) = (mark m v reading, (q, nothing (mark m v reading)))

met_read : (left v : ℕ) (rs : List Row) (m : Marks) (xs : List ℕ) (w : Went) → (is_unread (m v) ≡ true → ReadBy m xs w)
    → ReadBy m (cond (is_unread (m v)) xs []) (met (m v) left rs m w)
met_read left v rs m xs w r = go (m v) refl
  where
    known : (h : ℕ) (b : Bool) → ReadBy m [] (cond b (walked rs m h) (halted too_deep no_refusal))
    known h true = nothing m
    known h false = (m, nothing m)

    go : (x : Mark) → m v ≡ x → ReadBy m (cond (is_unread x) xs []) (met x left rs m w)
    go unread e = r (ap is_unread e)
    go reading e = (m, nothing m)
    go (below h) e = known h (leb h left)

module _ (at : ℕ → Codes) (limit : ℕ) where
  walk_read_lem : (left absent v : ℕ) (rs : List Row) (m : Marks) → ReadBy m (walk_read at limit left v rs m) (walk_once at limit left absent v rs m)
  unfolding walk_read walk_once
  walk_read_lem zero absent v rs m =
      met_read zero v rs m _ _
      (visit_read_lem limit (λ u rs₁ m₁. halted too_deep no_refusal) (λ u rs₁ m₁. []) (λ u rs₁ m₁. (m₁, nothing m₁)) v absent (at v) rs m)
  walk_read_lem (suc left) absent v rs m =
      met_read (suc left) v rs m _ _
      (visit_read_lem limit (walk_once at limit left no_included_text) (walk_read at limit left) (walk_read_lem left no_included_text) v absent (at v) rs m)

  entries_read_lem : (es : List EntryCode) (rs : List Row) (m : Marks) → (m₁ : Marks) × InTurn m (entries_read at limit rs m es) m₁
  unfolding entries_read
  entries_read_lem [] rs m = (m, nothing m)
  entries_read_lem (e ∷ es) rs m =
      go (walk_read at limit deepest e.number rs m) (walk_once at limit deepest no_entry_text e.number rs m)
      (walk_read_lem deepest no_entry_text e.number rs m) (entries_read_lem es)
    where
      Rest : Type 0
      Rest = (rs₂ : List Row) (m₁ : Marks) → (m₂ : Marks) × InTurn m₁ (entries_read at limit rs₂ m₁ es) m₂

      listed : (xs : List ℕ) (m₁ : Marks) → InTurn m xs m₁ → Rest → (o : Out Row)
          → (m₂ : Marks) × InTurn m (xs ++ on_out o (λ rs₂. entries_read at limit rs₂ m₁ es) (λ n a. [])) m₂
      listed xs m₁ r ih (built rs₂) = let i = ih rs₂ m₁ in (i.0, turns_append m xs m₁ (entries_read at limit rs₂ m₁ es) i.0 r i.1)
      listed xs m₁ r ih (refused n a) = (m₁, turns_append m xs m₁ [] m₁ r (nothing m₁))

      go : (xs : List ℕ) (w : Went) → ReadBy m xs w → Rest
          → (m₂ : Marks) × InTurn m (xs ++ on_walked w
          (λ rs₁ m₁. on_out (each_o (given_code limit e.number) e.lists rs₁) (λ rs₂. entries_read at limit rs₂ m₁ es) (λ n a. []))
          (λ n a. [])) m₂
      go xs (walked rs₁ m₁ h) r ih = listed xs m₁ r ih (each_o (given_code limit e.number) e.lists rs₁)
      go xs (halted n a) r ih = (r.0, turns_append m xs r.0 [] r.0 r.1 (nothing r.0))

  -- ---- what is drawn

  draw_same : (es : List EntryCode) (k : ℕ) (rs : List Row) (m : Marks) → Between at limit m rs → draw_once at limit k rs m es ≡ draw_from at limit k rs es
  unfolding draw_once draw_from walk_entry_codes
  draw_same [] k rs m b = refl
  draw_same (e ∷ es) k rs m b =
      go (walk_once at limit deepest no_entry_text e.number rs m) (walk_codes at limit deepest no_entry_text e.number rs)
      (entry_right at limit no_entry_text e.number rs m b deepest)
      (draw_same es (k + 1))
    where
      Rest : Type 0
      Rest = (rs₂ : List Row) (m₁ : Marks) → Between at limit m₁ rs₂ → draw_once at limit (k + 1) rs₂ m₁ es ≡ draw_from at limit (k + 1) rs₂ es

      listed : (rs₁ : List Row) (m₁ : Marks) → Between at limit m₁ rs₁ → Rest → (o : Out Row) → OnBuilt o (Grows rs₁)
          → on_out o (λ rs₂. draw_once at limit (k + 1) rs₂ m₁ es) (λ n a. faulty n k a)
          ≡ on_out o (λ rs₂. draw_from at limit (k + 1) rs₂ es) (λ n a. faulty n k a)
      listed rs₁ m₁ c ih (built rs₂) g = ih rs₂ m₁ (between_grows at limit m₁ rs₁ rs₂ g c)
      listed rs₁ m₁ c ih (refused n a) g = refl

      go : (w : Went) (p : Out Row) → Right at limit m rs e.number w p → Rest
          → on_walked w
          (λ rs₁ m₁. on_out (each_o (given_code limit e.number) e.lists rs₁) (λ rs₂. draw_once at limit (k + 1) rs₂ m₁ es) (λ n a. faulty n k a))
          (λ n a. faulty n k a)
          ≡ on_out (then_o p (each_o (given_code limit e.number) e.lists)) (λ rs₂. draw_from at limit (k + 1) rs₂ es) (λ n a. faulty n k a)
      go (walked rs₁ m₁ h) p t ih =
          rw t.same (listed rs₁ m₁ (between_through at limit b t) ih (each_o (given_code limit e.number) e.lists rs₁)
          (each_grows (given_code limit e.number) (given_grows limit e.number) e.lists rs₁))
      go (halted n a) p t ih = rw t refl

-- ---- the request

module _ (at : ℕ → Codes) (limit left absent v : ℕ) (rs : List Row) (m : Marks) (b : Between at limit m rs) where
  -- an entry's walk beside the plain one
  abbrev RightHere : Went → Type 0
  RightHere w = Right at limit m rs v w (walk_codes at limit left absent v rs)

  walk_plain : (w : Went) → RightHere w → plainly w ≡ walk_codes at limit left absent v rs
  walk_plain (walked rs₁ m₁ h) r = sym r.same
  walk_plain (halted n a) r = sym r

  walk_next : (rs₁ : List Row) (m₁ : Marks) (h : ℕ) → walk_once at limit left absent v rs m ≡ walked rs₁ m₁ h → Between at limit m₁ rs₁
  walk_next rs₁ m₁ h e = between_through at limit b (subst RightHere e (entry_right at limit absent v rs m b left))

pub once_demand : (at : ℕ → Codes) (limit : ℕ) (es : List EntryCode) → OnceDemand at limit es
once_demand at limit es =
    let r = entries_read_lem at limit es [] nothing_read in
    record {
      walk = λ left absent v rs m b.
          walk_plain at limit left absent v rs m b (walk_once at limit left absent v rs m) (entry_right at limit absent v rs m b left);
      next = walk_next at limit;
      same = draw_same at limit es 1 [] nothing_read (at_first at limit);
      once = turns_differ nothing_read (entries_read at limit [] nothing_read es) r.0 r.1;
    }
