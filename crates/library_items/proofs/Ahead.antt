-- Parts read one behind another: what is still to come behind the items that are laid is what is missing of the whole. One theory for all loops.
-- Assumes nothing.
use mathlib.Core.Path.{◌≡◌, refl, sym, ap, ap₂, ◌∙◌}
use mathlib.Core.List.{List, [], ◌++◌, append-nil, append_assoc}
use Prim.Native.Nat.{ℕ, suc, ◌+◌, ◌-◌, ◌≤◌, ◌<◌}
use native.Mathlib.Omega.{arith}
use lib.ListN.{length}
use Rattle.library_form.specs.Form.{Ans, good, bad, bind}
use Rattle.library_form.proofs.Bounds.{number_end}
use Rattle.library_image.specs.Image.{count_at}
use Rattle.library_image.proofs.Steps.{on_good, bind_good, carry, count_good}
use Rattle.library_items.specs.Table.{items_in, Items, and_then, each, each_counted, value_or, end_of, Reads, Room, Gained}
use Rattle.library_items.specs.declared.Reach.{Reach}

-- ---- one part behind another

record Both (x : Ans Items) (f : ℕ → Ans Items) (v : Items) (e : ℕ) : Type 0 where
  xs : Items
  n : ℕ
  ys : Items
  first : x ≡ good xs n
  second : f n ≡ good ys e
  joined : v ≡ xs ++ ys

module _ (x : Ans Items) (f : ℕ → Ans Items) where
  both : {v : Items} {e : ℕ} → and_then x f ≡ good v e → Both x f v e
  both h =
      on_good x _ h (λ xs n e₁ f₁.
      on_good (f n) _ f₁ (λ ys m e₂ f₂.
      carry (λ v e. Both x f v e) f₂ (record { xs = xs; n = n; ys = ys; first = e₁; second = e₂; joined = refl })))

  pub first_reads : Reads (and_then x f) → Reads x
  first_reads r = let b = both r.read in record { value = b.xs; end = b.n; read = b.first }

  module _ {s tab after : List ℕ} {n : ℕ} {r : Reach} (g : Gained s tab n x r after) where
    -- the place behind the first, and its items
    behind : {v : Items} {e : ℕ} (b : Both x f v e) → f r.at ≡ good b.ys e
    behind b = ap f (g.at ∙ ap end_of b.first) ∙ b.second

    gains : {v : Items} {e : ℕ} (b : Both x f v e) → items_in s after r.items ≡ items_in s tab n ++ b.xs
    gains b = g.items ∙ ap (λ a. items_in s tab n ++ value_or [] a) b.first

    pub second_reads : Reads (and_then x f) → Reads (f r.at)
    second_reads h = let b = both h.read in record { value = b.ys; end = h.end; read = behind b }

    pub gained_both : {r₂ : Reach} {last : List ℕ} → Gained s after r.items (f r.at) r₂ last → Reads (and_then x f) → Gained s tab n (and_then x f) r₂ last
    gained_both {r₂} {last} k h =
        let b = both h.read in
        let w : and_then x f ≡ good (b.xs ++ b.ys) h.end = h.read ∙ ap (λ v. good v h.end) b.joined in
        record {
          items = k.items ∙ ap₂ (λ xs a. xs ++ value_or [] a) (gains b) (behind b)
              ∙ append_assoc (items_in s tab n) b.xs b.ys ∙ ap (λ a. items_in s tab n ++ value_or [] a) (sym w);
          at = k.at ∙ ap end_of (behind b) ∙ ap end_of (sym w);
          kept = k.kept ∙ g.kept;
          room = k.room;
        }

-- ---- the loop

-- the parts from the i-th of `count` on are still to come
pub record Ahead (q : ℕ → Ans Items) (s before : List ℕ) (n : ℕ) (whole : Ans Items) (tab : List ℕ) (r : Reach) (count i : ℕ) : Type 0 where
  pub more : Items
  pub end : ℕ
  pub coming : each q (count - i) r.at ≡ good more end
  pub all : items_in s tab r.items ++ more ≡ items_in s before n ++ value_or [] whole
  pub last : end_of whole ≡ end
  pub kept : length tab ≡ length before
  pub room : Room s tab r.items r.at

module _ {q : ℕ → Ans Items} {s before : List ℕ} {n : ℕ} {whole : Ans Items} {tab : List ℕ} {r : Reach} {count i : ℕ}
    (a : Ahead q s before n whole tab r count i) where
  next : i < count → and_then (q r.at) (λ m. each q (count - (i + 1)) m) ≡ good a.more a.end
  unfolding each
  next h = let e : count - i ≡ suc (count - (i + 1)) = omega arith in sym (ap (λ k. each q k r.at) e) ∙ a.coming

  pub ahead_reads : i < count → Reads (q r.at)
  ahead_reads h = first_reads _ (λ m. each q (count - (i + 1)) m) (record { value = a.more; end = a.end; read = next h })

  pub ahead_on : {t : Reach} {after : List ℕ} → Gained s tab r.items (q r.at) t after → i < count → Ahead q s before n whole after t count (i + 1)
  ahead_on {t} {after} g h =
      let f : ℕ → Ans Items = λ m. each q (count - (i + 1)) m in
      let b = both (q r.at) f (next h) in
      record {
        more = b.ys;
        end = a.end;
        coming = behind (q r.at) f g b;
        all = ap (λ xs. xs ++ b.ys) (gains (q r.at) f g b) ∙ append_assoc (items_in s tab r.items) b.xs b.ys
            ∙ ap (λ v. items_in s tab r.items ++ v) (sym b.joined) ∙ a.all;
        last = a.last;
        kept = g.kept ∙ a.kept;
        room = g.room;
      }

  pub ahead_done : count ≤ i → Gained s before n whole r tab
  unfolding each
  ahead_done h =
      let e : count - i ≡ 0 = omega arith in
      let d : good [] r.at ≡ good a.more a.end = sym (ap (λ k. each q k r.at) e) ∙ a.coming in
      let x : [] ≡ a.more = cc in
      let y : r.at ≡ a.end = cc in
      record {
        items = sym (append-nil (items_in s tab r.items)) ∙ ap (λ v. items_in s tab r.items ++ v) x ∙ a.all;
        at = y ∙ sym a.last;
        kept = a.kept;
        room = a.room;
      }

pub each_begun : (q : ℕ → Ans Items) (count i : ℕ) {s tab : List ℕ} {r : Reach} → Room s tab r.items r.at → Reads (each q (count - i) r.at)
    → Ahead q s tab r.items (each q (count - i) r.at) tab r count i
each_begun q count i {s} {tab} {r} m h =
    record {
      more = h.value;
      end = h.end;
      coming = h.read;
      all = ap (λ a. items_in s tab r.items ++ value_or [] a) (sym h.read);
      last = ap end_of h.read;
      kept = refl;
      room = m;
    }

-- ---- its count

module _ (least most : ℕ) (s : List ℕ) (at : ℕ) where
  pub counted_there : {p : ℕ} (f : ℕ → ℕ → Ans Items) → bad p ≡ count_at least most s at → Reads (bind (count_at least most s at) f) → ⊥
  counted_there {p} f e r =
      let d : bad p ≡ good r.value r.end = ap (λ a. bind a f) e ∙ r.read in
      let z : ◌≡◌ {A = ℕ} 0 1 = cc in
      absurd (omega arith)

  module _ {count first : ℕ} (e : good count first ≡ count_at least most s at) where
    pub counted_room : (tab : List ℕ) (n : ℕ) → Room s tab n at → Room s tab n first
    counted_room tab n m =
        let g = number_end s at (count_good s least most at (sym e)).number in
        record { short = m.short; space = m.space; inside = g.1; taken = omega (arith, m.taken, g.0); fits = m.fits }

    pub counted_behind : (f : ℕ → ℕ → Ans Items) → bind (count_at least most s at) f ≡ f count first
    counted_behind f = bind_good f (sym e) refl

    pub counted_begun : (q : ℕ → Ans Items) (tab : List ℕ) (n : ℕ) → Room s tab n at → Reads (each_counted least most q s at)
        → Ahead q s tab n (each_counted least most q s at) tab (record { items = n; at = first }) count 0
    unfolding each_counted
    counted_begun q tab n m r =
        let d : count - 0 ≡ count = omega arith in
        record {
          more = r.value;
          end = r.end;
          coming = rw d (sym (counted_behind (λ c n. each q c n)) ∙ r.read);
          all = ap (λ a. items_in s tab n ++ value_or [] a) (sym r.read);
          last = ap end_of r.read;
          kept = refl;
          room = counted_room tab n m;
        }
