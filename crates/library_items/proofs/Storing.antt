-- What two stores into the table leave: one item more, and those before it as they were.
-- Assumes nothing.
use Rattle.std.specs.Prelude.{Ok, Result}
use mathlib.Core.Path.{◌≡◌, refl, ap, ap₂, ◌∙◌}
use mathlib.Core.Logic.{⊎_elim}
use mathlib.Core.List.{List, [], ◌∷◌, ◌++◌}
use Prim.Native.Nat.{ℕ, zero, suc, ◌+◌, ◌*◌, ◌/◌, ◌%◌, ◌≤◌, ◌<◌}
use native.Mathlib.Omega.{arith}
use native.Mathlib.Nat.{eq-or-lt_of_le}
use native.Mathlib.Numerals.{add-one}
use lib.ListN.{length, get_or, set, length-set}
use lib.Seq.{get_or-set_same, get_or-set_other}
use mir.Syntax.{w64}
use mir.Val.{Fits}
use Rattle.library_form.specs.Form.{bad, name_at, name_seen}
use Rattle.library_form.proofs.Bounds.{spanned}
use Rattle.library_items.specs.Items.{number_of, kind_of}
use Rattle.library_items.specs.declared.Kind.{Kind}
use Rattle.library_items.specs.declared.Kind.TheVariants.{Module, Submodule, Augmenting, Deviation, ImportOnly, FirstSub, LaterSub, NoName}
use Rattle.library_items.specs.Table.{item_in, item_word, items_in, Items, name_read, Reads, ItemFits, Puts, Laid, Room, Gained}
use Rattle.library_items.specs.declared.Item.{Item}

-- an item by its two words
abbrev item_by : (place word : ℕ) → Item
item_by place word = record { kind = kind_of (word % 8); place = place; size = word / 8 }

-- ---- `get_item` and `put_item`

pub item_got : (tab : List ℕ) (i : ℕ) → {k : Kind} → k ≡ kind_of (get_or tab (i * 2 + 1) 0 % 8)
    → record { kind = k; place = get_or tab (i * 2) 0; size = get_or tab (i * 2 + 1) 0 / 8 } ≡ item_in tab i
unfolding item_in
item_got tab i e = rw e refl

kind_back : (k : Kind) → (number_of k < 8) × (kind_of (number_of k) ≡ k)
kind_back Module = (omega arith, refl)
kind_back Submodule = (omega arith, refl)
kind_back Augmenting = (omega arith, refl)
kind_back Deviation = (omega arith, refl)
kind_back ImportOnly = (omega arith, refl)
kind_back FirstSub = (omega arith, refl)
kind_back LaterSub = (omega arith, refl)
kind_back NoName = (omega arith, refl)

module _ (tab : List ℕ) (n : ℕ) (x : Item) (p : Puts tab n x) where
  abbrev word : ℕ
  word = x.size * 8 + number_of x.kind

  abbrev t₁ : List ℕ
  t₁ = set tab (n * 2) x.place

  abbrev t₂ : List ℕ
  t₂ = set t₁ (n * 2 + 1) word

  l₁ : length t₁ ≡ length tab
  l₁ = length-set tab (n * 2) x.place

  kept : (i : ℕ) → (i ≡ n * 2 → ⊥) → (i ≡ n * 2 + 1 → ⊥) → get_or t₂ i 0 ≡ get_or tab i 0
  kept i d e = get_or-set_other t₁ (n * 2 + 1) i word 0 e ∙ get_or-set_other tab (n * 2) i x.place 0 d

  place_of : get_or t₂ (n * 2) 0 ≡ x.place
  place_of = get_or-set_other t₁ (n * 2 + 1) (n * 2) word 0 (λ e. omega arith) ∙ get_or-set_same tab (n * 2) x.place 0 (omega (arith, p.free))

  word_of : get_or t₂ (n * 2 + 1) 0 ≡ word
  word_of = get_or-set_same t₁ (n * 2 + 1) word 0 (omega (arith, p.free, l₁))

  back : item_by x.place word ≡ x
  back =
      let k = kind_back x.kind in
      let l : number_of x.kind < 8 = k.0 in
      let e₀ : (x.size * 8 + number_of x.kind) % 8 ≡ number_of x.kind = omega arith in
      let e₁ : kind_of ((x.size * 8 + number_of x.kind) % 8) ≡ x.kind = ap kind_of e₀ ∙ k.1 in
      let e₂ : (x.size * 8 + number_of x.kind) / 8 ≡ x.size = omega arith in
      ap₂ (λ k z. record { kind = k; place = x.place; size = z }) e₁ e₂

  pub laid : Laid tab n x t₂
  unfolding item_in
  laid = record {
    kept = length-set t₁ (n * 2 + 1) word ∙ l₁;
    own = ap₂ item_by place_of word_of ∙ back;
    others = λ i l. ap₂ item_by (kept (i * 2) (λ e. omega arith) (λ e. omega arith)) (kept (i * 2 + 1) (λ e. omega arith) (λ e. omega arith));
  }

-- ---- the items of a table

module _ (s tab after : List ℕ) (n : ℕ) (same : (i : ℕ) → i < n → item_in after i ≡ item_in tab i) where
  items_same : (m : ℕ) → m ≤ n → items_in s after m ≡ items_in s tab m
  unfolding items_in
  items_same zero l = refl
  items_same (suc m) l = ap₂ (λ (xs : Items) (x : Item). xs ++ (item_word s x ∷ [])) (items_same m (omega arith)) (same m (omega arith))

-- ---- the ways out of `take_item`

module _ (s tab : List ℕ) (n : ℕ) (kind : Kind) (at : ℕ) where
  pub no_name : {p : ℕ} → bad p ≡ name_at s at → Reads (name_read kind s at) → ⊥
  unfolding name_read
  no_name {p} b g = let h = g.read in let z : ◌≡◌ {A = ℕ} 0 1 = cc in absurd (omega arith)

  module _ (r : Result (ℕ × ℕ) ℕ) (place size : ℕ) (e : r ≡ Ok (place, size)) (f : name_seen s r ≡ name_at s at) (m : Room s tab n at) where
    pub name_fits : Fits w64 (place + size)
    name_fits = let w = spanned s r at place size e f in let h = m.short in record { fits = omega (arith, w.inside) }

    pub name_puts : Puts tab n (record { kind = kind; place = place; size = size })
    name_puts =
        let w = spanned s r at place size e f in
        let a = m.short in
        let b = m.taken in
        let d = m.space in
        let i = w.inside in
        let j = w.later in
        record { free = omega (arith, w.some); low = omega (arith, w.some); place = omega arith; size = w.few }

    pub name_taken : {after : List ℕ} → Laid tab n (record { kind = kind; place = place; size = size }) after
        → Gained s tab n (name_read kind s at) (record { items = n + 1; at = place + size }) after
    unfolding name_read items_in
    name_taken {after} q =
        let w = spanned s r at place size e f in
        let x : Item = record { kind = kind; place = place; size = size } in
        let fit : ItemFits s x = record { some = w.some; few = w.few; inside = w.inside } in
        record {
          items = rw w.read (rw add-one (ap₂ (λ (xs : Items) (x : Item). xs ++ (item_word s x ∷ [])) (items_same s tab after n q.others n (omega arith))
              q.own));
          at = rw w.read;
          kept = q.kept;
          room = record {
            short = m.short;
            space = omega (arith, m.space, q.kept);
            inside = w.inside;
            taken = omega (arith, m.taken, w.later, w.some);
            fits = λ i l. ⊎_elim
                (λ d. rw d (rw q.own fit))
                (λ d. rw (q.others i d) (m.fits i d))
                (eq-or-lt_of_le {n = i} {m = n} (omega arith));
          };
        }
