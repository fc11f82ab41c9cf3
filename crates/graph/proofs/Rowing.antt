-- Rows that are there stay there, and a walk that asks only for them adds nothing.
-- Assumes nothing.
use Prim.Native.Nat.{ℕ, zero, suc}
use mathlib.Core.Path.{◌≡◌, refl}
use mathlib.Core.Bool.{Bool, true, false, cond}
use mathlib.Core.List.Memᴰ
use mathlib.Core.List.{List, [], ◌∷◌, ◌++◌}
use lib.ListN.{length}
use lib.Dec.{leb}
use Rattle.text.specs.Refusal.{no_refusal}
use Rattle.graph.specs.Graph.{too_many_edges, Out, built, refused, then_o, add_by}
use Rattle.graph.specs.Numbers.{Row, row, mem_r, add_row, each_o, import_code, given_code}
use Rattle.graph.specs.Once.{Grows}
use Rattle.graph.proofs.Numbers.{row_mem, mem_row}

pub same_rows : (rs : List Row) → Grows rs rs
same_rows rs r m = m

-- a refusal has nothing to say
abbrev pub OnBuilt : Out Row → (List Row → Type 0) → Type 0
OnBuilt (built rs) P = P rs
OnBuilt (refused n a) P = Unit {0}

on_built : (o : Out Row) {P Q : List Row → Type 0} → ((rs : List Row) → P rs → Q rs) → OnBuilt o P → OnBuilt o Q
on_built (built rs) f p = f rs p
on_built (refused n a) f p = tt

-- ---- one after another

pub each_append : {A : Type 0} (f : A → List Row → Out Row) (xs ys : List A) (rs : List Row) → each_o f (xs ++ ys) rs ≡ then_o (each_o f xs rs) (each_o f ys)
unfolding each_o
each_append f [] ys rs = refl
each_append f (x ∷ xs) ys rs = go (f x rs) (each_append f xs ys)
  where
    go : (o : Out Row) → ((rs₁ : List Row) → each_o f (xs ++ ys) rs₁ ≡ then_o (each_o f xs rs₁) (each_o f ys))
        → then_o o (each_o f (xs ++ ys)) ≡ then_o (then_o o (each_o f xs)) (each_o f ys)
    go (built rs₁) ih = ih rs₁
    go (refused n a) ih = refl

-- what holds of no step, and with one step more, holds of all
each_done : {A : Type 0} (f : A → List Row → Out Row) (P : List A → List Row → List Row → Type 0) → ((rs : List Row) → P [] rs rs)
    → ((x : A) (xs : List A) (rs : List Row) → OnBuilt (f x rs) (λ rs₁. (rs₂ : List Row) → P xs rs₁ rs₂ → P (x ∷ xs) rs rs₂))
    → (xs : List A) (rs : List Row) → OnBuilt (each_o f xs rs) (P xs rs)
unfolding each_o
each_done f P none more [] rs = none rs
each_done f P none more (x ∷ xs) rs = go (f x rs) (more x xs rs) (each_done f P none more xs)
  where
    go : (o : Out Row) → OnBuilt o (λ rs₁. (rs₂ : List Row) → P xs rs₁ rs₂ → P (x ∷ xs) rs rs₂) → ((rs₁ : List Row) → OnBuilt (each_o f xs rs₁) (P xs rs₁))
        → OnBuilt (then_o o (each_o f xs)) (P (x ∷ xs) rs)
    go (built rs₁) h ih = on_built (each_o f xs rs₁) h (ih rs₁)
    go (refused n a) h ih = tt

pub each_grows : {A : Type 0} (f : A → List Row → Out Row) → ((x : A) (rs : List Row) → OnBuilt (f x rs) (Grows rs))
    → (xs : List A) (rs : List Row) → OnBuilt (each_o f xs rs) (Grows rs)
each_grows f g =
    each_done f (λ xs rs rs₁. Grows rs rs₁) same_rows (λ x xs rs. on_built (f x rs) (λ rs₁ h rs₂ i r m. i r (h r m)) (g x rs))

-- ---- a row more

pub add_there : (limit : ℕ) (r : Row) (rs : List Row) → mem_r r rs ≡ true → add_row limit rs r ≡ built rs
unfolding add_by
add_there limit r rs m = rw m refl

pub record Added (r : Row) (rs rs₁ : List Row) : Type 0 where
  pub grows : Grows rs rs₁
  pub there : mem_r r rs₁ ≡ true

pub added : (limit : ℕ) (r : Row) (rs : List Row) → OnBuilt (add_row limit rs r) (Added r rs)
unfolding add_by
added limit r rs = go (mem_r r rs) refl (leb limit (length rs))
  where
    go : (b : Bool) → mem_r r rs ≡ b → (c : Bool) → OnBuilt (cond b (built rs) (cond c (refused too_many_edges no_refusal) (built (rs ++ (r ∷ []))))) (Added r rs)
    go true q c = record { grows = same_rows rs; there = q }
    go false q true = tt
    go false q false = record {
      grows = λ x m. mem_row (Memᴰ.append_left (r ∷ []) (row_mem rs x m));
      there = mem_row (Memᴰ.append_right rs (Memᴰ.head refl));
    }

-- a module that is listed
pub given_grows : (limit v c : ℕ) (rs : List Row) → OnBuilt (given_code limit v c rs) (Grows rs)
given_grows limit v zero rs = tt
given_grows limit v (suc u) rs = on_built (add_row limit rs (row v u)) (λ rs₁ a. a.grows) (added limit (row v u) rs)

-- ---- imports

-- each is known, and its row is there
unfoldable pub Imported : List ℕ → (v : ℕ) → List Row → Type 0
Imported [] v rs = Unit {0}
Imported (c ∷ cs) v rs = ((u : ℕ) × (c ≡ suc u) × (mem_r (row u v) rs ≡ true)) × Imported cs v rs

pub imported_grows : (cs : List ℕ) (v : ℕ) (rs rs₁ : List Row) → Grows rs rs₁ → Imported cs v rs → Imported cs v rs₁
unfolding Imported
imported_grows [] v rs rs₁ g i = tt
imported_grows (c ∷ cs) v rs rs₁ g i = ((i.0.0, i.0.1, g (row i.0.0 v) i.0.2), imported_grows cs v rs rs₁ g i.1)

pub imports_there : (limit v : ℕ) (cs : List ℕ) (rs : List Row) → Imported cs v rs → each_o (import_code limit v) cs rs ≡ built rs
unfolding Imported each_o
imports_there limit v [] rs i = refl
imports_there limit v (c ∷ cs) rs i = rw i.0.1 (rw (add_there limit (row i.0.0 v) rs i.0.2) (imports_there limit v cs rs i.1))

pub record Imports (cs : List ℕ) (v : ℕ) (rs rs₁ : List Row) : Type 0 where
  pub grows : Grows rs rs₁
  pub there : Imported cs v rs₁

pub imports_done : (limit v : ℕ) (cs : List ℕ) (rs : List Row) → OnBuilt (each_o (import_code limit v) cs rs) (Imports cs v rs)
unfolding Imported
imports_done limit v =
    each_done (import_code limit v) (λ cs rs rs₁. Imports cs v rs rs₁) (λ rs. record { grows = same_rows rs; there = tt }) one
  where
    one : (c : ℕ) (cs : List ℕ) (rs : List Row)
        → OnBuilt (import_code limit v c rs) (λ rs₁. (rs₂ : List Row) → Imports cs v rs₁ rs₂ → Imports (c ∷ cs) v rs rs₂)
    one zero cs rs = tt
    one (suc u) cs rs =
        on_built (add_row limit rs (row u v))
        (λ rs₁ a rs₂ i. record { grows = λ r m. i.grows r (a.grows r m); there = ((u, refl, i.grows (row u v) a.there), i.there) })
        (added limit (row u v) rs)
