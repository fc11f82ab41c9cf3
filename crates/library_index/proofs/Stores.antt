-- What stores into the table leave.
-- Assumes nothing.
use mathlib.Core.Path.{◌≡◌, ap, ◌∙◌}
use mathlib.Core.List.{List, ◌++◌}
use Prim.Native.Nat.{ℕ, ◌+◌, ◌*◌, ◌≤◌}
use native.Mathlib.Omega.{arith}
use lib.ListN.{length, get_or, set, take, drop, replicate, length-set, length-append, length-drop, get_or-append}
use lib.Seq.{get_or-set_same, get_or-set_other, length-take-le}
use Rattle.std.proofs.lemmas.List.{length-replicate, get_or-replicate}
use Rattle.library_index.specs.Names.{Puts, Stored, Cleared}

-- ---- the heads

-- the first of them filled with 0, the rest as it was
pub cleared : (tab filled : List ℕ) → 2048 ≤ length tab → filled ≡ replicate {A = ℕ} (length (take 2048 tab)) 0 → Cleared tab (filled ++ drop 2048 tab)
cleared tab filled long e =
    let l : length (take 2048 tab) ≡ 2048 = length-take-le 2048 tab long in
    let f : length filled ≡ 2048 = ap length e ∙ length-replicate _ _ ∙ l in
    record {
      long = omega (arith, length-append filled (drop 2048 tab));
      kept = omega (arith, length-append filled (drop 2048 tab), length-drop 2048 tab);
      heads = λ h m. get_or-append filled (drop 2048 tab) 0 h (omega arith)
          ∙ ap (λ (xs : List ℕ). get_or xs h 0) e ∙ get_or-replicate _ h 0 0 (omega arith);
    }

-- ---- one name: four stores

module _ (tab : List ℕ) (n h place len : ℕ) (p : Puts tab n h place len) where
  abbrev t₁ : List ℕ
  t₁ = set tab (2048 + n * 3) place

  abbrev t₂ : List ℕ
  t₂ = set t₁ (2048 + n * 3 + 1) len

  abbrev t₃ : List ℕ
  t₃ = set t₂ (2048 + n * 3 + 2) (get_or tab h 0)

  l₁ : length t₁ ≡ length tab
  l₁ = length-set tab (2048 + n * 3) place

  l₂ : length t₂ ≡ length tab
  l₂ = length-set t₁ (2048 + n * 3 + 1) len ∙ l₁

  l₃ : length t₃ ≡ length tab
  l₃ = length-set t₂ (2048 + n * 3 + 2) (get_or tab h 0) ∙ l₂

  last : (i : ℕ) → (i ≡ h → ⊥) → get_or (set t₃ h (n + 1)) i 0 ≡ get_or t₃ i 0
  last i d = get_or-set_other t₃ h i (n + 1) 0 d

  third : (i : ℕ) → (i ≡ 2048 + n * 3 + 2 → ⊥) → get_or t₃ i 0 ≡ get_or t₂ i 0
  third i d = get_or-set_other t₂ (2048 + n * 3 + 2) i (get_or tab h 0) 0 d

  second : (i : ℕ) → (i ≡ 2048 + n * 3 + 1 → ⊥) → get_or t₂ i 0 ≡ get_or t₁ i 0
  second i d = get_or-set_other t₁ (2048 + n * 3 + 1) i len 0 d

  first : (i : ℕ) → (i ≡ 2048 + n * 3 → ⊥) → get_or t₁ i 0 ≡ get_or tab i 0
  first i d = get_or-set_other tab (2048 + n * 3) i place 0 d

  pub stored : Stored tab n h place len (set t₃ h (n + 1))
  stored = record {
    kept = length-set t₃ h (n + 1) ∙ l₃;
    place_of = last (2048 + n * 3) (λ e. omega (arith, p.low)) ∙ third (2048 + n * 3) (λ e. omega arith)
        ∙ second (2048 + n * 3) (λ e. omega arith) ∙ get_or-set_same tab (2048 + n * 3) place 0 (omega (arith, p.free));
    len_of = last (2048 + n * 3 + 1) (λ e. omega (arith, p.low)) ∙ third (2048 + n * 3 + 1) (λ e. omega arith)
        ∙ get_or-set_same t₁ (2048 + n * 3 + 1) len 0 (omega (arith, p.free, l₁));
    link_of_lem = last (2048 + n * 3 + 2) (λ e. omega (arith, p.low))
        ∙ get_or-set_same t₂ (2048 + n * 3 + 2) (get_or tab h 0) 0 (omega (arith, p.free, l₂));
    head_of = get_or-set_same t₃ h (n + 1) 0 (omega (arith, p.low, p.free, l₃));
    rows = λ i a b. last i (λ e. omega (arith, p.low)) ∙ third i (λ e. omega arith) ∙ second i (λ e. omega arith) ∙ first i (λ e. omega arith);
    heads = λ i a d. last i d ∙ third i (λ e. omega arith) ∙ second i (λ e. omega arith) ∙ first i (λ e. omega arith);
  }
