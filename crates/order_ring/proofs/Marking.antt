-- A store of 1 marks one number more.
-- Assumes nothing.
use mathlib.Core.Path.{◌≡◌, refl, sym, ◌∙◌}
use mathlib.Core.Logic.{⊎_elim}
use mathlib.Core.Bool.{Bool, true, false, cond}
use mathlib.Core.List.{List, [], ◌∷◌, ◌++◌}
use Prim.Native.Nat.{ℕ, ◌+◌, ◌*◌, ◌≤◌, ◌<◌}
use native.Mathlib.Omega.{arith}
use native.Mathlib.Numerals.{add-one}
use lib.ListN.{length, get_or, set, take, length-set}
use lib.Seq.{get_or-set_same, get_or-set_other, take-suc, length-take-le, get_or-take}
use mir.Syntax.{w64}
use mir.Val.{Fits}
use Rattle.text_lent.proofs.Numbers.{decide}
use Rattle.graph.specs.Limits.{most_nodes}
use Rattle.order_tables.specs.Free.{mem}
use Rattle.order_tables.proofs.Mem.{mem_snoc_new, mem_snoc_else, place_mem}
use Rattle.order_tables.proofs.Distinct.{mem_head, mem_other}
use Rattle.order_ring.specs.Trail.{Flags, Marks}

-- ---- one mark more

pub flag_front : (xs t : List ℕ) (v : ℕ) → Flags xs t → v < most_nodes → Flags (v ∷ xs) (set t v 1)
flag_front xs t v f l = record {
  long = rw length-set f.long;
  same = λ u m. ⊎_elim
      (λ e. rw e (rw (mem_head v xs) (get_or-set_same t v 1 0 (omega (arith, f.long)))))
      (λ d. rw (mem_other u v xs (λ e. d (sym e))) (get_or-set_other t v u 1 0 d ∙ f.same u m))
      (decide u v);
}

flag_end : (xs t : List ℕ) (v : ℕ) → Flags xs t → v < most_nodes → Flags (xs ++ (v ∷ [])) (set t v 1)
flag_end xs t v f l = record {
  long = rw length-set f.long;
  same = λ u m. ⊎_elim
      (λ e. rw e (rw (mem_snoc_new v xs) (get_or-set_same t v 1 0 (omega (arith, f.long)))))
      (λ d. rw (mem_snoc_else u v xs d) (get_or-set_other t v u 1 0 d ∙ f.same u m))
      (decide u v);
}

-- what a word says
pub flag_no : (xs t : List ℕ) (v : ℕ) → Flags xs t → v < most_nodes → get_or t v 0 ≡ 0 → mem v xs ≡ false
flag_no xs t v f l e = go (mem v xs) (sym (f.same v l) ∙ e)
  where
    go : (b : Bool) → ◌≡◌ {A = ℕ} (cond b 1 0) 0 → b ≡ false
    go true k = absurd (omega arith)
    go false k = refl

pub flag_yes : (xs t : List ℕ) (v : ℕ) → Flags xs t → v < most_nodes → (get_or t v 0 ≡ 0 → ⊥) → mem v xs ≡ true
flag_yes xs t v f l d = go (mem v xs) refl
  where
    go : (b : Bool) → mem v xs ≡ b → b ≡ true
    go true k = refl
    go false k = absurd (d (f.same v l ∙ rw k))

-- ---- the loop of `mark`

pub record Marking (list : List ℕ) (count : ℕ) (t₀ t : List ℕ) (i : ℕ) : Type 0 where
  pub kept : length t ≡ length t₀
  pub most : i ≤ count
  pub sofar : Flags (take i list) t

module _ (list : List ℕ) (count : ℕ) (t₀ : List ℕ) (g : Marks list count t₀) where
  pub mark_begun : Marking list count t₀ t₀ 0
  mark_begun = record { kept = refl; most = omega arith; sofar = g.clear }

  low : (i : ℕ) → i < count → get_or list i 0 < most_nodes
  low i l =
      let k : mem (get_or (take count list) i 0) (take count list) ≡ true = place_mem (take count list) i (rw (length-take-le count list g.all) l) in
      g.below (get_or list i 0) (rw (get_or-take count list i 0 l) at k)

  module _ (t : List ℕ) (i x : ℕ) (h : Marking list count t₀ t i) (p : x ≡ get_or (take count list) i 0) (s : i < length (take count list)) where
    l : i < count
    l = rw (length-take-le count list g.all) at s

    q : x ≡ get_or list i 0
    q = p ∙ get_or-take count list i 0 l

    pub mark_in : x < length t
    mark_in = rw q (omega (arith, low i l, h.sofar.long))

    pub mark_fits : Fits w64 (x * 4)
    mark_fits = record { fits = omega (arith, q, low i l) }

    pub mark_more : Marking list count t₀ (set t x 1) (i + 1)
    mark_more = record {
      kept = length-set t x 1 ∙ h.kept;
      most = omega (arith, l);
      sofar = rw (q, add-one, take-suc list i 0 (omega (arith, g.all, l))) (flag_end (take i list) t (get_or list i 0) h.sofar (low i l));
    }

  pub mark_done : (t : List ℕ) (i : ℕ) → Marking list count t₀ t i → length (take count list) ≤ i → Flags (take count list) t
  mark_done t i h k = let l : count ≤ i = rw (length-take-le count list g.all) at k in let e : i ≡ count = omega (arith, h.most) in rw (← e) h.sofar
