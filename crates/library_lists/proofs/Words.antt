-- Lists of names: the search over the bytes is the search in the words that were read from them. One law for each way out.
-- Assumes nothing.
use mathlib.Core.Path.{◌≡◌, refl, sym, ap, ◌∙◌}
use mathlib.Core.List.{List, [], ◌∷◌, ◌++◌}
use mathlib.Core.Bool.{Bool, true, false, cond, ◌||◌}
use Prim.Native.Nat.{ℕ, zero, suc, ◌+◌, ◌-◌, ◌^◌, ◌≤◌, ◌<◌}
use native.Mathlib.Omega.{arith}
use native.Mathlib.Numerals.{sub-one}
use lib.Dec.{eqb}
use lib.ListN.{length, take, drop}
use lib.Pointwise.{pointwise}
use mir.Syntax.{w64}
use mir.Val.{Fits}
use Rattle.text.specs.Keyword.{same}
use Rattle.text.proofs.Here.{or_none}
use Rattle.library_form.specs.Form.{Ans, good, bad, bind, PlacedName, word_at, name_at, many}
use Rattle.library_form.proofs.Bounds.{name_end, part_word, compared}
use Rattle.library_index.specs.Names.{among, memb, new_name}
use Rattle.library_index.proofs.First.{among_append}
use Rattle.library_image.specs.Image.{most_names, count_at}
use Rattle.library_image.proofs.Steps.{on_good, passed}
use Rattle.library_lists.specs.Lists.{done, on_ans, word_of, list_at, among_at, word_behind}
use Rattle.library_lists.proofs.Counting.{Going, further, no_count, list_stopped, list_read}

-- ---- the ways out of `among`

module _ (s t : List ℕ) where
  -- what the loop keeps: the answer from the start is the answer from here
  abbrev pub Same : (count from i at : ℕ) → Type 0
  Same count from i at = among_at count s from t ≡ among_at (count - i) s at t

  pub none_yet : (count from : ℕ) → Same count from 0 from
  none_yet count from = let d : count - 0 ≡ count = omega arith in rw d

  pub none_left : (count from i at : ℕ) → Same count from i at → count ≤ i → false ≡ among_at count s from t
  unfolding among_at
  none_left count from i at e h = let d : count - i ≡ 0 = omega arith in sym (e ∙ rw d)

  next : (k at : ℕ) → 0 < k → among_at k s at t ≡ on_ans (name_at s at) (λ w n. cond (same w.text t) true (among_at (k - 1) s n t)) (λ p. false)
  unfolding among_at
  next zero at h = elim h [ ]
  next (suc k) at h = rw sub-one refl

  pub no_name : (count from i at : ℕ) {p : ℕ} → Same count from i at → bad p ≡ name_at s at → i < count → false ≡ among_at count s from t
  no_name count from i at e q h = sym (e ∙ next (count - i) at (omega arith) ∙ rw (← q) refl)

  module _ (count from i at : ℕ) (first len : ℕ) {b : Bool} (e : Same count from i at) (q : good (word_at s first len) (first + len) ≡ name_at s at)
      (k : b ≡ pointwise eqb (take (first + len - first) (drop first s)) t) where
    one : i < count → among_at (count - i) s at t ≡ cond (same (word_at s first len).text t) true (among_at (count - (i + 1)) s (first + len) t)
    one h = let d : count - i - 1 ≡ count - (i + 1) = omega arith in next (count - i) at (omega arith) ∙ rw (← q, d) refl

    pub is_it : b ≡ true → i < count → true ≡ among_at count s from t
    is_it y h = sym (e ∙ one h ∙ rw (compared s t first len k true y))

    pub not_it : b ≡ false → i < count → Same count from (i + 1) (first + len)
    not_it y h = e ∙ one h ∙ rw (compared s t first len k false y)

-- ---- the ways out of `read_word`

module _ (s : List ℕ) (differ : Bool) (from i at : ℕ) where
  pub no_word : {p : ℕ} → bad p ≡ name_at s at → bad p ≡ word_behind differ s from i at
  unfolding word_behind
  no_word e = rw (← e) refl

  module _ {first len : ℕ} (e : good (word_at s first len) (first + len) ≡ name_at s at) where
    pub any_word : differ ≡ false → good (word_at s first len) (first + len) ≡ word_behind differ s from i at
    unfolding word_behind
    any_word d = rw (← e) (rw d)

    module _ {b : Bool} (k : b ≡ among_at i s from (take (first + len - first) (drop first s))) where
      tested : among_at i s from (word_at s first len).text ≡ b
      tested = sym (k ∙ ap (among_at i s from) (part_word s first len))

      pub repeated : differ ≡ true → b ≡ true → bad at ≡ word_behind differ s from i at
      unfolding word_behind
      repeated d y = rw (← e) (rw (d, tested, y))

      pub new_word : differ ≡ true → b ≡ false → good (word_at s first len) (first + len) ≡ word_behind differ s from i at
      unfolding word_behind
      new_word d y = rw (← e) (rw (d, tested, y))

-- ---- the words that were read

-- the search over the bytes is the search in the words that were read from them
among_seen : (s t : List ℕ) (k : ℕ) (seen : List PlacedName) (at : ℕ) {ws : List PlacedName} {n : ℕ} → many (word_of true s) k seen at ≡ good ws n
    → memb t ws ≡ (memb t seen || among_at k s at t)
unfolding many among_at new_name among
among_seen s t zero seen at {ws} e = let q : seen ≡ ws = cc in rw (← q) (sym (or_none (memb t seen)))
among_seen s t (suc k) seen at {ws} {n} e = go (name_at s at) refl (λ w m. among_seen s t k (seen ++ (w ∷ [])) m) e
  where
    Ih : Type 0
    Ih = (w : PlacedName) (m : ℕ) → many (word_of true s) k (seen ++ (w ∷ [])) m ≡ good ws n → memb t ws ≡ (memb t (seen ++ (w ∷ [])) || among_at k s m t)

    bool : (a b c : Bool) → ((a || (b || false)) || c) ≡ (a || cond b true c)
    bool true b c = refl
    bool false true c = refl
    bool false false c = refl

    new : (w : PlacedName) (m : ℕ) (b : Bool) → Ih → bind (cond b (bad at) (good w m)) (λ a n. many (word_of true s) k (seen ++ (a ∷ [])) n) ≡ good ws n
        → memb t ws ≡ (memb t seen || cond (same w.text t) true (among_at k s m t))
    new w m true ih e = let z : ◌≡◌ {A = ℕ} 0 1 = cc in absurd (omega arith)
    new w m false ih e = ih w m e ∙ rw (among_append (λ (w : PlacedName). w.text) t seen (w ∷ [])) (bool (memb t seen) (same w.text t) (among_at k s m t))

    go : (r : Ans PlacedName) → name_at s at ≡ r → Ih → bind (bind r (λ w n. cond (memb w.text seen) (bad at) (good w n)))
        (λ a n. many (word_of true s) k (seen ++ (a ∷ [])) n) ≡ good ws n
        → memb t ws ≡ (memb t seen || on_ans r (λ w n. cond (same w.text t) true (among_at k s n t)) (λ p. false))
    go (good w m) h ih e = new w m (memb w.text seen) ih e
    go (bad p) h ih e = let z : ◌≡◌ {A = ℕ} 0 1 = cc in absurd (omega arith)

-- so what the code reads is the next of the list
next_word : (differ : Bool) (s : List ℕ) {count from i at : ℕ} (g : Going (word_of differ s) count from i at)
    → word_behind differ s from i at ≡ word_of differ s g.seen at
unfolding word_behind new_name among
next_word true s {count} {from} {i} {at} g = go (name_at s at)
  where
    go : (r : Ans PlacedName) → bind r (λ w n. cond (among_at i s from w.text) (bad at) (good w n))
        ≡ bind r (λ w n. cond (memb w.text g.seen) (bad at) (good w n))
    go (good w n) = ap (λ (b : Bool). cond b (bad at) (good w n)) (sym (among_seen s w.text i [] from g.sofar))
    go (bad p) = refl
next_word false s {at = at} g = go (name_at s at)
  where
    go : (r : Ans PlacedName) → bind r (λ w n. good w n) ≡ r
    go (good w n) = refl
    go (bad p) = refl

-- it is a name, wrong where it starts
word_name : (differ : Bool) (s : List ℕ) (from i at : ℕ) {w : PlacedName} {n : ℕ} → word_behind differ s from i at ≡ good w n → name_at s at ≡ good w n
unfolding word_behind
word_name true s from i at e = on_good (name_at s at) _ e (λ v m e₁ e₂. e₁ ∙ (passed (among_at i s from v.text) at (good v m) e₂).1)
word_name false s from i at e = on_good (name_at s at) _ e (λ v m e₁ e₂. e₁ ∙ e₂)

-- ---- the ways out of `read_names`

module _ (differ : Bool) (s : List ℕ) where
  pub no_names : (at : ℕ) {p : ℕ} → bad p ≡ count_at 0 most_names s at → bad p ≡ done (list_at differ s at)
  unfolding list_at
  no_names at e = no_count 0 most_names s at (word_of differ) e

  module _ {count from i here : ℕ} (g : Going (word_of differ s) count from i here) (first len : ℕ)
      (e : good (word_at s first len) (first + len) ≡ word_behind differ s from i here) where
    pub word_fits : length s < 2 ^ 64 → Fits w64 (first + len)
    word_fits h = record { fits = omega (arith, (name_end s here (word_name differ s from i here (sym e))).inside) }

    pub names_further : i < count → Going (word_of differ s) count from (i + 1) (first + len)
    names_further h = further (word_of differ s) g (sym (next_word differ s g) ∙ sym e) h

  module _ (at : ℕ) {count n : ℕ} (l : good count n ≡ count_at 0 most_names s at) {i here : ℕ} (g : Going (word_of differ s) count n i here) where
    pub names_stopped : {p : ℕ} → bad p ≡ word_behind differ s n i here → i < count → bad p ≡ done (list_at differ s at)
    unfolding list_at
    names_stopped e h = list_stopped 0 most_names s at (word_of differ) l g (sym (next_word differ s g) ∙ sym e) h

    pub names_read : count ≤ i → good tt here ≡ done (list_at differ s at)
    unfolding list_at
    names_read h = list_read 0 most_names s at (word_of differ) l g h
