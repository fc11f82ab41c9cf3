-- What the number that the index answers says of the plain searches, also of those through lists with repeated names.
-- Assumes nothing.
use Rattle.std.specs.Prelude.{Some, None}
use mathlib.Core.Path.{◌≡◌, refl, sym, ap, ◌∙◌}
use mathlib.Core.Logic.{⊎_elim}
use mathlib.Core.List.{List, [], ◌∷◌, ◌++◌, append-nil, map}
use mathlib.Core.Bool.{Bool, true, false, cond, ◌||◌}
use Prim.Native.Nat.{ℕ, zero, suc, ◌+◌, ◌<◌}
use native.Mathlib.Omega.{arith}
use native.Mathlib.Nat.{eq-or-lt_of_le}
use lib.ListN.{length, get_or, get_or-append}
use lib.Seq.{get_or_at}
use Rattle.library_form.specs.Form.{PlacedName, word_at}
use Rattle.text.specs.Keyword.{same}
use Rattle.text.proofs.KeywordLaws.{same_no}
use Rattle.text.proofs.Here.{by_test, never}
use Rattle.library_index.specs.Names.{first_from, first_of, first_by, among, add_new, add_all, memb, name_in_row, names_in}
use Rattle.library_index.proofs.Chain.{length_names}

none : PlacedName
none = word_at [] 0 0

-- here what is looked through is words
abbrev word : PlacedName → PlacedName
word w = w

-- ---- a name is among the words where the search finds it

pub not_among : (k : ℕ) (t : List ℕ) (ws : List PlacedName) → first_from k t ws ≡ None → memb t ws ≡ false
unfolding first_from among
not_among k t [] e = refl
not_among k t (w ∷ ws) e = go (same w.text t) (not_among (suc k) t ws) e
  where
    go : (b : Bool) → (first_from (suc k) t ws ≡ None → memb t ws ≡ false)
        → cond b (Some k) (first_from (suc k) t ws) ≡ None → (b || memb t ws) ≡ false
    go true ih e = cc
    go false ih e = ih e

pub is_among : (k : ℕ) (t : List ℕ) (ws : List PlacedName) {i : ℕ} → first_from k t ws ≡ Some i → memb t ws ≡ true
unfolding first_from among
is_among k t [] e = cc
is_among k t (w ∷ ws) {i} e = go (same w.text t) (is_among (suc k) t ws) e
  where
    go : (b : Bool) → (first_from (suc k) t ws ≡ Some i → memb t ws ≡ true)
        → cond b (Some k) (first_from (suc k) t ws) ≡ Some i → (b || memb t ws) ≡ true
    go true ih e = refl
    go false ih e = ih e

-- ---- one list behind another, and names of what is made of each

pub among_append : {A : Type 0} (name : A → List ℕ) (t : List ℕ) (l more : List A) → among name t (l ++ more) ≡ (among name t l || among name t more)
unfolding among
among_append name t [] more = refl
among_append name t (a ∷ l) more = go (same (name a) t) (among_append name t l more)
  where
    go : (b : Bool) → among name t (l ++ more) ≡ (among name t l || among name t more)
        → (b || among name t (l ++ more)) ≡ ((b || among name t l) || among name t more)
    go true ih = refl
    go false ih = ih

pub among_map : {A B : Type 0} (name : B → List ℕ) (f : A → B) (t : List ℕ) (l : List A) → among name t (map f l) ≡ among (λ a. name (f a)) t l
unfolding among
among_map name f t [] = refl
among_map name f t (a ∷ l) = ap (λ b. same (name (f a)) t || b) (among_map name f t l)

-- ---- the i-th name of the table

nth : (s tab : List ℕ) (n i : ℕ) → i < n → get_or (names_in s tab n) i none ≡ name_in_row s tab i
unfolding names_in
nth s tab zero i l = absurd (omega arith)
nth s tab (suc n) i l = ⊎_elim
    (λ e. rw e (get_or_at (names_in s tab n) (name_in_row s tab n) [] none n (length_names s tab n)))
    (λ k. get_or-append (names_in s tab n) (name_in_row s tab n ∷ []) none i (rw (length_names s tab n) k) ∙ nth s tab n i k)
    (eq-or-lt_of_le {n = i} {m = n} (omega arith))

-- ---- the number is of the word that any other search through the same words finds

module _ {A : Type 0} (f : PlacedName → A) (d : A) where
  record Which (t : List ℕ) (ws : List PlacedName) (k i : ℕ) : Type 0 where
    j : ℕ
    number : i ≡ k + j
    low : j < length ws
    it : first_by word f t ws d ≡ f (get_or ws j none)

  which : (t : List ℕ) (ws : List PlacedName) (k i : ℕ) → first_from k t ws ≡ Some i → Which t ws k i
  unfolding first_from
  which t [] k i e = let z : ◌≡◌ {A = ℕ} 0 1 = cc in absurd (omega arith)
  which t (w ∷ ws) k i e = go (same w.text t) refl (which t ws (suc k) i) e
    where
      go : (b : Bool) → same w.text t ≡ b → (first_from (suc k) t ws ≡ Some i → Which t ws (suc k) i)
          → cond b (Some k) (first_from (suc k) t ws) ≡ Some i → Which t (w ∷ ws) k i
      go true q ih e = let x : k ≡ i = cc in record { j = 0; number = omega arith; low = omega arith; it = rw q }
      go false q ih e = let x = ih e in record { j = suc x.j; number = omega (arith, x.number); low = omega (arith, x.low); it = rw q x.it }

  nowhere : (t : List ℕ) (ws : List PlacedName) (k : ℕ) → first_from k t ws ≡ None → first_by word f t ws d ≡ d
  unfolding first_from
  nowhere t [] k e = refl
  nowhere t (w ∷ ws) k e = go (same w.text t) (nowhere t ws (suc k)) e
    where
      go : (b : Bool) → (first_from (suc k) t ws ≡ None → first_by word f t ws d ≡ d)
          → cond b (Some k) (first_from (suc k) t ws) ≡ None → cond b (f w) (first_by word f t ws d) ≡ d
      go true ih e = cc
      go false ih e = ih e

  -- for callers: what the answers of `find` say of any search through the names of the table
  module _ (s tab t : List ℕ) (n : ℕ) where
    pub no_hit : first_of t (names_in s tab n) ≡ None → first_by word f t (names_in s tab n) d ≡ d
    no_hit e = nowhere t (names_in s tab n) 0 e

    pub the_hit : {i : ℕ} → first_of t (names_in s tab n) ≡ Some i → first_by word f t (names_in s tab n) d ≡ f (name_in_row s tab i)
    the_hit {i} e =
        let x = which t (names_in s tab n) 0 i e in
        let y : x.j ≡ i = omega (arith, x.number) in
        let l : i < n = omega (arith, x.number, x.low, length_names s tab n) in
        x.it ∙ ap (λ (k : ℕ). f (get_or (names_in s tab n) k none)) y ∙ ap f (nth s tab n i l)

pub hit_low : (s tab t : List ℕ) (n : ℕ) {i : ℕ} → first_of t (names_in s tab n) ≡ Some i → i < n
hit_low s tab t n {i} e = let x = which (λ (w : PlacedName). w.size) 0 t (names_in s tab n) 0 i e in omega (arith, x.number, x.low, length_names s tab n)

-- ---- names that are there already may be left out

by_append : {A : Type 0} (f : PlacedName → A) (t : List ℕ) (ws vs : List PlacedName) (d : A)
    → first_by word f t (ws ++ vs) d ≡ first_by word f t ws (first_by word f t vs d)
by_append f t [] vs d = refl
by_append f t (w ∷ ws) vs d = ap (cond (same w.text t) (f w)) (by_append f t ws vs d)

-- where there is a hit, what comes behind does not matter
by_hit : {A : Type 0} (f : PlacedName → A) (t : List ℕ) (ws : List PlacedName) (d e : A) → memb t ws ≡ true → first_by word f t ws d ≡ first_by word f t ws e
unfolding among
by_hit f t [] d e m = cc
by_hit {A} f t (w ∷ ws) d e m = go (same w.text t) (by_hit f t ws d e) m
  where
    go : (b : Bool) → (memb t ws ≡ true → first_by word f t ws d ≡ first_by word f t ws e)
        → (b || memb t ws) ≡ true → cond b (f w) (first_by word f t ws d) ≡ cond b (f w) (first_by word f t ws e)
    go true ih m = refl
    go false ih m = ih m

-- the same bytes are among the same words
memb_same : (a b : List ℕ) (ws : List PlacedName) → same a b ≡ true → memb a ws ≡ true → memb b ws ≡ true
memb_same a b ws e m =
    by_test (memb b ws) (λ y. y) (λ n. absurd (never (same_no a b (λ p. never n (ap (λ (x : List ℕ). memb x ws) (sym p) ∙ m))) e))

add_new_lem : {A : Type 0} (f : PlacedName → A) (t : List ℕ) (ws : List PlacedName) (w : PlacedName) (d : A)
    → first_by word f t (add_new (λ (w : PlacedName). w.text) ws w) d ≡ first_by word f t ws (cond (same w.text t) (f w) d)
add_new_lem {A} f t ws w d = go (memb w.text ws) refl (same w.text t) refl
  where
    go : (b : Bool) → memb w.text ws ≡ b → (c : Bool) → same w.text t ≡ c
        → first_by word f t (cond b ws (ws ++ (w ∷ []))) d ≡ first_by word f t ws (cond c (f w) d)
    go true h true k = by_hit f t ws d (f w) (memb_same w.text t ws k h)
    go true h false k = refl
    go false h c k = by_append f t ws (w ∷ []) d ∙ ap (λ (c : Bool). first_by word f t ws (cond c (f w) d)) k

-- a search through all words, repeated ones too, is the search through those that were new
pub once : {A : Type 0} (f : PlacedName → A) (t : List ℕ) (ws vs : List PlacedName) (d : A)
    → first_by word f t (add_all (λ (w : PlacedName). w.text) ws vs) d ≡ first_by word f t (ws ++ vs) d
unfolding add_all
once f t ws [] d = ap (λ (l : List PlacedName). first_by word f t l d) (sym (append-nil ws))
once f t ws (v ∷ vs) d =
    once f t (add_new (λ (w : PlacedName). w.text) ws v) vs d ∙ by_append f t (add_new (λ (w : PlacedName). w.text) ws v) vs d
    ∙ add_new_lem f t ws v (first_by word f t vs d) ∙ sym (by_append f t ws (v ∷ vs) d)
