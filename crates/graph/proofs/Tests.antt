-- The tests of names and edges decide equality and membership, since the test of two names does; and membership in a list of lists.
-- Assumes nothing.
use mathlib.Core.Path.{◌≡◌, refl, sym, ap, ◌∙◌, subst}
use mathlib.Core.Logic.{⊎_elim, ∥∥₁_elim}
use mathlib.Core.Bool.{Bool, true, false, cond, ◌||◌, true≢false, Bool-set}
use mathlib.Core.List.Memᴰ
use mathlib.Core.List.{List, [], ◌∷◌, ◌++◌, append_assoc, flat_map, Mem, Memᴰ}
use Rattle.text.specs.Keyword.{same}
use Rattle.text.proofs.KeywordLaws.{same_eq, same_yes}
use Rattle.library_image.specs.Library.{Name}
use Rattle.library_index.specs.Names.{among}
use Rattle.graph.specs.Nodes.{memb}
use Rattle.graph.specs.Graph.{Edge, eq_e, mem_e}

pub both_bools : {b : Bool} {A : Type 0} → b ≡ true → b ≡ false → A
both_bools p q = absurd (true≢false (sym p ∙ q))

-- ---- names and edges

pub same_refl : (u : Name) → same u u ≡ true
same_refl u = same_yes u u refl

pub eq_e_eq : (a b : Edge) → eq_e a b ≡ true → a ≡ b
eq_e_eq a b h = go (same a.from b.from) refl h
  where
    go : (t : Bool) → same a.from b.from ≡ t → cond t (same a.to b.to) false ≡ true → a ≡ b
    go true q h = let p = same_eq a.from b.from q in let r = same_eq a.to b.to h in λ i. record { from = p i; to = r i }
    go false q h = both_bools h refl

-- ---- among the names, among the edges

pub memb_mem : (u : Name) (ws : List Name) → memb u ws ≡ true → Memᴰ u ws
unfolding among
memb_mem u [] h = both_bools h refl
memb_mem u (w ∷ ws) h = go (same w u) refl (memb_mem u ws) h
  where
    go : (t : Bool) → same w u ≡ t → (memb u ws ≡ true → Memᴰ u ws) → (t || memb u ws) ≡ true → Memᴰ u (w ∷ ws)
    go true q ih h = Memᴰ.head (sym (same_eq w u q))
    go false q ih h = Memᴰ.tail (ih h)

or-true : (b : Bool) {c : Bool} → c ≡ true → (b || c) ≡ true
or-true true h = refl
or-true false h = h

pub mem_memb : {u : Name} {ws : List Name} → Memᴰ u ws → memb u ws ≡ true
unfolding among
mem_memb {u} (Memᴰ.head {x = w} e) = rw (← e, same_refl u)
mem_memb {u} (Memᴰ.tail {x = w} m) = or-true (same w u) (mem_memb m)

pub mem_e_mem : (e : Edge) (es : List Edge) → mem_e e es ≡ true → Memᴰ e es
unfolding mem_e
mem_e_mem e [] h = both_bools h refl
mem_e_mem e (x ∷ xs) h = go (eq_e x e) refl (mem_e_mem e xs) h
  where
    go : (t : Bool) → eq_e x e ≡ t → (mem_e e xs ≡ true → Memᴰ e xs) → cond t true (mem_e e xs) ≡ true → Memᴰ e (x ∷ xs)
    go true q ih h = Memᴰ.head (sym (eq_e_eq x e q))
    go false q ih h = Memᴰ.tail (ih h)

pub mem_mem_e : {e : Edge} {es : List Edge} → Memᴰ e es → mem_e e es ≡ true
unfolding mem_e
mem_mem_e {e} (Memᴰ.head {x = x} p) = rw (← p, same_refl e.from, same_refl e.to)
mem_mem_e {e} (Memᴰ.tail {x = x} m) = or (eq_e x e) (mem_mem_e m)
  where
    or : (b : Bool) {c : Bool} → c ≡ true → cond b true c ≡ true
    or true h = refl
    or false h = h

-- a name is merely in a list: then it is, by the test
pub memᴰ : {u : Name} {ws : List Name} → Mem u ws → Memᴰ u ws
memᴰ {u} {ws} m = memb_mem u ws (∥∥₁_elim m (Bool-set (memb u ws) true) mem_memb)

pub edgeᴰ : {e : Edge} {es : List Edge} → Mem e es → Memᴰ e es
edgeᴰ {e} {es} m = mem_e_mem e es (∥∥₁_elim m (Bool-set (mem_e e es) true) mem_mem_e)

-- two lists with the same members pass the same tests
pub memb_same : (u : Name) (ws xs : List Name) → (Memᴰ u ws → Memᴰ u xs) → (Memᴰ u xs → Memᴰ u ws) → memb u ws ≡ memb u xs
memb_same u ws xs f g = go (memb u ws) (memb u xs) refl refl
  where
    go : (b c : Bool) → memb u ws ≡ b → memb u xs ≡ c → memb u ws ≡ memb u xs
    go true true p q = p ∙ sym q
    go false false p q = p ∙ sym q
    go true false p q = both_bools (mem_memb (f (memb_mem u ws p))) q
    go false true p q = both_bools (mem_memb (g (memb_mem u xs q))) p

-- ---- membership in a list of lists

module _ {A B : Type 0} (f : A → List B) where
  pub each_in : {a : A} {b : B} {l : List A} → Memᴰ a l → Memᴰ b (f a) → Memᴰ b (flat_map f l)
  unfolding flat_map
  each_in {a} {b} (Memᴰ.head {x = x} {xs = xs} e) m = Memᴰ.append_left (flat_map f xs) (subst (λ c. Memᴰ b (f c)) e m)
  each_in {a} {b} (Memᴰ.tail {x = x} n) m = Memᴰ.append_right (f x) (each_in n m)

  pub each_out : {b : B} (l : List A) → Memᴰ b (flat_map f l) → (a : A) × Memᴰ a l × Memᴰ b (f a)
  unfolding flat_map
  each_out [] m = absurd (Memᴰ.not-nil m)
  each_out {b} (x ∷ xs) m =
      ⊎_elim (λ n. (x, Memᴰ.head refl, n)) (λ n. let r = each_out xs n in (r.0, Memᴰ.tail r.1, r.2)) (Memᴰ.append_cases (f x) m)

  pub flat_map_append : (s t : List A) → flat_map f (s ++ t) ≡ flat_map f s ++ flat_map f t
  unfolding flat_map
  flat_map_append [] t = refl
  flat_map_append (x ∷ s) t = ap (λ l. f x ++ l) (flat_map_append s t) ∙ sym (append_assoc (f x) (flat_map f s) (flat_map f t))

-- a test, or one that never passes; a test, or one that always does
pub or_not : (b : Bool) → cond b true false ≡ b
or_not true = refl
or_not false = refl

pub always : (b : Bool) → cond b true true ≡ true
always true = refl
always false = refl

pub or_left : (b c : Bool) → b ≡ true → (b || c) ≡ true
or_left true c h = refl
or_left false c h = both_bools h refl

pub or_right : (b c : Bool) → c ≡ true → (b || c) ≡ true
or_right true c h = refl
or_right false c h = h
