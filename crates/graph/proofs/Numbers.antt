-- Numbers instead of names: nothing is lost where the names are nodes, since a node's number is the place of its first occurrence.
-- Assumes nothing.
use Prim.Native.Nat.{ℕ, zero, suc, ◌<◌}
use mathlib.Core.Path.{◌≡◌, refl, sym, ap, ◌∙◌, subst}
use mathlib.Core.Logic.{⊎_elim}
use mathlib.Core.Bool.{Bool, true, false, cond}
use mathlib.Core.List.Memᴰ
use mathlib.Core.List.{List, [], ◌∷◌, map, Memᴰ}
use mathlib.Core.List.{Nodup}
use mathlib.Mathlib.Data.List.Nodup.{map_on, of_cons, not_mem}
use native.Mathlib.Nat.{le_of_suc-le-suc}
use native.Mathlib.Omega.{arith}
use lib.ListN.{length, get_or}
use lib.Dec.{eqb}
use borrow.Author.Tests.{eqb-true, eq-eqb}
use Rattle.text.specs.Keyword.{same}
use Rattle.text.proofs.KeywordLaws.{same_eq}
use Rattle.library_image.specs.Library.{Name}
use Rattle.graph.specs.Graph.{Edge, edge, mem_e}
use Rattle.graph.specs.Numbers.{number_of, Row, row, row_of, eq_r, mem_r}
use Rattle.graph.proofs.Tests.{both_bools, same_refl, mem_e_mem, mem_mem_e, edgeᴰ}

-- ---- a node and its number

-- u is not w, so it is behind it
behind : {u w : Name} {ws : List Name} → same w u ≡ false → Memᴰ u (w ∷ ws) → Memᴰ u ws
behind {u} {w} q m = ⊎_elim (λ p. both_bools (subst (λ x. same x u ≡ true) p (same_refl u)) q) (λ n. n) (Memᴰ.cases_cons m)

pub number_small : (ns : List Name) (u : Name) → Memᴰ u ns → number_of ns u < length ns
unfolding number_of
number_small [] u m = absurd (Memᴰ.not-nil m)
number_small (w ∷ ws) u m = go (same w u) refl (number_small ws u)
  where
    go : (b : Bool) → same w u ≡ b → (Memᴰ u ws → number_of ws u < length ws) → cond b 0 (suc (number_of ws u)) < suc (length ws)
    go true q ih = omega arith
    go false q ih = let k = ih (behind q m) in omega arith

pub number_at : (ns : List Name) (u d : Name) → Memᴰ u ns → get_or ns (number_of ns u) d ≡ u
unfolding number_of
number_at [] u d m = absurd (Memᴰ.not-nil m)
number_at (w ∷ ws) u d m = go (same w u) refl (number_at ws u d)
  where
    go : (b : Bool) → same w u ≡ b → (Memᴰ u ws → get_or ws (number_of ws u) d ≡ u) → get_or (w ∷ ws) (cond b 0 (suc (number_of ws u))) d ≡ u
    go true q ih = same_eq w u q
    go false q ih = ih (behind q m)

pub number_inj : (ns : List Name) (u v : Name) → Memᴰ u ns → Memᴰ v ns → number_of ns u ≡ number_of ns v → u ≡ v
number_inj ns u v m n h = sym (number_at ns u [] m) ∙ (ap (λ k. get_or ns k []) h ∙ number_at ns v [] n)

pub at_mem : (ns : List Name) (k : ℕ) (d : Name) → k < length ns → Memᴰ (get_or ns k d) ns
at_mem [] k d h = absurd (omega arith)
at_mem (w ∷ ws) zero d h = Memᴰ.head refl
at_mem (w ∷ ws) (suc k) d h = Memᴰ.tail (at_mem ws k d (le_of_suc-le-suc h))

-- where names differ, each place is the number of the name that stands there
pub number_of_at : (ns : List Name) (k : ℕ) (d : Name) → Nodup ns → k < length ns → number_of ns (get_or ns k d) ≡ k
unfolding number_of
number_of_at [] k d o h = absurd (omega arith)
number_of_at (w ∷ ws) zero d o h = rw (same_refl w)
number_of_at (w ∷ ws) (suc k) d o h =
    let l : k < length ws = le_of_suc-le-suc h in
    go (same w (get_or ws k d)) refl (number_of_at ws k d (of_cons o) l) (at_mem ws k d l)
  where
    go : (b : Bool) → same w (get_or ws k d) ≡ b → number_of ws (get_or ws k d) ≡ k → Memᴰ (get_or ws k d) ws
        → cond b 0 (suc (number_of ws (get_or ws k d))) ≡ suc k
    go true q ih m = absurd (not_mem o ∣ Memᴰ.cast (same_eq w (get_or ws k d) q) m ∣₁)
    go false q ih m = ap suc ih

-- ---- an edge and its row

abbrev pub Ends : List Name → Edge → Type 0
Ends ns e = Memᴰ e.from ns × Memᴰ e.to ns

row_inj : (ns : List Name) (e f : Edge) → Ends ns e → Ends ns f → row_of ns e ≡ row_of ns f → e ≡ f
row_inj ns e f j k h =
    let p = number_inj ns e.from f.from j.0 k.0 (ap (λ (r : Row). r.from) h) in
    let q = number_inj ns e.to f.to j.1 k.1 (ap (λ (r : Row). r.to) h) in
    λ i. record { from = p i; to = q i }

pub row_mem : (rs : List Row) (r : Row) → mem_r r rs ≡ true → Memᴰ r rs
unfolding mem_r
row_mem [] r h = both_bools h refl
row_mem (x ∷ rs) r h = go (eqb x.from r.from) (eqb x.to r.to) refl refl (row_mem rs r) h
  where
    go : (b c : Bool) → eqb x.from r.from ≡ b → eqb x.to r.to ≡ c → (mem_r r rs ≡ true → Memᴰ r rs)
        → cond (cond b c false) true (mem_r r rs) ≡ true → Memᴰ r (x ∷ rs)
    go true true p q ih h =
        let a = eqb-true x.from r.from p in
        let b = eqb-true x.to r.to q in
        let e : x ≡ r = λ i. record { from = a i; to = b i } in
        Memᴰ.head (sym e)
    go true false p q ih h = Memᴰ.tail (ih h)
    go false c p q ih h = Memᴰ.tail (ih h)

pub mem_row : {r : Row} {rs : List Row} → Memᴰ r rs → mem_r r rs ≡ true
unfolding mem_r
mem_row {r} (Memᴰ.head {x = x} p) = rw (← p, eq-eqb r.from r.from refl, eq-eqb r.to r.to refl)
mem_row {r} (Memᴰ.tail {x = x} m) = go (eq_r x r) (mem_row m)
  where
    go : (b : Bool) {c : Bool} → c ≡ true → cond b true c ≡ true
    go true h = refl
    go false h = h

module _ (ns : List Name) (es : List Edge) (ends : (e : Edge) → Memᴰ e es → Ends ns e) where
  pub small_rows : (r : Row) → Memᴰ r (map (row_of ns) es) → (r.from < length ns) × (r.to < length ns)
  small_rows r m =
      let p = Memᴰ.of_map (row_of ns) es m in
      let k = ends p.0 p.1 in
      subst (λ (x : Row). (x.from < length ns) × (x.to < length ns)) p.2 (number_small ns p.0.from k.0, number_small ns p.0.to k.1)

  pub rows_differ : Nodup es → Nodup (map (row_of ns) es)
  rows_differ d = map_on (λ e m f n h. row_inj ns e f (ends e (edgeᴰ m)) (ends f (edgeᴰ n)) h) d

  pub row_edge : {u v : Name} → Memᴰ u ns → Memᴰ v ns → Memᴰ (row (number_of ns u) (number_of ns v)) (map (row_of ns) es)
      → Memᴰ (edge u v) es
  row_edge {u} {v} j k m =
      let p = Memᴰ.of_map (row_of ns) es m in
      Memᴰ.cast (sym (row_inj ns p.0 (edge u v) (ends p.0 p.1) (j, k) p.2)) p.1

  -- the test of a row among the rows is the test of the edge among the edges
  pub present : (e : Edge) → Ends ns e → mem_r (row_of ns e) (map (row_of ns) es) ≡ mem_e e es
  present e k = go (mem_r (row_of ns e) (map (row_of ns) es)) (mem_e e es) refl refl
    where
      go : (b c : Bool) → mem_r (row_of ns e) (map (row_of ns) es) ≡ b → mem_e e es ≡ c → mem_r (row_of ns e) (map (row_of ns) es) ≡ mem_e e es
      go true true p q = p ∙ sym q
      go false false p q = p ∙ sym q
      go true false p q = both_bools (mem_mem_e (row_edge k.0 k.1 (row_mem (map (row_of ns) es) (row_of ns e) p))) q
      go false true p q = both_bools (mem_row (Memᴰ.map (row_of ns) (mem_e_mem e es q))) p
