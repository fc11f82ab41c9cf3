-- Two words a row, laid one after another from the front of a table that is zero behind them: the table is those words and zeros.
-- Assumes nothing.
use mathlib.Core.Path.{◌≡◌, refl, sym, ap, ap₂, ◌∙◌}
use mathlib.Core.List.{List, [], ◌∷◌, ◌++◌, append_assoc}
use Prim.Native.Nat.{ℕ, zero, suc, ◌+◌, ◌-◌, ◌*◌, ◌≤◌, ◌<◌}
use native.Mathlib.Numerals.{add-one}
use native.Mathlib.Omega.{arith}
use lib.ListN.{length, get_or, set, take, drop, length-set, length-drop, length-replicate, take-append-drop}
use lib.Seq.{ext_get_or, get_or-drop, get_or-set_other, length-take-le, take-suc, take-suc-set}
use mir.Syntax.{w32}
use mir.Val.{Fits}
use Rattle.text_lent.specs.Padded.{zeros, padded}
use Rattle.library_form.specs.Form.{PlacedName}
use Rattle.library_index.specs.Names.{row_of, row_words as nameWords, name_in_row, names_in}
use Rattle.graph.specs.Numbers.{Row}
use Rattle.graph_edges.specs.Edges.{row_at, rows_in, Blank, Filed}
use Rattle.text_lent.proofs.Zeros.{zeros_zero}
use Rattle.graph_tables.specs.Tables.{node_words, row_words, Puts, Named}

-- ---- words, then zeros

blank_rest : (k : ℕ) (w : List ℕ) → Blank k w → drop k w ≡ zeros (length w - k)
blank_rest k w b =
    ext_get_or 0 (drop k w) (zeros (length w - k)) (length-drop k w ∙ sym (length-replicate {A = ℕ} (length w - k) 0))
    (λ i h. get_or-drop k w i 0 ∙ (b.zeros (k + i) (omega arith) ∙ sym (zeros_zero (length w - k) i)))

padded_from : (w xs : List ℕ) (k : ℕ) → k ≤ length w → take k w ≡ xs → Blank k w → w ≡ padded (length w) xs
unfolding padded
padded_from w xs k h e b =
    let n : k ≡ length xs = sym (length-take-le k w h) ∙ ap length e in
    sym (take-append-drop k w) ∙ ap₂ (λ (x y : List ℕ). x ++ y) e (blank_rest k w b ∙ ap (λ (j : ℕ). zeros (length w - j)) n)

-- ---- two words more

two_more : (w : List ℕ) (i : ℕ) → i * 2 + 1 < length w → take (suc i * 2) w ≡ take (i * 2) w ++ (get_or w (i * 2) 0 ∷ get_or w (i * 2 + 1) 0 ∷ [])
two_more w i h =
    let e : suc i * 2 ≡ suc (i * 2 + 1) = omega arith in
    let f : i * 2 + 1 ≡ suc (i * 2) = omega arith in
    let g : i * 2 < length w = omega arith in
    ap (λ (k : ℕ). take k w) e
    ∙ (take-suc w (i * 2 + 1) 0 h
    ∙ (ap (λ (x : List ℕ). x ++ (get_or w (i * 2 + 1) 0 ∷ [])) (ap (λ (k : ℕ). take k w) f ∙ take-suc w (i * 2) 0 g)
    ∙ append_assoc (take (i * 2) w) (get_or w (i * 2) 0 ∷ []) (get_or w (i * 2 + 1) 0 ∷ [])))

two_set : (w : List ℕ) (i a b : ℕ) → i * 2 + 1 < length w
    → take ((i + 1) * 2) (set (set w (i * 2) a) (i * 2 + 1) b) ≡ take (i * 2) w ++ (a ∷ b ∷ [])
two_set w i a b h =
    let e : (i + 1) * 2 ≡ suc (i * 2 + 1) = omega arith in
    let f : i * 2 + 1 ≡ suc (i * 2) = omega arith in
    let g : i * 2 < length w = omega arith in
    let l : i * 2 + 1 < length (set w (i * 2) a) = rw length-set h in
    ap (λ (k : ℕ). take k (set (set w (i * 2) a) (i * 2 + 1) b)) e
    ∙ (take-suc-set (set w (i * 2) a) (i * 2 + 1) b l
    ∙ (ap (λ (x : List ℕ). x ++ (b ∷ [])) (ap (λ (k : ℕ). take k (set w (i * 2) a)) f ∙ take-suc-set w (i * 2) a g)
    ∙ append_assoc (take (i * 2) w) (a ∷ []) (b ∷ [])))

-- ---- the edges

rows_snoc : (rs : List Row) (r : Row) → row_words (rs ++ (r ∷ [])) ≡ row_words rs ++ (r.from ∷ r.to ∷ [])
unfolding row_words
rows_snoc [] r = refl
rows_snoc (q ∷ rs) r = ap (λ (x : List ℕ). q.from ∷ q.to ∷ x) (rows_snoc rs r)

rows_taken : (m : ℕ) (w : List ℕ) → m * 2 ≤ length w → take (m * 2) w ≡ row_words (rows_in m w)
unfolding rows_in row_words
rows_taken zero w h = refl
rows_taken (suc m) w h =
    two_more w m (omega arith)
    ∙ (ap (λ (x : List ℕ). x ++ (get_or w (m * 2) 0 ∷ get_or w (m * 2 + 1) 0 ∷ [])) (rows_taken m w (omega arith)) ∙ sym (rows_snoc (rows_in m w) (row_at w m)))

pub rows_table : (edges chains : List ℕ) (m : ℕ) → Filed edges chains m → edges ≡ padded (length edges) (row_words (rows_in m edges))
rows_table edges chains m g =
    let h : m * 2 ≤ length edges = omega (arith, g.few, g.long) in
    padded_from edges (row_words (rows_in m edges)) (m * 2) h (rows_taken m edges h) g.blank

-- ---- the nodes

nodes_snoc : (ws : List PlacedName) (w : PlacedName) → node_words (ws ++ (w ∷ [])) ≡ node_words ws ++ (w.place ∷ w.size ∷ [])
unfolding node_words
nodes_snoc [] w = refl
nodes_snoc (v ∷ ws) w = ap (λ (x : List ℕ). v.place ∷ v.size ∷ x) (nodes_snoc ws w)

names_more : (s tab : List ℕ) (i : ℕ)
    → node_words (names_in s tab (i + 1)) ≡ node_words (names_in s tab i) ++ (get_or tab (row_of i) 0 ∷ get_or tab (row_of i + 1) 0 ∷ [])
unfolding names_in
names_more s tab i = ap (λ (k : ℕ). node_words (names_in s tab k)) (add-one i) ∙ nodes_snoc (names_in s tab i) (name_in_row s tab i)

-- what the loop keeps: i nodes are laid
pub record Naming (tab : List ℕ) (n : ℕ) (before nodes : List ℕ) (i : ℕ) : Type 0 where
  pub asked : Puts tab n before
  pub some : i ≤ n
  pub long : length nodes ≡ length before
  pub sofar : (s : List ℕ) → take (i * 2) nodes ≡ node_words (names_in s tab i)
  pub blank : Blank (i * 2) nodes

pub naming_none : (tab : List ℕ) (n : ℕ) (nodes : List ℕ) → Puts tab n nodes → Naming tab n nodes nodes 0
unfolding names_in node_words
naming_none tab n nodes p = record {
  asked = p;
  some = omega arith;
  long = refl;
  sofar = λ s. refl;
  blank = record { zeros = λ j h. ap (λ (w : List ℕ). get_or w j 0) p.cleared ∙ zeros_zero (length nodes) j };
}

module _ (tab : List ℕ) (n : ℕ) (before nodes : List ℕ) (i : ℕ) (g : Naming tab n before nodes i) where
  pub naming_all : n ≤ i → Named tab n before nodes
  naming_all h =
      let e : i ≡ n = omega (arith, g.some) in
      let r : i * 2 ≤ length nodes = omega (arith, g.long, g.asked.room, g.some) in
      record {
        kept = g.long;
        words = λ s. padded_from nodes (node_words (names_in s tab i)) (i * 2) r (g.sofar s) g.blank
            ∙ ap₂ (λ (m k : ℕ). padded m (node_words (names_in s tab k))) g.long e;
      }

  module _ (l : i < n) where
    pub name_row : row_of i + nameWords ≤ length tab
    name_row = omega (arith, g.asked.rows)

    pub place_fits : {p : ℕ} → p ≡ get_or tab (row_of i) 0 → Fits w32 p
    place_fits e = record { fits = omega (arith, g.asked.small i l) }

    pub size_fits : {p : ℕ} → p ≡ get_or tab (row_of i + 1) 0 → Fits w32 p
    size_fits e = record { fits = omega (arith, g.asked.small i l) }

    pub first_word : i * 2 < length nodes
    first_word = omega (arith, g.long, g.asked.room)

    second_word : i * 2 + 1 < length nodes
    second_word = omega (arith, g.long, g.asked.room)

    pub second_set : (a : ℕ) → i * 2 + 1 < length (set nodes (i * 2) a)
    second_set a = rw length-set second_word

    pub naming_more : {p q : ℕ} → p ≡ get_or tab (row_of i) 0 → q ≡ get_or tab (row_of i + 1) 0
        → Naming tab n before (set (set nodes (i * 2) p) (i * 2 + 1) q) (i + 1)
    naming_more {p} {q} e f = record {
      asked = g.asked;
      some = omega arith;
      long = length-set (set nodes (i * 2) p) (i * 2 + 1) q ∙ (length-set nodes (i * 2) p ∙ g.long);
      sofar = λ s. two_set nodes i p q second_word
          ∙ (ap₂ (λ (x y : List ℕ). x ++ y) (g.sofar s) (ap₂ (λ (a b : ℕ). a ∷ b ∷ []) e f) ∙ sym (names_more s tab i));
      blank = record {
        zeros = λ j h. get_or-set_other (set nodes (i * 2) p) (i * 2 + 1) j q 0 (λ z. omega arith)
            ∙ (get_or-set_other nodes (i * 2) j p 0 (λ z. omega arith) ∙ g.blank.zeros j (omega arith));
      };
    }
