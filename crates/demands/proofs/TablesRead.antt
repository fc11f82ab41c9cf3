-- What a caller reads from the words of the tables is what was laid: two words a row, one row behind the other.
-- Assumes nothing.
use Prim.Native.Nat.{ℕ, zero, suc, ◌+◌, ◌*◌}
use mathlib.Core.Path.{◌≡◌, refl, sym, ap, ap₂, ◌∙◌}
use mathlib.Core.List.{List, [], ◌∷◌, ◌++◌, map}
use native.Mathlib.Omega.{arith}
use lib.ListN.{length, get_or}
use Rattle.text_lent.specs.Padded.{padded}
use Rattle.library_form.specs.Form.{PlacedName}
use Rattle.library_image.specs.Library.{Name}
use Rattle.graph.specs.Numbers.{Row, row}
use Rattle.graph_edges.specs.Edges.{rows_in}
use Rattle.graph_tables.specs.Tables.{node_words, row_words}
use Rattle.demands.specs.Demand3.{name_of, table_names}

-- n rows from the words, by what f makes of two words
record Reader (B : Type 0) (f : ℕ → ℕ → B) (g : ℕ → List ℕ → List B) : Type 0 where
  none : (w : List ℕ) → g 0 w ≡ []
  more : (n : ℕ) (w : List ℕ) → g (suc n) w ≡ g n w ++ (f (get_or w (n * 2) 0) (get_or w (n * 2 + 1) 0) ∷ [])

module _ {B : Type 0} {f : ℕ → ℕ → B} {g : ℕ → List ℕ → List B} (r : Reader B f g) where
  front : (n u v : ℕ) (w : List ℕ) → g (suc n) (u ∷ v ∷ w) ≡ f u v ∷ g n w
  front zero u v w = r.more 0 (u ∷ v ∷ w) ∙ ap (λ l. l ++ (f u v ∷ [])) (r.none (u ∷ v ∷ w)) ∙ ap (λ l. f u v ∷ l) (sym (r.none w))
  front (suc n) u v w =
      let e : suc n * 2 ≡ suc (suc (n * 2)) = omega arith in
      let d : suc n * 2 + 1 ≡ suc (suc (n * 2 + 1)) = omega arith in
      r.more (suc n) (u ∷ v ∷ w)
      ∙ ap₂ (λ l x. l ++ (x ∷ [])) (front n u v w) (ap₂ (λ i j. f (get_or (u ∷ v ∷ w) i 0) (get_or (u ∷ v ∷ w) j 0)) e d)
      ∙ ap (λ l. f u v ∷ l) (sym (r.more n w))

edges_reader : Reader Row row rows_in
unfolding rows_in
edges_reader = record { none = λ w. refl; more = λ n w. refl }

pub edges_read : (k : ℕ) (rs : List Row) → rows_in (length rs) (padded k (row_words rs)) ≡ rs
unfolding padded row_words
edges_read k rs = go rs _
  where
    go : (rs : List Row) (z : List ℕ) → rows_in (length rs) (row_words rs ++ z) ≡ rs
    go [] z = edges_reader.none z
    go (x ∷ xs) z = front edges_reader (length xs) x.from x.to (row_words xs ++ z) ∙ ap (λ l. x ∷ l) (go xs z)

names_reader : (s : List ℕ) → Reader Name (λ p z. name_of s (record { place = p; size = z; text = [] })) (table_names s)
unfolding table_names
names_reader s = record { none = λ w. refl; more = λ n w. refl }

pub nodes_read : (s : List ℕ) (k : ℕ) (ws : List PlacedName) → table_names s (length ws) (padded k (node_words ws)) ≡ map (name_of s) ws
unfolding padded node_words
nodes_read s k ws = go ws _
  where
    go : (ws : List PlacedName) (z : List ℕ) → table_names s (length ws) (node_words ws ++ z) ≡ map (name_of s) ws
    go [] z = (names_reader s).none z
    go (w ∷ ws) z = front (names_reader s) (length ws) w.place w.size (node_words ws ++ z) ∙ ap (λ l. name_of s w ∷ l) (go ws z)
