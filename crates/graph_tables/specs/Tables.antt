-- The node table: two words a node, place and length of its name, in the order of the nodes; and the edge table: two words an edge, from and to, in order of
-- adding. The rest of each is zero. A node's words are taken from the index of nodes.
-- Assumes nothing.
use Rattle.std.specs.Prelude.{ℕ, ◌+◌, ◌*◌, ◌≤◌, ◌<◌, ◌≡◌, List, [], ◌∷◌, length, get_or}
use Rattle.text_lent.specs.Padded.{zeros, padded}
use Rattle.library_form.specs.Form.{PlacedName}
use Rattle.library_index.specs.Names.{most, row_of, names_in}
use Rattle.graph.specs.Limits.{most_nodes}
use Rattle.graph.specs.Numbers.{Row}

unfoldable pub node_words : List PlacedName → List ℕ
node_words [] = []
node_words (w ∷ ws) = w.place ∷ w.size ∷ node_words ws

unfoldable pub row_words : List Row → List ℕ
row_words [] = []
row_words (r ∷ rs) = r.from ∷ r.to ∷ row_words rs

-- what the laying of n nodes asks: their names in the index, each place and length a word, and a node table with room for them that is zero
pub record Puts (tab : List ℕ) (n : ℕ) (nodes : List ℕ) : Type 0 where
  pub few : n ≤ most_nodes
  pub rows : row_of n ≤ length tab
  pub small : (i : ℕ) → i < n → get_or tab (row_of i) 0 + get_or tab (row_of i + 1) 0 ≤ most
  pub room : n * 2 ≤ length nodes
  pub cleared : nodes ≡ zeros (length nodes)

-- what it leaves: whatever bytes the index speaks of, the words of its names, and zeros
pub record Named (tab : List ℕ) (n : ℕ) (nodes after : List ℕ) : Type 0 where
  pub kept : length after ≡ length nodes
  pub words : (s : List ℕ) → after ≡ padded (length nodes) (node_words (names_in s tab n))
