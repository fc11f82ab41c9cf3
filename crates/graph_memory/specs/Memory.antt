-- What the walk remembers of each text, as words at the start of `levels`: two for each node, first 0 not read, 1 being walked, 2 walked, then how many
-- includes lie below it.
-- Assumes nothing.
use Rattle.std.specs.Prelude.{ℕ, ◌+◌, ◌*◌, ◌≡◌, cond, List, eqb, leb, ltb, length, get_or, drop}
use Rattle.graph.specs.Limits.{most_nodes}
use Rattle.graph.specs.Once.{Mark, unread, reading, below, Marks, mark}
use Rattle.graph_memory.specs.declared.Recalled.{Recalled}
use Rattle.graph_memory.specs.declared.Recalled.TheVariants.{Unread, Known, TooDeep}

abbrev pub memory_words : ℕ
memory_words = most_nodes * 2

abbrev pub mark_of : (state height : ℕ) → Mark
mark_of state h = cond (eqb state 0) unread (cond (eqb state 1) reading (below h))

abbrev pub height_in : List ℕ → ℕ → ℕ
height_in levels u = get_or levels (u * 2 + 1) 0

-- of what is no node nothing is remembered
unfoldable pub remembered : List ℕ → Marks
remembered levels u = cond (ltb u most_nodes) (mark_of (get_or levels (u * 2) 0) (height_in levels u)) unread

-- a text that is met with so much depth left, by its mark
abbrev pub recalled : (left : ℕ) → Mark → Recalled
recalled left unread = Unread
recalled left reading = TooDeep
recalled left (below h) = cond (leb h left) Known TooDeep

-- a text that was read stays so: no text becomes one that is not read yet
pub record StaysRead (levels after : List ℕ) : Type 0 where
  pub unread_before : (u : ℕ) → remembered after u ≡ unread → remembered levels u ≡ unread

-- the mark of v is x now; those of the others, and the words above the memory, are as they were
pub record Remembers (levels : List ℕ) (v : ℕ) (x : Mark) (after : List ℕ) : Type 0 where
  pub marks : remembered after ≡ mark (remembered levels) v x
  pub above : drop memory_words after ≡ drop memory_words levels
  pub long : length after ≡ length levels
