-- What the walk does with one name: an edge between a text's node and a module that it imports or lists, the codes of a text's imports and includes, and an
-- include by its code up to the walk of its text.
-- Assumes nothing.
use Rattle.std.specs.Prelude.{ℕ, zero, suc, ◌+◌, ◌*◌, ◌≤◌, ◌<◌, ◌≡◌, Bool, cond, List, [], ◌∷◌, map, length, get_or, drop, Ok, Err, Result}
use Rattle.scan_rows.specs.Rows.{import_size, include_size, most_rows, imports_in, includes_in}
use Rattle.library_image.specs.Library.{Name}
use Rattle.text.specs.Refusal.{no_refusal}
use Rattle.graph.specs.Graph.{deepest, Out, built, refused}
use Rattle.graph.specs.Limits.{most_edges}
use Rattle.graph.specs.Numbers.{Row, Codes, import_code, given_code}
use Rattle.graph.specs.Once.{Marks, Went, halted, Below, include_once, below_once}
use Rattle.graph_edges.specs.Edges.{rows_in, Filed}
use Rattle.graph_marks.specs.Marks.{known_at, included_at}
use Rattle.graph_memory.specs.Memory.{memory_words}
use Rattle.graph_texts.specs.Texts.{import_names, include_names}
use Rattle.graph.specs.declared.NodeIndex.{NodeIndex}
use Rattle.graph_link.specs.declared.Stopped.{Stopped}

-- the words of a level: one for each include of a text
abbrev pub level_words : ℕ
level_words = 256

-- where the level of a text with so much depth left begins: above the memory and the levels of the texts below it
abbrev pub level_at : (left : ℕ) → ℕ
level_at left = memory_words + left * level_words

-- the words of the memory and of all levels, an entry's own text among them
abbrev pub all_levels : ℕ
all_levels = level_at (deepest + 1)

-- an edge between v and the module of a code: one that v lists, or one that v imports
abbrev pub either_code : (listed : Bool) → (v code : ℕ) → List Row → Out Row
either_code listed v code rs = cond listed (given_code most_edges v code rs) (import_code most_edges v code rs)

-- the codes of a text's rows, by its names; ns: the names of the nodes
unfoldable pub import_codes : (image : List ℕ) → (ns : List Name) → (store imports : List ℕ) → ℕ → List ℕ
import_codes s ns store imports m = map (known_at s ns) (import_names store (imports_in imports m))

unfoldable pub include_codes : (image : List ℕ) → (ns : List Name) → (store includes : List ℕ) → ℕ → List ℕ
include_codes s ns store includes k = map (included_at s ns) (include_names store (includes_in includes k))

-- ---- the words of a level

unfoldable pub words_from : List ℕ → (base count : ℕ) → List ℕ
words_from w base zero = []
words_from w base (suc n) = get_or w base 0 ∷ words_from w (base + 1) n

-- each is the code of an include: 0, 1, or two more than the number of a node
pub record Words (n : ℕ) (w : List ℕ) (base count : ℕ) : Type 0 where
  pub low : (j : ℕ) → j < count → get_or w (base + j) 0 < n + 2

-- ---- what the code asks

-- so many rows in their tables
pub record ImportRows (imports : List ℕ) (m : ℕ) : Type 0 where
  pub few : m ≤ most_rows
  pub room : most_rows * import_size ≤ length imports

pub record IncludeRows (includes : List ℕ) (k : ℕ) (levels : List ℕ) (base : ℕ) : Type 0 where
  pub few : k ≤ most_rows
  pub room : most_rows * include_size ≤ length includes
  pub level_room : base + level_words ≤ length levels

-- ---- what the code does

abbrev pub walk_seen : Result ℕ Stopped → List ℕ → Out Row
walk_seen (Ok n) edges = built (rows_in n edges)
walk_seen (Err w) edges = refused w.number w.scan

abbrev pub WalkFiled : Result ℕ Stopped → List ℕ → List ℕ → Type 0
WalkFiled (Ok n) edges chains = Filed edges chains n
WalkFiled (Err w) edges chains = Unit {0}

-- a walk that ends with this number, where no scan refuses
abbrev pub stopped_at : ℕ → Stopped
stopped_at number = record { number = number; scan = no_refusal }

-- edges that were added, as `expected` says; the tables are as long as before
pub record Drew (expected : Out Row) (edges chains : List ℕ) (r : Result ℕ Stopped) (edges₁ chains₁ : List ℕ) : Type 0 where
  pub seen : walk_seen r edges₁ ≡ expected
  pub filed : WalkFiled r edges₁ chains₁
  pub kept_edges : length edges₁ ≡ length edges
  pub kept_chains : length chains₁ ≡ length chains

-- the codes of a text's includes, saved from `base` on; the words under it and those of the levels above are as they were
pub record Saved (n : ℕ) (codes : List ℕ) (base count : ℕ) (levels after : List ℕ) : Type 0 where
  pub words : words_from after base count ≡ codes
  pub low : Words n after base count
  pub under : (j : ℕ) → j < base → get_or after j 0 ≡ get_or levels j 0
  pub above : drop (base + level_words) after ≡ drop (base + level_words) levels
  pub kept : length after ≡ length levels

-- one include, up to the walk of its text
abbrev pub step_seen : Below → Result (NodeIndex × ℕ) Stopped → List ℕ → Marks → Went
step_seen f (Ok (u, n)) edges m = f u.0 (rows_in n edges) m
step_seen f (Err w) edges m = halted w.number w.scan

pub record Descends (word left u count : ℕ) (edges chains : List ℕ) : Type 0 where
  pub node : u + 2 ≡ word
  pub deep : 0 < left
  pub filed : Filed edges chains count

abbrev pub StepReady : (word left : ℕ) → Result (NodeIndex × ℕ) Stopped → List ℕ → List ℕ → Type 0
StepReady word left (Ok (u, n)) edges chains = Descends word left u.0 n edges chains
StepReady word left (Err w) edges chains = Unit {0}

pub record Stepped (word left v : ℕ) (before : List Row) (edges chains : List ℕ) (r : Result (NodeIndex × ℕ) Stopped) (edges₁ chains₁ : List ℕ) : Type 0 where
  pub seen : (at : ℕ → Codes) (m : Marks)
      → step_seen (below_once at most_edges left) r edges₁ m ≡ include_once most_edges (below_once at most_edges left) v word before m
  pub ready : StepReady word left r edges₁ chains₁
  pub kept_edges : length edges₁ ≡ length edges
  pub kept_chains : length chains₁ ≡ length chains
