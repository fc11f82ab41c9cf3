-- One text of a walk: what is asked of the tables, and what is left when the text was read, its imports are linked and its includes saved.
-- Assumes nothing.
use Rattle.std.specs.Prelude.{ℕ, ◌+◌, ◌≤◌, ◌≡◌, true, List, length, drop, Ok, Some, None, Err, Result, Option}
use Rattle.library_image.specs.Library.{Name}
use Rattle.library_form.specs.Form.{Ans, good, bad}
use Rattle.library_index.specs.Names.{names_in, Indexed}
use Rattle.library_bundle.specs.Bundle.{words, bundle_at}
use Rattle.library_bundle.specs.Reading.{texts_or, longest_text}
use Rattle.graph.specs.Graph.{World, world_over, deepest}
use Rattle.graph.specs.Limits.{most_edges}
use Rattle.graph.specs.Numbers.{Row, Codes, codes_at}
use Rattle.graph.specs.Once.{Went, walked, halted, then_w, Below, includes_once, ended, visit_once, met}
use Rattle.graph_edges.specs.Edges.{rows_in, Filed}
use Rattle.graph_nodes.specs.Adding.{plain_at}
use Rattle.graph_marks.specs.Marks.{is_good}
use Rattle.graph_memory.specs.Memory.{height_in, remembered, StaysRead}
use Rattle.graph_texts.specs.Texts.{text_of, ScanRoom}
use Rattle.graph_link.specs.Link.{level_words, level_at, words_from, Words}
use Rattle.graph_link.specs.declared.Stopped.{Stopped}

-- what the walk asks of an image and a bundle, where the nodes have these names; and what there is under the name of a node
unfoldable pub world_of : (image bundle : List ℕ) → (ns : List Name) → World
world_of s b ns = world_over ns (text_of b) (plain_at s)

unfoldable pub codes_here : (image bundle : List ℕ) → (ns : List Name) → ℕ → Codes
codes_here s b ns v = codes_at (world_of s b ns) ns v

-- ---- what the code asks

-- where an answer ends
abbrev pub end_of : {A : Type 0} → Ans A → ℕ
end_of (good a n) = n
end_of (bad p) = p

-- a table that holds the names of a bundle that is good, as tests and numbers
pub record HoldsTexts (b tab : List ℕ) (n : ℕ) : Type 0 where
  pub read : is_good (bundle_at b) ≡ true
  pub end : end_of (bundle_at b) ≡ length b
  pub indexed : Indexed b tab n
  pub names : names_in b tab n ≡ words (texts_or (bundle_at b))

-- the tables of a text with so much depth left, and of all that it includes; count: the edges so far
pub record Room (bundle store imports includes levels edges chains : List ℕ) (left count : ℕ) : Type 0 where
  pub scan : ScanRoom (longest_text bundle) store imports includes
  pub deep : left ≤ deepest
  pub level_room : level_at (left + 1) ≤ length levels
  pub edges_so_far : Filed edges chains count

-- ---- what the code does

-- scratch is as long as before
pub record AsLong (store imports includes levels store₁ imports₁ includes₁ levels₁ : List ℕ) : Type 0 where
  pub store_long : length store₁ ≡ length store
  pub imports_long : length imports₁ ≡ length imports
  pub includes_long : length includes₁ ≡ length includes
  pub levels_long : length levels₁ ≡ length levels

-- the same; a text that was read stays so; of the levels, those above are as they were
pub record Kept (above : ℕ) (store imports includes levels store₁ imports₁ includes₁ levels₁ : List ℕ) : Type 0 where
  pub long : AsLong store imports includes levels store₁ imports₁ includes₁ levels₁
  pub stays_read : StaysRead levels levels₁
  pub above_kept : drop above levels₁ ≡ drop above levels

-- what is left to do: nothing, if the text is known; its includes, when it was read and its imports are linked. count: the edges before
abbrev pub visit_seen : Below → (left v count : ℕ) → Result (Option (ℕ × ℕ)) Stopped → (levels edges : List ℕ) → Went
visit_seen f left v count (Err w) levels edges = halted w.number w.scan
visit_seen f left v count (Ok None) levels edges = walked (rows_in count edges) (remembered levels) (height_in levels v)
visit_seen f left v count (Ok (Some (k, n))) levels edges =
    then_w (includes_once most_edges f v (words_from levels (level_at left) k) (rows_in n edges) (remembered levels) 0) (ended v)

-- a known text has no more includes below it than there is depth left
pub record Recalls (left v count : ℕ) (levels edges chains : List ℕ) : Type 0 where
  pub filed : Filed edges chains count
  pub low : height_in levels v ≤ left

pub record Ready (n base : ℕ) (k count : ℕ) (levels edges chains : List ℕ) : Type 0 where
  pub filed : Filed edges chains count
  pub few : k ≤ level_words
  pub low : Words n levels base k

abbrev pub VisitReady : (n left v count : ℕ) → Result (Option (ℕ × ℕ)) Stopped → List ℕ → List ℕ → List ℕ → Type 0
VisitReady n left v count (Err w) levels edges chains = Unit {0}
VisitReady n left v count (Ok None) levels edges chains = Recalls left v count levels edges chains
VisitReady n left v count (Ok (Some (k, m))) levels edges chains = Ready n (level_at left) k m levels edges chains

-- a text is known; or it was read, its imports are linked and its includes saved. expected: all that it comes to, by what becomes of included texts
pub record Called (expected : Below → Went) (n left v count : ℕ) (edges chains : List ℕ) (r : Result (Option (ℕ × ℕ)) Stopped)
    (levels₁ edges₁ chains₁ : List ℕ) : Type 0 where
  pub seen : (f : Below) → visit_seen f left v count r levels₁ edges₁ ≡ expected f
  pub ready : VisitReady n left v count r levels₁ edges₁ chains₁
  pub kept_edges : length edges₁ ≡ length edges
  pub kept_chains : length chains₁ ≡ length chains

-- a text that is read, and one that is met, whether it was read before or not
unfoldable pub visited : (at : ℕ → Codes) → (absent v : ℕ) → List Row → (levels : List ℕ) → Below → Went
visited at absent v rs levels f = visit_once most_edges f absent v (at v) rs (remembered levels)

unfoldable pub met_here : (at : ℕ → Codes) → (left absent v : ℕ) → List Row → (levels : List ℕ) → Below → Went
met_here at left absent v rs levels f = met (remembered levels v) left rs (remembered levels) (visited at absent v rs levels f)
