-- The graph of an image and a bundle, in the order of refusals: first 20, 21, 22, 30, then walk order. Output: node table, 2,048 words (place of the
-- name's first byte, length), edge table, 16,384 words (from, to), in order of adding; rest zero. A refusal leaves all tables and counts zero. Scratch:
-- a value store as long as the longest text, one pair of scan tables, 4,352 words; zero after every call.
-- Assumes nothing.
use Rattle.std.specs.Prelude.{ℕ, ◌≤◌, ◌≡◌, cond, List, length, Ok, Err, Result as Answer}
use Rattle.text_lent.specs.Padded.{zeros, padded}
use Rattle.library_form.specs.Form.{Ans, good, bad}
use Rattle.library_image.specs.Image.{image_broken, image_at}
use Rattle.library_bundle.specs.Bundle.{bundle_broken, bundle_at}
use Rattle.library_bundle.specs.Reading.{longest_text}
use Rattle.graph.specs.Nodes.{Mode}
use Rattle.text.specs.Refusal.{no_refusal}
use Rattle.graph_tables.specs.Lengths.{Lengths, lengths_of, is_too_short}
use Rattle.graph_tables.specs.Tables.{node_words, row_words}
use Rattle.graph_build.specs.Result.{Result, refusal, draw_result}
use Rattle.graph_build.specs.declared.GraphRefusal.{GraphRefusal}

-- a table or scratch too short
abbrev pub lent_too_short : ℕ
lent_too_short = 22

-- ---- the answer, the nodes and the edges

-- f of the place where a reading is wrong, else b
abbrev pub on_read : {A B : Type 0} → Ans A → (ℕ → B) → B → B
on_read (good a n) f b = b
on_read (bad p) f b = f p

-- for an image s, a bundle b and the lengths lent
unfoldable pub graphed : Mode → (image bundle : List ℕ) → Lengths → Result
graphed mode s b k =
    on_read (image_at s) (refusal image_broken 0 no_refusal)
    (on_read (bundle_at b) (refusal bundle_broken 0 no_refusal)
    (cond (is_too_short (longest_text b) k) (refusal lent_too_short 0 no_refusal 0) (draw_result mode s b)))

-- how large an answer is at the most
unfoldable pub AnswerFits : Answer (ℕ × ℕ) GraphRefusal → Type 0
AnswerFits (Ok (n, m)) = (n ≤ 1024) × (m ≤ 8192)
AnswerFits (Err r) = let record { number = number; entry = entry; scan = a; place = place } = r in (entry ≤ 65536) × (a.at ≤ 16777216) × (place ≤ 16777216)

-- ---- the tables

-- what a call answers and leaves: n, e, d, f, g, l are the tables and scratch at entry, n₁ .. l₁ at exit
pub record Leaves (x : Result) (n e d f g l : List ℕ) (r : Answer (ℕ × ℕ) GraphRefusal) (n₁ e₁ d₁ f₁ g₁ l₁ : List ℕ) : Type 0 where
  pub answer : r ≡ x.answer
  pub nodes : n₁ ≡ padded (length n) (node_words x.nodes)
  pub edges : e₁ ≡ padded (length e) (row_words x.rows)
  pub store : d₁ ≡ zeros (length d)
  pub imports : f₁ ≡ zeros (length f)
  pub includes : g₁ ≡ zeros (length g)
  pub levels : l₁ ≡ zeros (length l)

abbrev pub Graphs : Mode → (image bundle n e d f g l : List ℕ) → Answer (ℕ × ℕ) GraphRefusal → (n₁ e₁ d₁ f₁ g₁ l₁ : List ℕ) → Type 0
Graphs mode s b n e d f g l r n₁ e₁ d₁ f₁ g₁ l₁ = Leaves (graphed mode s b (lengths_of n e d f g l)) n e d f g l r n₁ e₁ d₁ f₁ g₁ l₁
