-- The answers of a scan and of a graph as words. Of a scan: number, keyword, position, import rows, include rows, stored bytes. Of a graph: number, entry,
-- scan number, scan keyword, scan position, place, nodes, edges. Those of a name and of metadata are in crate host_words (Words).
-- Assumes nothing.
use Rattle.std.specs.Prelude.{ℕ, ◌<◌, List, [], ◌∷◌, Ok, Err, Result}
use Rattle.yangparser.specs.declared.Rows.{Rows}
use Rattle.graph_build.specs.declared.GraphRefusal.{GraphRefusal}
use Rattle.text.specs.declared.Refusal.{Refusal}

-- ---- a scan

unfoldable pub number_of : Result Rows Refusal → ℕ
number_of (Ok r) = let record { imports = m; includes = n; used = u } = r in 0
number_of (Err r) = r.number

unfoldable pub answer_words : Result Rows Refusal → List ℕ
answer_words (Ok r) = let record { imports = m; includes = n; used = u } = r in 0 ∷ 0 ∷ 0 ∷ m ∷ n ∷ u ∷ []
answer_words (Err r) = r.number ∷ r.keyword ∷ r.at ∷ 0 ∷ 0 ∷ 0 ∷ []

-- counts and place are words
unfoldable pub WordsFit : Result Rows Refusal → Type 0
WordsFit (Ok r) = let record { imports = m; includes = n; used = u } = r in (m < 4294967296) × (n < 4294967296) × (u < 4294967296)
WordsFit (Err r) = r.at < 4294967296

-- ---- a graph

unfoldable pub graph_words : Result (ℕ × ℕ) GraphRefusal → List ℕ
graph_words (Ok (n, m)) = 0 ∷ 0 ∷ 0 ∷ 0 ∷ 0 ∷ 0 ∷ n ∷ m ∷ []
graph_words (Err r) = let record { number = number; entry = entry; scan = a; place = place } = r in number ∷ entry ∷ a.number ∷ a.keyword ∷ a.at ∷ place ∷ 0 ∷ 0 ∷ []

-- counts and places are words
unfoldable pub GraphFits : Result (ℕ × ℕ) GraphRefusal → Type 0
GraphFits (Ok (n, m)) = (n < 4294967296) × (m < 4294967296)
GraphFits (Err r) = let record { number = number; entry = entry; scan = a; place = place } = r in (entry < 4294967296) × (a.at < 4294967296) × (place < 4294967296)
