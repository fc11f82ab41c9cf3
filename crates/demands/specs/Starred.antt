-- The examples that document 01 marks with a star, as one list with one claim: the definitions compute each answer. D is the dependency scan, M the metadata
-- scan, G the graph.
-- Assumes nothing.
use Rattle.std.specs.Prelude.{Bool, true, false, ◌&&◌, List, [], ◌∷◌, ◌++◌, ℕ, T, length}
use Rattle.text.specs.Keyword.{same}
use Rattle.scan_metadata.specs.Metadata as Metadata
use Rattle.scan_metadata.specs.Metadata.{values_of, metadata}
use Rattle.yangparser.specs.Dependencies.{Scan, good, bad, dependencies}
use Rattle.library_bundle.specs.Reading.{longest_text}
use Rattle.graph.specs.Nodes.{pass_over}
use Rattle.graph_build.specs.Result.{Result}
use Rattle.yanglib.specs.ToGraph.{graphed}
use Rattle.graph_tables.specs.Tables.{node_words, row_words}
use Rattle.graph_tables.specs.Lengths.{Lengths}
use Rattle.host_words.specs.Words.{record_words}
use Rattle.nuvaleta.specs.Words.{graph_words}

-- D: a text, and number, keyword, position, import rows and include rows
-- M: a text, and number, keyword, position, mark, start and length of each of the six values, and the bytes stored
-- G: an image, a bundle, and number, entry, scan answer, place, counts of nodes and edges, and the words of both tables up to the zeros
pub data Example : Type 0 where
  D : List ℕ → List ℕ → Example
  M : List ℕ → List ℕ → Example
  G : (image bundle : List ℕ) → List ℕ → Example

unfoldable pub outcome : Scan → List ℕ
outcome (good d) = 0 ∷ 0 ∷ 0 ∷ length d.imports ∷ length d.includes ∷ []
outcome (bad r d) = r.number ∷ r.keyword ∷ r.at ∷ 0 ∷ 0 ∷ []

unfoldable pub described : Metadata.Scan → List ℕ
described (Metadata.good m) = 0 ∷ 0 ∷ 0 ∷ (record_words (values_of m) ++ m.bytes)
described (Metadata.bad r bs) = r.number ∷ r.keyword ∷ r.at ∷ []

-- just as much is lent as must be
unfoldable pub enough : List ℕ → Lengths
enough b = record { nodes = 2048; edges = 16384; store = longest_text b; imports = 1792; includes = 1280; levels = 4352 }

unfoldable pub drawn : Result → List ℕ
drawn x = graph_words x.answer ++ (node_words x.nodes ++ row_words x.rows)

unfoldable pub holds : Example → Bool
holds (D s xs) = same (outcome (dependencies false s false)) xs
holds (M s xs) = same (described (metadata false s false)) xs
holds (G s b xs) = same (drawn (graphed pass_over s b (enough b))) xs

unfoldable pub all : List Example → Bool
all [] = true
all (x ∷ xs) = holds x && all xs

-- the texts: nothing | import a{} | module import {} | import "a"+"b | nothing | submodule s{belongs-to m{prefix p;} import a{prefix b;}}
-- the bundles: m: include s;import b{prefix b;} s: import b{prefix b;} b: nothing | m: include s;
-- the second image: m without submodules in set 1, m with s in set 2
unfoldable pub starred : List Example
starred =
    D ([]) (0 ∷ 0 ∷ 0 ∷ 0 ∷ 0 ∷ [])
    ∷ D (105 ∷ 109 ∷ 112 ∷ 111 ∷ 114 ∷ 116 ∷ 32 ∷ 97 ∷ 123 ∷ 125 ∷ []) (7 ∷ 8 ∷ 10 ∷ 0 ∷ 0 ∷ [])
    ∷ D (109 ∷ 111 ∷ 100 ∷ 117 ∷ 108 ∷ 101 ∷ 32 ∷ 105 ∷ 109 ∷ 112 ∷ 111 ∷ 114 ∷ 116 ∷ 32 ∷ 123 ∷ 125 ∷ []) (4 ∷ 8 ∷ 14 ∷ 0 ∷ 0 ∷ [])
    ∷ D (105 ∷ 109 ∷ 112 ∷ 111 ∷ 114 ∷ 116 ∷ 32 ∷ 34 ∷ 97 ∷ 34 ∷ 43 ∷ 34 ∷ 98 ∷ []) (6 ∷ 8 ∷ 13 ∷ 0 ∷ 0 ∷ [])
    ∷ M ([]) (9 ∷ 0 ∷ 0 ∷ [])
    ∷ M (115 ∷ 117 ∷ 98 ∷ 109 ∷ 111 ∷ 100 ∷ 117 ∷ 108 ∷ 101 ∷ 32 ∷ 115 ∷ 123 ∷ 98 ∷ 101 ∷ 108 ∷ 111 ∷ 110 ∷ 103 ∷ 115 ∷ 45 ∷ 116 ∷ 111 ∷ 32 ∷ 109 ∷ 123 ∷ 112
    ∷ 114 ∷ 101 ∷ 102 ∷ 105 ∷ 120 ∷ 32 ∷ 112 ∷ 59 ∷ 125 ∷ 32 ∷ 105 ∷ 109 ∷ 112 ∷ 111 ∷ 114 ∷ 116 ∷ 32 ∷ 97 ∷ 123 ∷ 112 ∷ 114 ∷ 101 ∷ 102 ∷ 105 ∷ 120 ∷ 32
    ∷ 98 ∷ 59 ∷ 125 ∷ 125 ∷ [])
    (0 ∷ 0 ∷ 0 ∷ 1 ∷ 0 ∷ 1 ∷ 0 ∷ 0 ∷ 0 ∷ 1 ∷ 2 ∷ 1 ∷ 0 ∷ 0 ∷ 0 ∷ 1 ∷ 1 ∷ 1 ∷ 0 ∷ 0 ∷ 0 ∷ 115 ∷ 109 ∷ 98 ∷ [])
    ∷ G (1 ∷ 2 ∷ 1 ∷ 109 ∷ 1 ∷ 1 ∷ 115 ∷ 0 ∷ 0 ∷ 1 ∷ 98 ∷ 0 ∷ 0 ∷ 0 ∷ 0 ∷ [])
    (3 ∷ 1 ∷ 109 ∷ 29 ∷ 105 ∷ 110 ∷ 99 ∷ 108 ∷ 117 ∷ 100 ∷ 101 ∷ 32 ∷ 115 ∷ 59 ∷ 105 ∷ 109 ∷ 112 ∷ 111 ∷ 114 ∷ 116 ∷ 32 ∷ 98 ∷ 123 ∷ 112 ∷ 114 ∷ 101 ∷ 102
    ∷ 105 ∷ 120 ∷ 32 ∷ 98 ∷ 59 ∷ 125 ∷ 1 ∷ 115 ∷ 19 ∷ 105 ∷ 109 ∷ 112 ∷ 111 ∷ 114 ∷ 116 ∷ 32 ∷ 98 ∷ 123 ∷ 112 ∷ 114 ∷ 101 ∷ 102 ∷ 105 ∷ 120 ∷ 32 ∷ 98 ∷ 59
    ∷ 125 ∷ 1 ∷ 98 ∷ 0 ∷ [])
    (0 ∷ 0 ∷ 0 ∷ 0 ∷ 0 ∷ 0 ∷ 3 ∷ 3 ∷ 3 ∷ 1 ∷ 6 ∷ 1 ∷ 10 ∷ 1 ∷ 2 ∷ 0 ∷ 1 ∷ 0 ∷ 2 ∷ 1 ∷ [])
    ∷ G (2 ∷ 1 ∷ 1 ∷ 109 ∷ 0 ∷ 0 ∷ 0 ∷ 0 ∷ 1 ∷ 1 ∷ 109 ∷ 1 ∷ 1 ∷ 115 ∷ 0 ∷ 0 ∷ 0 ∷ [])
    (1 ∷ 1 ∷ 109 ∷ 10 ∷ 105 ∷ 110 ∷ 99 ∷ 108 ∷ 117 ∷ 100 ∷ 101 ∷ 32 ∷ 115 ∷ 59 ∷ [])
    (28 ∷ 1 ∷ 0 ∷ 0 ∷ 0 ∷ 0 ∷ 0 ∷ 0 ∷ [])
    ∷ []

-- the claim
abbrev pub StarredRight : Type 0
StarredRight = T (all starred)
