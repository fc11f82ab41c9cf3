-- Worked examples of import and include statements, one list and one claim: each definition computes what stands beside the text.
-- Assumes nothing.
use Rattle.std.specs.Prelude.{Ok, Err, Result}
use mathlib.Core.Bool.{Bool, true, false, ◌&&◌}
use mathlib.Core.List.{List, [], ◌∷◌}
use Prim.Native.Nat.{ℕ}
use lib.Dec.{eqb, T}
use Rattle.text.specs.Class.{class_of}
use Rattle.text.specs.Due.{due_number, due_here, due_at}
use Rattle.text.specs.Refusal.{no_value, other_byte, end_of_text, cut_short, is_high, refused_at}
use Rattle.text.specs.Keyword.{starts_ident, ends_keyword, same, part, keyword_at, match_at}
use Rattle.text.specs.Scan.{in_ident, in_run, span, run_end, pair_at, closing, block_end, comment_end, after_white, gap_turn, gap_end}
use Rattle.text.specs.Turns.{turns}
use Rattle.text.specs.Words.{prefix_keyword, import_keyword, include_keyword, revision_date_keyword}
use Rattle.text.specs.declared.Refusal.{Refusal}
use Rattle.text_value.specs.Argument.{argument_of, breaks_off, argument_at, after_due, after_argument, line_at}
use Rattle.text_string.specs.Str.{is_quote, escaped, escapes, str_end, str_bytes, closed_by, str_at}
use Rattle.text_value.specs.Value.{starts_name, added_by, after_plus, after_gap, more_at, add_to, join_turn, joined_with, joined, of_string, value_here, value_at}
use Rattle.text_value.specs.Value.{value_bytes, closed_more, closed_turn, closed_from, closed_string, closed_here, closed_at}
use Rattle.text_past.specs.Past.{broke_off, past_of}
use Rattle.text_statement.specs.Statement.{closes, quoted_len, quoted_end, at_semicolon, at_close, part_of, part_at, of_part, statement_turn, statement_from, at_other}
use Rattle.text_statement.specs.Statement.{statement_at, past_statement}
use Rattle.scan_rows.specs.Rows.{import_words, include_words}
use Rattle.scan_block.specs.Block.{open_ended, or_line, line_kind, kept, with_value, with_skipped, after_kind, inside_here, inside_at, after_inside, block_turn}
use Rattle.scan_block.specs.Block.{block_from, block_at}
use Rattle.scan_imports.specs.Statement.{no_prefix, of_body, import_of, with_name, after_name, import_at, include_of, plain_of, block_of, open_or_plain, after_value}
use Rattle.scan_imports.specs.Statement.{include_at}
use Rattle.text.specs.declared.Cursor.{Cursor}
use Rattle.scan_rows.specs.declared.YangImport.{YangImport}
use Rattle.scan_rows.specs.declared.YangInclude.{YangInclude}

-- an import or include at the text's start: the place after it, the bytes stored and the words of its row; or the number, keyword and place
-- of its refusal, in the whole-text mode too
data Example : Type 0 where
  imports : List ℕ → ℕ → List ℕ → List ℕ → Example
  no_import : List ℕ → ℕ → ℕ → ℕ → Example
  includes : List ℕ → ℕ → List ℕ → List ℕ → Example
  no_include : List ℕ → ℕ → ℕ → ℕ → Example
  no_whole_import : List ℕ → ℕ → ℕ → ℕ → Example
  no_whole_include : List ℕ → ℕ → ℕ → ℕ → Example

is_refusal : ℕ → ℕ → ℕ → Refusal → Bool
is_refusal n k at r = eqb r.number n && eqb r.keyword k && eqb r.at at

is_import : ℕ → List ℕ → Result (Cursor × ℕ × YangImport) Refusal → Bool
is_import at ws (Ok (c, n, i)) = eqb c.at at && same (import_words i) ws
is_import at ws (Err r) = false

is_no_import : ℕ → ℕ → ℕ → Result (Cursor × ℕ × YangImport) Refusal → Bool
is_no_import n k at (Ok (c, m, i)) = false
is_no_import n k at (Err r) = is_refusal n k at r

is_include : ℕ → List ℕ → Result (Cursor × ℕ × YangInclude) Refusal → Bool
is_include at ws (Ok (c, n, i)) = eqb c.at at && same (include_words i) ws
is_include at ws (Err r) = false

is_no_include : ℕ → ℕ → ℕ → Result (Cursor × ℕ × YangInclude) Refusal → Bool
is_no_include n k at (Ok (c, m, i)) = false
is_no_include n k at (Err r) = is_refusal n k at r

-- behind the keyword, at the store's place 0
holds : Example → Bool
holds (imports s at bs ws) = is_import at ws (import_at false s 6 0).answer && same (import_at false s 6 0).bytes bs
holds (no_import s n k at) = is_no_import n k at (import_at false s 6 0).answer
holds (includes s at bs ws) = is_include at ws (include_at false s 7 0).answer && same (include_at false s 7 0).bytes bs
holds (no_include s n k at) = is_no_include n k at (include_at false s 7 0).answer
holds (no_whole_import s n k at) = is_no_import n k at (import_at true s 6 0).answer
holds (no_whole_include s n k at) = is_no_include n k at (include_at true s 7 0).answer

all : List Example → Bool
all [] = true
all (x ∷ xs) = holds x && all xs

-- import a{} | import a{} x | import a{prefix p;prefix q;} | import a{revision-date 1;prefix p;revision-date 2;} | import a{prefix
-- "";} | import "a"+"b | import "a"+{prefix p;} | import a+"b"{ | import a b | import "a | import a{ | import a{x | import a{prefix
-- | import a{prefix p | import a{revision-date | import a{prefix/**/p;} | import a{x \";prefix p;} | import a{contact c;prefix p;} |
-- include a; | include a} | include a | include a{prefix p;revision-date 1;} | include a{} | include a{revision-date "";} | include
-- a{ | include a{revision-date 1}
-- in the whole-text mode: import a{x | import a{x/*c | import "a | import "a"+"b | import a{prefix "p | import a{ | import a{x; | import a{/*c |
-- import a{prefix | import a{} "x | import a b "x | include "a | include a | include a{x
examples : List Example
examples =
    no_import (105 ∷ 109 ∷ 112 ∷ 111 ∷ 114 ∷ 116 ∷ 32 ∷ 97 ∷ 123 ∷ 125 ∷ []) no_prefix import_keyword 10
    ∷ no_import (105 ∷ 109 ∷ 112 ∷ 111 ∷ 114 ∷ 116 ∷ 32 ∷ 97 ∷ 123 ∷ 125 ∷ 32 ∷ 120 ∷ []) no_prefix import_keyword 10
    ∷ imports (105 ∷ 109 ∷ 112 ∷ 111 ∷ 114 ∷ 116 ∷ 32 ∷ 97 ∷ 123 ∷ 112 ∷ 114 ∷ 101 ∷ 102 ∷ 105 ∷ 120 ∷ 32 ∷ 112 ∷ 59 ∷ 112 ∷ 114 ∷ 101 ∷ 102 ∷ 105 ∷ 120 ∷ 32
    ∷ 113 ∷ 59 ∷ 125 ∷ []) 28 (97 ∷ 112 ∷ 113 ∷ []) (0 ∷ 1 ∷ 2 ∷ 1 ∷ 0 ∷ 0 ∷ 0 ∷ [])
    ∷ imports (105 ∷ 109 ∷ 112 ∷ 111 ∷ 114 ∷ 116 ∷ 32 ∷ 97 ∷ 123 ∷ 114 ∷ 101 ∷ 118 ∷ 105 ∷ 115 ∷ 105 ∷ 111 ∷ 110 ∷ 45 ∷ 100 ∷ 97 ∷ 116 ∷ 101 ∷ 32 ∷ 49 ∷ 59
    ∷ 112 ∷ 114 ∷ 101 ∷ 102 ∷ 105 ∷ 120 ∷ 32 ∷ 112 ∷ 59 ∷ 114 ∷ 101 ∷ 118 ∷ 105 ∷ 115 ∷ 105 ∷ 111 ∷ 110 ∷ 45 ∷ 100 ∷ 97 ∷ 116 ∷ 101 ∷ 32 ∷ 50 ∷ 59 ∷ 125
    ∷ []) 51 (97 ∷ 49 ∷ 112 ∷ 50 ∷ []) (0 ∷ 1 ∷ 2 ∷ 1 ∷ 1 ∷ 3 ∷ 1 ∷ [])
    ∷ imports (105 ∷ 109 ∷ 112 ∷ 111 ∷ 114 ∷ 116 ∷ 32 ∷ 97 ∷ 123 ∷ 112 ∷ 114 ∷ 101 ∷ 102 ∷ 105 ∷ 120 ∷ 32 ∷ 34 ∷ 34 ∷ 59 ∷ 125 ∷ []) 20 (97 ∷ [])
    (0 ∷ 1 ∷ 1 ∷ 0 ∷ 0 ∷ 0 ∷ 0 ∷ [])
    ∷ no_import (105 ∷ 109 ∷ 112 ∷ 111 ∷ 114 ∷ 116 ∷ 32 ∷ 34 ∷ 97 ∷ 34 ∷ 43 ∷ 34 ∷ 98 ∷ []) end_of_text import_keyword 13
    ∷ imports (105 ∷ 109 ∷ 112 ∷ 111 ∷ 114 ∷ 116 ∷ 32 ∷ 34 ∷ 97 ∷ 34 ∷ 43 ∷ 123 ∷ 112 ∷ 114 ∷ 101 ∷ 102 ∷ 105 ∷ 120 ∷ 32 ∷ 112 ∷ 59 ∷ 125 ∷ []) 22
    (97 ∷ 112 ∷ []) (0 ∷ 1 ∷ 1 ∷ 1 ∷ 0 ∷ 0 ∷ 0 ∷ [])
    ∷ no_import (105 ∷ 109 ∷ 112 ∷ 111 ∷ 114 ∷ 116 ∷ 32 ∷ 97 ∷ 43 ∷ 34 ∷ 98 ∷ 34 ∷ 123 ∷ []) other_byte import_keyword 8
    ∷ no_import (105 ∷ 109 ∷ 112 ∷ 111 ∷ 114 ∷ 116 ∷ 32 ∷ 97 ∷ 32 ∷ 98 ∷ []) other_byte import_keyword 9
    ∷ no_import (105 ∷ 109 ∷ 112 ∷ 111 ∷ 114 ∷ 116 ∷ 32 ∷ 34 ∷ 97 ∷ []) no_value import_keyword 9
    ∷ no_import (105 ∷ 109 ∷ 112 ∷ 111 ∷ 114 ∷ 116 ∷ 32 ∷ 97 ∷ 123 ∷ []) open_ended import_keyword 9
    ∷ no_import (105 ∷ 109 ∷ 112 ∷ 111 ∷ 114 ∷ 116 ∷ 32 ∷ 97 ∷ 123 ∷ 120 ∷ []) open_ended import_keyword 10
    ∷ no_import (105 ∷ 109 ∷ 112 ∷ 111 ∷ 114 ∷ 116 ∷ 32 ∷ 97 ∷ 123 ∷ 112 ∷ 114 ∷ 101 ∷ 102 ∷ 105 ∷ 120 ∷ []) no_value prefix_keyword 15
    ∷ no_import (105 ∷ 109 ∷ 112 ∷ 111 ∷ 114 ∷ 116 ∷ 32 ∷ 97 ∷ 123 ∷ 112 ∷ 114 ∷ 101 ∷ 102 ∷ 105 ∷ 120 ∷ 32 ∷ 112 ∷ []) end_of_text prefix_keyword 17
    ∷ no_import (105 ∷ 109 ∷ 112 ∷ 111 ∷ 114 ∷ 116 ∷ 32 ∷ 97 ∷ 123 ∷ 114 ∷ 101 ∷ 118 ∷ 105 ∷ 115 ∷ 105 ∷ 111 ∷ 110 ∷ 45 ∷ 100 ∷ 97 ∷ 116 ∷ 101 ∷ []) no_value
    revision_date_keyword 22
    ∷ no_import (105 ∷ 109 ∷ 112 ∷ 111 ∷ 114 ∷ 116 ∷ 32 ∷ 97 ∷ 123 ∷ 112 ∷ 114 ∷ 101 ∷ 102 ∷ 105 ∷ 120 ∷ 47 ∷ 42 ∷ 42 ∷ 47 ∷ 112 ∷ 59 ∷ 125 ∷ []) no_prefix
    import_keyword 22
    ∷ no_import (105 ∷ 109 ∷ 112 ∷ 111 ∷ 114 ∷ 116 ∷ 32 ∷ 97 ∷ 123 ∷ 120 ∷ 32 ∷ 92 ∷ 34 ∷ 59 ∷ 112 ∷ 114 ∷ 101 ∷ 102 ∷ 105 ∷ 120 ∷ 32 ∷ 112 ∷ 59 ∷ 125 ∷ [])
    open_ended import_keyword 24
    ∷ imports (105 ∷ 109 ∷ 112 ∷ 111 ∷ 114 ∷ 116 ∷ 32 ∷ 97 ∷ 123 ∷ 99 ∷ 111 ∷ 110 ∷ 116 ∷ 97 ∷ 99 ∷ 116 ∷ 32 ∷ 99 ∷ 59 ∷ 112 ∷ 114 ∷ 101 ∷ 102 ∷ 105 ∷ 120 ∷ 32
    ∷ 112 ∷ 59 ∷ 125 ∷ []) 29 (97 ∷ 112 ∷ []) (0 ∷ 1 ∷ 1 ∷ 1 ∷ 0 ∷ 0 ∷ 0 ∷ [])
    ∷ includes (105 ∷ 110 ∷ 99 ∷ 108 ∷ 117 ∷ 100 ∷ 101 ∷ 32 ∷ 97 ∷ 59 ∷ []) 10 (97 ∷ []) (0 ∷ 1 ∷ 0 ∷ 0 ∷ 0 ∷ [])
    ∷ no_include (105 ∷ 110 ∷ 99 ∷ 108 ∷ 117 ∷ 100 ∷ 101 ∷ 32 ∷ 97 ∷ 125 ∷ []) other_byte include_keyword 9
    ∷ no_include (105 ∷ 110 ∷ 99 ∷ 108 ∷ 117 ∷ 100 ∷ 101 ∷ 32 ∷ 97 ∷ []) end_of_text include_keyword 9
    ∷ includes (105 ∷ 110 ∷ 99 ∷ 108 ∷ 117 ∷ 100 ∷ 101 ∷ 32 ∷ 97 ∷ 123 ∷ 112 ∷ 114 ∷ 101 ∷ 102 ∷ 105 ∷ 120 ∷ 32 ∷ 112 ∷ 59 ∷ 114 ∷ 101 ∷ 118 ∷ 105 ∷ 115 ∷ 105
    ∷ 111 ∷ 110 ∷ 45 ∷ 100 ∷ 97 ∷ 116 ∷ 101 ∷ 32 ∷ 49 ∷ 59 ∷ 125 ∷ []) 36 (97 ∷ 49 ∷ []) (0 ∷ 1 ∷ 1 ∷ 1 ∷ 1 ∷ [])
    ∷ includes (105 ∷ 110 ∷ 99 ∷ 108 ∷ 117 ∷ 100 ∷ 101 ∷ 32 ∷ 97 ∷ 123 ∷ 125 ∷ []) 11 (97 ∷ []) (0 ∷ 1 ∷ 0 ∷ 0 ∷ 0 ∷ [])
    ∷ includes (105 ∷ 110 ∷ 99 ∷ 108 ∷ 117 ∷ 100 ∷ 101 ∷ 32 ∷ 97 ∷ 123 ∷ 114 ∷ 101 ∷ 118 ∷ 105 ∷ 115 ∷ 105 ∷ 111 ∷ 110 ∷ 45 ∷ 100 ∷ 97 ∷ 116 ∷ 101 ∷ 32 ∷ 34
    ∷ 34 ∷ 59 ∷ 125 ∷ []) 28 (97 ∷ []) (0 ∷ 1 ∷ 1 ∷ 1 ∷ 0 ∷ [])
    ∷ no_include (105 ∷ 110 ∷ 99 ∷ 108 ∷ 117 ∷ 100 ∷ 101 ∷ 32 ∷ 97 ∷ 123 ∷ []) open_ended include_keyword 10
    ∷ no_include (105 ∷ 110 ∷ 99 ∷ 108 ∷ 117 ∷ 100 ∷ 101 ∷ 32 ∷ 97 ∷ 123 ∷ 114 ∷ 101 ∷ 118 ∷ 105 ∷ 115 ∷ 105 ∷ 111 ∷ 110 ∷ 45 ∷ 100 ∷ 97 ∷ 116 ∷ 101 ∷ 32 ∷ 49
    ∷ 125 ∷ []) other_byte revision_date_keyword 25
    ∷ no_whole_import (105 ∷ 109 ∷ 112 ∷ 111 ∷ 114 ∷ 116 ∷ 32 ∷ 97 ∷ 123 ∷ 120 ∷ []) cut_short 0 10
    ∷ no_whole_import (105 ∷ 109 ∷ 112 ∷ 111 ∷ 114 ∷ 116 ∷ 32 ∷ 97 ∷ 123 ∷ 120 ∷ 47 ∷ 42 ∷ 99 ∷ []) cut_short 0 13
    ∷ no_whole_import (105 ∷ 109 ∷ 112 ∷ 111 ∷ 114 ∷ 116 ∷ 32 ∷ 34 ∷ 97 ∷ []) cut_short 0 9
    ∷ no_whole_import (105 ∷ 109 ∷ 112 ∷ 111 ∷ 114 ∷ 116 ∷ 32 ∷ 34 ∷ 97 ∷ 34 ∷ 43 ∷ 34 ∷ 98 ∷ []) cut_short 0 13
    ∷ no_whole_import (105 ∷ 109 ∷ 112 ∷ 111 ∷ 114 ∷ 116 ∷ 32 ∷ 97 ∷ 123 ∷ 112 ∷ 114 ∷ 101 ∷ 102 ∷ 105 ∷ 120 ∷ 32 ∷ 34 ∷ 112 ∷ []) cut_short 0 18
    ∷ no_whole_import (105 ∷ 109 ∷ 112 ∷ 111 ∷ 114 ∷ 116 ∷ 32 ∷ 97 ∷ 123 ∷ []) open_ended import_keyword 9
    ∷ no_whole_import (105 ∷ 109 ∷ 112 ∷ 111 ∷ 114 ∷ 116 ∷ 32 ∷ 97 ∷ 123 ∷ 120 ∷ 59 ∷ []) open_ended import_keyword 11
    ∷ no_whole_import (105 ∷ 109 ∷ 112 ∷ 111 ∷ 114 ∷ 116 ∷ 32 ∷ 97 ∷ 123 ∷ 47 ∷ 42 ∷ 99 ∷ []) open_ended import_keyword 12
    ∷ no_whole_import (105 ∷ 109 ∷ 112 ∷ 111 ∷ 114 ∷ 116 ∷ 32 ∷ 97 ∷ 123 ∷ 112 ∷ 114 ∷ 101 ∷ 102 ∷ 105 ∷ 120 ∷ []) no_value prefix_keyword 15
    ∷ no_whole_import (105 ∷ 109 ∷ 112 ∷ 111 ∷ 114 ∷ 116 ∷ 32 ∷ 97 ∷ 123 ∷ 125 ∷ 32 ∷ 34 ∷ 120 ∷ []) no_prefix import_keyword 10
    ∷ no_whole_import (105 ∷ 109 ∷ 112 ∷ 111 ∷ 114 ∷ 116 ∷ 32 ∷ 97 ∷ 32 ∷ 98 ∷ 32 ∷ 34 ∷ 120 ∷ []) other_byte import_keyword 9
    ∷ no_whole_include (105 ∷ 110 ∷ 99 ∷ 108 ∷ 117 ∷ 100 ∷ 101 ∷ 32 ∷ 34 ∷ 97 ∷ []) cut_short 0 10
    ∷ no_whole_include (105 ∷ 110 ∷ 99 ∷ 108 ∷ 117 ∷ 100 ∷ 101 ∷ 32 ∷ 97 ∷ []) end_of_text include_keyword 9
    ∷ no_whole_include (105 ∷ 110 ∷ 99 ∷ 108 ∷ 117 ∷ 100 ∷ 101 ∷ 32 ∷ 97 ∷ 123 ∷ 120 ∷ []) cut_short 0 11
    ∷ []

right : T (all examples)
unfolding examples all holds is_refusal is_import is_no_import is_include is_no_include import_words include_words import_at after_name with_name import_of of_body include_at
    after_value open_or_plain block_of include_of plain_of block_at block_from block_turn after_inside inside_at inside_here after_kind with_value kept with_skipped
    past_statement past_of broke_off line_kind or_line statement_at statement_from statement_turn of_part part_at part_of at_semicolon at_close quoted_end quoted_len closes
    match_at keyword_at starts_ident ends_keyword line_at after_argument after_due argument_at breaks_off argument_of due_at due_here due_number same value_at value_bytes
    value_here of_string closed_at closed_here closed_string closed_from closed_turn closed_more joined joined_with join_turn add_to more_at after_gap after_plus added_by
    is_quote starts_name str_at closed_by str_bytes str_end escaped escapes part gap_end gap_turn after_white comment_end block_end closing pair_at run_end span in_run
    in_ident class_of turns refused_at is_high at_other
right = tt
