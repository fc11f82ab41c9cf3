-- Worked examples of the dependency scan, one list and one claim: the definitions compute what is read of each text, or the refusal.
-- Assumes nothing.
use mathlib.Core.Bool.{Bool, true, false, ◌&&◌}
use mathlib.Core.List.{List, [], ◌∷◌, ◌++◌}
use Prim.Native.Nat.{ℕ}
use lib.Dec.{T}
use lib.ListN.{length}
use Rattle.text.specs.Refusal.{is_high, refused_at}
use Rattle.text.specs.Class.{class_of}
use Rattle.text.specs.Due.{due_number, due_here, due_at}
use Rattle.text.specs.Keyword.{starts_ident, ends_keyword, same, part, keyword_at, match_at, or_match}
use Rattle.text.specs.Scan.{in_ident, in_run, span, run_end, pair_at, closing, block_end, comment_end, after_white, gap_turn, gap_end}
use Rattle.text.specs.Turns.{turns}
use Rattle.text_value.specs.Argument.{argument_of, breaks_off, argument_at, after_due, after_argument, line_at}
use Rattle.text_string.specs.Str.{is_quote, escaped, escapes, str_end, str_bytes, closed_by, str_at}
use Rattle.text_value.specs.Value.{starts_name, added_by, after_plus, after_gap, more_at, add_to, join_turn, joined_with, joined as joinedValue, of_string}
use Rattle.text_value.specs.Value.{value_here, value_at, value_bytes, closed_more, closed_turn, closed_from, closed_string, closed_here, closed_at}
use Rattle.text_past.specs.Past.{broke_off, past_of}
use Rattle.text_skip.specs.Skip.{closed_token, token_here, token_at, past_token}
use Rattle.text_statement.specs.Statement.{closes, quoted_len, quoted_end, at_semicolon, at_close, part_of, part_at, of_part, statement_turn, statement_from, at_other}
use Rattle.text_statement.specs.Statement.{statement_at, past_statement}
use Rattle.text_utf8.specs.Utf8.{wrong_from, char_turn, seq_len, char_len, one, two, three, second3, four, second4, tail}
use Rattle.text_lent.specs.Lent.{lent_at}
use Rattle.scan_rows.specs.Rows.{import_words, include_words, table, import_table, include_table}
use Rattle.scan_block.specs.Block.{or_line, line_kind, kept, with_value, with_skipped, after_kind, inside_here, inside_at, after_inside, block_turn, block_from, block_at}
use Rattle.scan_imports.specs.Statement.{of_body, import_of, with_name, after_name, import_at, include_of, plain_of, block_of, open_or_plain, after_value, include_at}
use Rattle.yangparser.specs.Dependencies.{import_words_of, include_words_of, joined, import_step, include_step, unless_full, import_here, include_here, moved_to}
use Rattle.yangparser.specs.Dependencies.{after_token, head_step, step_here, step_at, Scan, good, bad, after_step, scan_turn, scan_from, scanned, if_fit}
use Rattle.yangparser.specs.Dependencies.{dependencies}
use Rattle.scan_head.specs.Head.{last_at, or_head, head_at}

-- the mode, a text, whether too little was lent, and what comes of it
data Example : Type 0 where
  example : Bool → List ℕ → Bool → List ℕ → Example

-- 0, the counts, the rows and the bytes stored; or number, keyword and position
outcome : Scan → List ℕ
outcome (good d) = 0 ∷ length d.imports ∷ length d.includes ∷ (import_words_of d ++ include_words_of d ++ d.bytes)
outcome (bad r d) = r.number ∷ r.keyword ∷ r.at ∷ []

holds : Example → Bool
holds (example whole s short xs) = same (outcome (dependencies whole s short)) xs

all : List Example → Bool
all [] = true
all (x ∷ xs) = holds x && all xs

-- the texts: import a b | import "a | import a{x | include a} | "\\" include a; | 1include a; | a:include b; | include/**/a; | contact x; include a; |
-- include a; reference x; import b | import a{prefix "";} | import a{prefix p;prefix q;} | import "a"+{prefix p;revision-date r;} include b{revision-date
-- s;} | byte 200, too little lent | a blank and byte 200
-- in the whole-text mode: x "abc | "\" | import a{x | description "cut | //cut | import a{} "x | a quote and byte 200
-- with accents: import a{x " and byte 195 | import "é"{prefix 'ü';} | x é | fooé bar | import é{ | import a é{ | import a{é} | import a{}é |
-- import a{x 'é\';prefix p;} | import a/*é | description é | a byte order mark and module m{} | in the whole-text mode: x é "cut | "cut é
examples : List Example
examples =
    example false (105 ∷ 109 ∷ 112 ∷ 111 ∷ 114 ∷ 116 ∷ 32 ∷ 97 ∷ 32 ∷ 98 ∷ []) false (5 ∷ 8 ∷ 9 ∷ [])
    ∷ example false (105 ∷ 109 ∷ 112 ∷ 111 ∷ 114 ∷ 116 ∷ 32 ∷ 34 ∷ 97 ∷ []) false (4 ∷ 8 ∷ 9 ∷ [])
    ∷ example false (105 ∷ 109 ∷ 112 ∷ 111 ∷ 114 ∷ 116 ∷ 32 ∷ 97 ∷ 123 ∷ 120 ∷ []) false (8 ∷ 8 ∷ 10 ∷ [])
    ∷ example false (105 ∷ 110 ∷ 99 ∷ 108 ∷ 117 ∷ 100 ∷ 101 ∷ 32 ∷ 97 ∷ 125 ∷ []) false (5 ∷ 9 ∷ 9 ∷ [])
    ∷ example false (34 ∷ 92 ∷ 92 ∷ 34 ∷ 32 ∷ 105 ∷ 110 ∷ 99 ∷ 108 ∷ 117 ∷ 100 ∷ 101 ∷ 32 ∷ 97 ∷ 59 ∷ []) false (0 ∷ 0 ∷ 1 ∷ 0 ∷ 1 ∷ 0 ∷ 0 ∷ 0 ∷ 97 ∷ [])
    ∷ example false (49 ∷ 105 ∷ 110 ∷ 99 ∷ 108 ∷ 117 ∷ 100 ∷ 101 ∷ 32 ∷ 97 ∷ 59 ∷ []) false (0 ∷ 0 ∷ 1 ∷ 0 ∷ 1 ∷ 0 ∷ 0 ∷ 0 ∷ 97 ∷ [])
    ∷ example false (97 ∷ 58 ∷ 105 ∷ 110 ∷ 99 ∷ 108 ∷ 117 ∷ 100 ∷ 101 ∷ 32 ∷ 98 ∷ 59 ∷ []) false (0 ∷ 0 ∷ 0 ∷ [])
    ∷ example false (105 ∷ 110 ∷ 99 ∷ 108 ∷ 117 ∷ 100 ∷ 101 ∷ 47 ∷ 42 ∷ 42 ∷ 47 ∷ 97 ∷ 59 ∷ []) false (0 ∷ 0 ∷ 0 ∷ [])
    ∷ example false (99 ∷ 111 ∷ 110 ∷ 116 ∷ 97 ∷ 99 ∷ 116 ∷ 32 ∷ 120 ∷ 59 ∷ 32 ∷ 105 ∷ 110 ∷ 99 ∷ 108 ∷ 117 ∷ 100 ∷ 101 ∷ 32 ∷ 97 ∷ 59 ∷ []) false
    (0 ∷ 0 ∷ 0 ∷ [])
    ∷ example false (105 ∷ 110 ∷ 99 ∷ 108 ∷ 117 ∷ 100 ∷ 101 ∷ 32 ∷ 97 ∷ 59 ∷ 32 ∷ 114 ∷ 101 ∷ 102 ∷ 101 ∷ 114 ∷ 101 ∷ 110 ∷ 99 ∷ 101 ∷ 32 ∷ 120 ∷ 59 ∷ 32 ∷
    105 ∷ 109
    ∷ 112 ∷ 111 ∷ 114 ∷ 116 ∷ 32 ∷ 98 ∷ []) false (0 ∷ 0 ∷ 1 ∷ 0 ∷ 1 ∷ 0 ∷ 0 ∷ 0 ∷ 97 ∷ [])
    ∷ example false (105 ∷ 109 ∷ 112 ∷ 111 ∷ 114 ∷ 116 ∷ 32 ∷ 97 ∷ 123 ∷ 112 ∷ 114 ∷ 101 ∷ 102 ∷ 105 ∷ 120 ∷ 32 ∷ 34 ∷ 34 ∷ 59 ∷ 125 ∷ []) false
    (0 ∷ 1 ∷ 0 ∷ 0 ∷ 1 ∷ 1 ∷ 0 ∷ 0 ∷ 0 ∷ 0 ∷ 97 ∷ [])
    ∷ example false (105 ∷ 109 ∷ 112 ∷ 111 ∷ 114 ∷ 116 ∷ 32 ∷ 97 ∷ 123 ∷ 112 ∷ 114 ∷ 101 ∷ 102 ∷ 105 ∷ 120 ∷ 32 ∷ 112 ∷ 59 ∷ 112 ∷ 114 ∷ 101 ∷ 102 ∷ 105 ∷ 120
    ∷ 32
    ∷ 113 ∷ 59 ∷ 125 ∷ []) false (0 ∷ 1 ∷ 0 ∷ 0 ∷ 1 ∷ 2 ∷ 1 ∷ 0 ∷ 0 ∷ 0 ∷ 97 ∷ 112 ∷ 113 ∷ [])
    ∷ example false (105 ∷ 109 ∷ 112 ∷ 111 ∷ 114 ∷ 116 ∷ 32 ∷ 34 ∷ 97 ∷ 34 ∷ 43 ∷ 123 ∷ 112 ∷ 114 ∷ 101 ∷ 102 ∷ 105 ∷ 120 ∷ 32 ∷ 112 ∷ 59 ∷ 114 ∷ 101 ∷ 118 ∷
    105
    ∷ 115 ∷ 105 ∷ 111 ∷ 110 ∷ 45 ∷ 100 ∷ 97 ∷ 116 ∷ 101 ∷ 32 ∷ 114 ∷ 59 ∷ 125 ∷ 32 ∷ 105 ∷ 110 ∷ 99 ∷ 108 ∷ 117 ∷ 100 ∷ 101 ∷ 32 ∷ 98 ∷ 123 ∷ 114 ∷ 101
    ∷ 118 ∷ 105 ∷ 115 ∷ 105 ∷ 111 ∷ 110 ∷ 45 ∷ 100 ∷ 97 ∷ 116 ∷ 101 ∷ 32 ∷ 115 ∷ 59 ∷ 125 ∷ []) false
    (0 ∷ 1 ∷ 1 ∷ 0 ∷ 1 ∷ 1 ∷ 1 ∷ 1 ∷ 2 ∷ 1 ∷ 3 ∷ 1 ∷ 1 ∷ 4 ∷ 1 ∷ 97 ∷ 112 ∷ 114 ∷ 98 ∷ 115 ∷ [])
    ∷ example false (200 ∷ []) true (2 ∷ 0 ∷ 0 ∷ [])
    ∷ example false (32 ∷ 200 ∷ []) false (12 ∷ 0 ∷ 1 ∷ [])
    ∷ example true (120 ∷ 32 ∷ 34 ∷ 97 ∷ 98 ∷ 99 ∷ []) false (11 ∷ 0 ∷ 6 ∷ [])
    ∷ example true (34 ∷ 92 ∷ 34 ∷ []) false (11 ∷ 0 ∷ 3 ∷ [])
    ∷ example true (105 ∷ 109 ∷ 112 ∷ 111 ∷ 114 ∷ 116 ∷ 32 ∷ 97 ∷ 123 ∷ 120 ∷ []) false (11 ∷ 0 ∷ 10 ∷ [])
    ∷ example true (100 ∷ 101 ∷ 115 ∷ 99 ∷ 114 ∷ 105 ∷ 112 ∷ 116 ∷ 105 ∷ 111 ∷ 110 ∷ 32 ∷ 34 ∷ 99 ∷ 117 ∷ 116 ∷ []) false (0 ∷ 0 ∷ 0 ∷ [])
    ∷ example true (47 ∷ 47 ∷ 99 ∷ 117 ∷ 116 ∷ []) false (0 ∷ 0 ∷ 0 ∷ [])
    ∷ example true (105 ∷ 109 ∷ 112 ∷ 111 ∷ 114 ∷ 116 ∷ 32 ∷ 97 ∷ 123 ∷ 125 ∷ 32 ∷ 34 ∷ 120 ∷ []) false (7 ∷ 8 ∷ 10 ∷ [])
    ∷ example true (34 ∷ 200 ∷ []) false (12 ∷ 0 ∷ 1 ∷ [])
    ∷ example false (105 ∷ 109 ∷ 112 ∷ 111 ∷ 114 ∷ 116 ∷ 32 ∷ 97 ∷ 123 ∷ 120 ∷ 32 ∷ 34 ∷ 195 ∷ 34 ∷ 125 ∷ []) false (12 ∷ 0 ∷ 12 ∷ [])
    ∷ example false (105 ∷ 109 ∷ 112 ∷ 111 ∷ 114 ∷ 116 ∷ 32 ∷ 34 ∷ 195 ∷ 169 ∷ 34 ∷ 123 ∷ 112 ∷ 114 ∷ 101 ∷ 102 ∷ 105 ∷ 120 ∷ 32 ∷ 39 ∷ 195 ∷ 188
    ∷ 39 ∷ 59 ∷ 125 ∷ []) false (0 ∷ 1 ∷ 0 ∷ 0 ∷ 2 ∷ 2 ∷ 2 ∷ 0 ∷ 0 ∷ 0 ∷ 195 ∷ 169 ∷ 195 ∷ 188 ∷ [])
    ∷ example false (120 ∷ 32 ∷ 195 ∷ 169 ∷ []) false (3 ∷ 0 ∷ 2 ∷ [])
    ∷ example false (102 ∷ 111 ∷ 111 ∷ 195 ∷ 169 ∷ 32 ∷ 98 ∷ 97 ∷ 114 ∷ []) false (3 ∷ 0 ∷ 3 ∷ [])
    ∷ example false (105 ∷ 109 ∷ 112 ∷ 111 ∷ 114 ∷ 116 ∷ 32 ∷ 195 ∷ 169 ∷ 123 ∷ []) false (3 ∷ 0 ∷ 7 ∷ [])
    ∷ example false (105 ∷ 109 ∷ 112 ∷ 111 ∷ 114 ∷ 116 ∷ 32 ∷ 97 ∷ 32 ∷ 195 ∷ 169 ∷ 123 ∷ []) false (3 ∷ 0 ∷ 9 ∷ [])
    ∷ example false (105 ∷ 109 ∷ 112 ∷ 111 ∷ 114 ∷ 116 ∷ 32 ∷ 97 ∷ 123 ∷ 195 ∷ 169 ∷ 125 ∷ []) false (3 ∷ 0 ∷ 9 ∷ [])
    ∷ example false (105 ∷ 109 ∷ 112 ∷ 111 ∷ 114 ∷ 116 ∷ 32 ∷ 97 ∷ 123 ∷ 125 ∷ 195 ∷ 169 ∷ []) false (7 ∷ 8 ∷ 10 ∷ [])
    ∷ example false (105 ∷ 109 ∷ 112 ∷ 111 ∷ 114 ∷ 116 ∷ 32 ∷ 97 ∷ 123 ∷ 120 ∷ 32 ∷ 39 ∷ 195 ∷ 169 ∷ 92 ∷ 39 ∷ 59 ∷ 112 ∷ 114 ∷ 101 ∷ 102 ∷ 105
    ∷ 120 ∷ 32 ∷ 112 ∷ 59 ∷ 125 ∷ []) false (8 ∷ 8 ∷ 27 ∷ [])
    ∷ example false (105 ∷ 109 ∷ 112 ∷ 111 ∷ 114 ∷ 116 ∷ 32 ∷ 97 ∷ 47 ∷ 42 ∷ 195 ∷ 169 ∷ []) false (6 ∷ 8 ∷ 12 ∷ [])
    ∷ example false (100 ∷ 101 ∷ 115 ∷ 99 ∷ 114 ∷ 105 ∷ 112 ∷ 116 ∷ 105 ∷ 111 ∷ 110 ∷ 32 ∷ 195 ∷ 169 ∷ []) false (0 ∷ 0 ∷ 0 ∷ [])
    ∷ example false (239 ∷ 187 ∷ 191 ∷ 109 ∷ 111 ∷ 100 ∷ 117 ∷ 108 ∷ 101 ∷ 32 ∷ 109 ∷ 123 ∷ 125 ∷ []) false (3 ∷ 0 ∷ 0 ∷ [])
    ∷ example true (120 ∷ 32 ∷ 195 ∷ 169 ∷ 32 ∷ 34 ∷ 99 ∷ 117 ∷ 116 ∷ []) false (3 ∷ 0 ∷ 2 ∷ [])
    ∷ example true (34 ∷ 99 ∷ 117 ∷ 116 ∷ 32 ∷ 195 ∷ 169 ∷ []) false (11 ∷ 0 ∷ 7 ∷ [])
    ∷ []

right : T (all examples)
unfolding examples all holds outcome import_words_of include_words_of joined import_step include_step unless_full import_here include_here moved_to after_token past_token
    past_of broke_off head_step step_here step_at after_step scan_turn scan_from scanned lent_at if_fit dependencies or_match last_at or_head head_at import_words include_words
    table import_table include_table or_line line_kind with_value kept with_skipped after_kind inside_here inside_at after_inside block_turn block_from block_at of_body
    import_of with_name after_name import_at include_of plain_of block_of open_or_plain after_value include_at argument_of breaks_off argument_at after_due after_argument
    line_at escaped escapes str_end str_bytes closed_by str_at is_quote starts_name added_by after_plus after_gap more_at add_to join_turn joined_with joinedValue of_string
    value_here value_at closed_more closed_turn closed_from closed_string closed_here closed_at value_bytes closed_token token_here token_at closes quoted_len quoted_end
    at_semicolon at_close part_of part_at of_part statement_turn statement_from statement_at past_statement due_number due_here due_at starts_ident ends_keyword same part
    keyword_at match_at gap_end gap_turn after_white comment_end block_end closing pair_at run_end span in_run in_ident class_of turns refused_at is_high at_other
    wrong_from char_turn seq_len char_len one two three second3 four second4 tail
right = tt
