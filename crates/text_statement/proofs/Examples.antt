-- Worked examples of tokens and statements, one list and one claim: each definition computes how the token or the statement at the text's
-- start ends, and where.
-- Assumes nothing.
use Rattle.std.specs.Prelude.{Ok, Err, Result}
use mathlib.Core.Bool.{Bool, true, false, ◌&&◌}
use mathlib.Core.List.{List, [], ◌∷◌}
use Prim.Native.Nat.{ℕ}
use lib.Dec.{eqb, T}
use Rattle.text.specs.Class.{class_of}
use Rattle.text.specs.Keyword.{starts_ident}
use Rattle.text.specs.Refusal.{is_high, high_at}
use Rattle.text.specs.Scan.{in_ident, in_run, span, run_end, pair_at, closing, block_end, comment_end, after_white, gap_turn, gap_end}
use Rattle.text.specs.Turns.{turns}
use Rattle.text_string.specs.Str.{is_quote, escapes, str_end, str_bytes, closed_by, str_at}
use Rattle.text_value.specs.Value.{starts_name, added_by, after_plus, after_gap, more_at, add_to, join_turn, joined_with, joined, of_string, value_here, value_at}
use Rattle.text_value.specs.Value.{place_of, closed_more, closed_turn, closed_from, closed_string, closed_here, closed_at}
use Rattle.text_skip.specs.Skip.{past_whole, past_text, closed_token, token_here, token_at, skipped_at}
use Rattle.text_statement.specs.Statement.{closes, quoted_len, quoted_end, at_semicolon, at_close, at_other, part_of, part_at, of_part}
use Rattle.text_statement.specs.Statement.{statement_turn, statement_from, statement_at}
use Rattle.text_past.specs.declared.How.{How}
use Rattle.text_past.specs.declared.How.TheVariants.{Whole, Semicolon, Block, Before, Text}
use Rattle.text.specs.declared.Cursor.{Cursor}
use Rattle.text.specs.declared.Refusal.{Refusal}

data Example : Type 0 where
  token : List ℕ → Result (Cursor × How) Refusal → Example
  value : List ℕ → Result (Cursor × How) Refusal → Example
  statement : List ℕ → Result (Cursor × How) Refusal → Example

kind : How → ℕ
kind Whole = 1
kind Semicolon = 2
kind Block = 3
kind Before = 4
kind Text = 5

same : Result (Cursor × How) Refusal → Result (Cursor × How) Refusal → Bool
same (Ok (c, h)) (Ok (d, i)) = eqb c.at d.at && eqb (kind h) (kind i)
same (Ok (c, h)) (Err r) = false
same (Err r) (Ok (c, h)) = false
same (Err r) (Err q) = eqb r.number q.number && eqb r.keyword q.keyword && eqb r.at q.at

holds : Example → Bool
holds (token s k) = same (token_at s 0) k
holds (value s k) = same (skipped_at s 0) k
holds (statement s k) = same (statement_at s 0) k

all : List Example → Bool
all [] = true
all (x ∷ xs) = holds x && all xs

-- tokens: "\\" ; | "\" ; | '\' ; | 'a with no end | a:b-c.d_1 and a blank | 1a | ;; | nothing | aé | é | "é" | 'é with no end
-- values: "a" + 'b' ; | "a"+"b with no end | "a with no end | a:b; | ;
-- statements: a;b | a { b; } c | } x | a | "a\";" ; | 'a\';' ; | "\\" ; | '\\' ; | \"; x | a // ; with a ; on the next line | {{}} } |
-- a /*/ ; */ ; | ; in the block of a, with no end | a é; | a "é" //é | 'é\';
examples : List Example
examples =
    token (34 ∷ 92 ∷ 92 ∷ 34 ∷ 32 ∷ 59 ∷ []) (past_whole 4)
    ∷ token (34 ∷ 92 ∷ 34 ∷ 32 ∷ 59 ∷ []) (past_text 5)
    ∷ token (39 ∷ 92 ∷ 39 ∷ 32 ∷ 59 ∷ []) (past_whole 3)
    ∷ token (39 ∷ 97 ∷ []) (past_text 2)
    ∷ token (97 ∷ 58 ∷ 98 ∷ 45 ∷ 99 ∷ 46 ∷ 100 ∷ 95 ∷ 49 ∷ 32 ∷ []) (past_whole 9)
    ∷ token (49 ∷ 97 ∷ []) (past_whole 1)
    ∷ token (59 ∷ 59 ∷ []) (past_whole 1)
    ∷ token [] (past_whole 0)
    ∷ token (97 ∷ 195 ∷ 169 ∷ []) (past_whole 1)
    ∷ token (195 ∷ 169 ∷ []) (Err (high_at 0))
    ∷ token (34 ∷ 195 ∷ 169 ∷ 34 ∷ []) (past_whole 4)
    ∷ token (39 ∷ 195 ∷ 169 ∷ []) (past_text 3)
    ∷ value (34 ∷ 97 ∷ 34 ∷ 32 ∷ 43 ∷ 32 ∷ 39 ∷ 98 ∷ 39 ∷ 32 ∷ 59 ∷ []) (past_whole 10)
    ∷ value (34 ∷ 97 ∷ 34 ∷ 43 ∷ 34 ∷ 98 ∷ []) (past_text 6)
    ∷ value (34 ∷ 97 ∷ []) (past_text 2)
    ∷ value (97 ∷ 58 ∷ 98 ∷ 59 ∷ []) (past_whole 3)
    ∷ value (59 ∷ []) (past_whole 0)
    ∷ statement (97 ∷ 59 ∷ 98 ∷ []) (Ok ((record { at = 2 }), Semicolon))
    ∷ statement (97 ∷ 32 ∷ 123 ∷ 32 ∷ 98 ∷ 59 ∷ 32 ∷ 125 ∷ 32 ∷ 99 ∷ []) (Ok ((record { at = 8 }), Block))
    ∷ statement (125 ∷ 32 ∷ 120 ∷ []) (Ok ((record { at = 0 }), Before))
    ∷ statement (97 ∷ []) (Ok ((record { at = 1 }), Text))
    ∷ statement (34 ∷ 97 ∷ 92 ∷ 34 ∷ 59 ∷ 34 ∷ 32 ∷ 59 ∷ []) (Ok ((record { at = 8 }), Semicolon))
    ∷ statement (39 ∷ 97 ∷ 92 ∷ 39 ∷ 59 ∷ 39 ∷ 32 ∷ 59 ∷ []) (Ok ((record { at = 8 }), Semicolon))
    ∷ statement (34 ∷ 92 ∷ 92 ∷ 34 ∷ 32 ∷ 59 ∷ []) (Ok ((record { at = 6 }), Text))
    ∷ statement (39 ∷ 92 ∷ 92 ∷ 39 ∷ 32 ∷ 59 ∷ []) (Ok ((record { at = 6 }), Text))
    ∷ statement (92 ∷ 34 ∷ 59 ∷ 32 ∷ 120 ∷ []) (Ok ((record { at = 5 }), Text))
    ∷ statement (97 ∷ 32 ∷ 47 ∷ 47 ∷ 32 ∷ 59 ∷ 10 ∷ 59 ∷ []) (Ok ((record { at = 8 }), Semicolon))
    ∷ statement (123 ∷ 123 ∷ 125 ∷ 125 ∷ 32 ∷ 125 ∷ []) (Ok ((record { at = 4 }), Block))
    ∷ statement (97 ∷ 32 ∷ 47 ∷ 42 ∷ 47 ∷ 32 ∷ 59 ∷ 32 ∷ 42 ∷ 47 ∷ 32 ∷ 59 ∷ []) (Ok ((record { at = 12 }), Semicolon))
    ∷ statement (97 ∷ 123 ∷ 59 ∷ []) (Ok ((record { at = 3 }), Text))
    ∷ statement (97 ∷ 32 ∷ 195 ∷ 169 ∷ 59 ∷ []) (Err (high_at 2))
    ∷ statement (97 ∷ 32 ∷ 34 ∷ 195 ∷ 169 ∷ 34 ∷ 32 ∷ 47 ∷ 47 ∷ 195 ∷ 169 ∷ []) (Ok ((record { at = 11 }), Text))
    ∷ statement (39 ∷ 195 ∷ 169 ∷ 92 ∷ 39 ∷ 59 ∷ []) (Ok ((record { at = 6 }), Text))
    ∷ []

right : T (all examples)
unfolding examples all holds same kind skipped_at place_of value_at value_here of_string joined joined_with join_turn add_to more_at after_gap after_plus added_by str_at
    closed_by str_bytes closed_at closed_here closed_string closed_from closed_turn closed_more starts_name token_at token_here closed_token str_end escapes starts_ident
    statement_at statement_from statement_turn of_part part_at part_of at_other at_close at_semicolon is_high quoted_end quoted_len closes is_quote gap_end gap_turn after_white comment_end
    block_end closing pair_at run_end span in_run in_ident class_of turns
right = tt
