-- Worked examples of gaps, keywords and required bytes, one list and one claim: each definition computes what stands beside the text.
-- Assumes nothing.
use Rattle.std.specs.Prelude.{Ok, Err, Result}
use mathlib.Core.Bool.{Bool, true, false, ◌&&◌}
use mathlib.Core.List.{List, [], ◌∷◌}
use Prim.Native.Nat.{ℕ}
use lib.Dec.{eqb, T}
use Rattle.text.specs.Class.{class_of}
use Rattle.text.specs.Due.{due_number, due_here, due_at}
use Rattle.text.specs.Refusal.{high_byte_met, other_byte, end_of_text, is_high, refused_at}
use Rattle.text.specs.Keyword.{starts_ident, ends_keyword, same, part, keyword_at}
use Rattle.text.specs.Scan.{in_ident, in_run, span, run_end, pair_at, closing, block_end, comment_end, after_white, gap_turn, gap_end}
use Rattle.text.specs.Turns.{turns}
use Rattle.text.specs.declared.Cursor.{Cursor}
use Rattle.text.specs.declared.Refusal.{Refusal}

-- where a gap ends; whether a keyword stands there; past a required byte, or the refusal's number and place
data Example : Type 0 where
  gap : List ℕ → ℕ → Example
  keyword : List ℕ → List ℕ → Bool → Example
  past : List ℕ → ℕ → ℕ → Example
  refused : List ℕ → ℕ → ℕ → ℕ → Example

same_bool : Bool → Bool → Bool
same_bool true b = b
same_bool false true = false
same_bool false false = true

is_past : ℕ → Result Cursor Refusal → Bool
is_past n (Ok c) = eqb c.at n
is_past n (Err r) = false

is_refused : ℕ → ℕ → Result Cursor Refusal → Bool
is_refused n at (Ok c) = false
is_refused n at (Err r) = eqb r.number n && eqb r.at at

holds : Example → Bool
holds (gap s e) = eqb (gap_end s 0) e
holds (keyword s w b) = same_bool (keyword_at s 0 w) b
holds (past s b e) = is_past e (due_at s 0 b 0)
holds (refused s b n at) = is_refused n at (due_at s 0 b 0)

all : List Example → Bool
all [] = true
all (x ∷ xs) = holds x && all xs

-- bytes 9 to 13 and 32 | byte 28 | //, a newline and x | /*/ alone | /*/ */x | /**/x | /x | // at the end
-- //é, a newline and x | /*é | U+00A0 | U+0085 | U+2028
-- the keyword ab: ab{ | ab at the end | ab} | ab/**/ | ab:c | abc with a blank | a with a blank | abé | ab before U+00A0
-- ; after a gap | { instead of it | the end instead of it | é instead of it
examples : List Example
examples =
    gap (9 ∷ 10 ∷ 11 ∷ 12 ∷ 13 ∷ 32 ∷ 120 ∷ []) 6
    ∷ gap (28 ∷ 120 ∷ []) 0
    ∷ gap (47 ∷ 47 ∷ 32 ∷ 10 ∷ 120 ∷ []) 4
    ∷ gap (47 ∷ 42 ∷ 47 ∷ []) 3
    ∷ gap (47 ∷ 42 ∷ 47 ∷ 32 ∷ 42 ∷ 47 ∷ 120 ∷ []) 6
    ∷ gap (47 ∷ 42 ∷ 42 ∷ 47 ∷ 120 ∷ []) 4
    ∷ gap (47 ∷ 120 ∷ []) 0
    ∷ gap (47 ∷ 47 ∷ []) 2
    ∷ gap (47 ∷ 47 ∷ 195 ∷ 169 ∷ 10 ∷ 120 ∷ []) 5
    ∷ gap (47 ∷ 42 ∷ 195 ∷ 169 ∷ []) 4
    ∷ gap (194 ∷ 160 ∷ []) 0
    ∷ gap (194 ∷ 133 ∷ []) 0
    ∷ gap (226 ∷ 128 ∷ 168 ∷ []) 0
    ∷ keyword (97 ∷ 98 ∷ 123 ∷ []) (97 ∷ 98 ∷ []) true
    ∷ keyword (97 ∷ 98 ∷ []) (97 ∷ 98 ∷ []) true
    ∷ keyword (97 ∷ 98 ∷ 125 ∷ []) (97 ∷ 98 ∷ []) false
    ∷ keyword (97 ∷ 98 ∷ 47 ∷ 42 ∷ 42 ∷ 47 ∷ []) (97 ∷ 98 ∷ []) false
    ∷ keyword (97 ∷ 98 ∷ 58 ∷ 99 ∷ []) (97 ∷ 98 ∷ []) false
    ∷ keyword (97 ∷ 98 ∷ 99 ∷ 32 ∷ []) (97 ∷ 98 ∷ []) false
    ∷ keyword (97 ∷ 32 ∷ []) (97 ∷ 98 ∷ []) false
    ∷ keyword (97 ∷ 98 ∷ 195 ∷ 169 ∷ []) (97 ∷ 98 ∷ []) false
    ∷ keyword (97 ∷ 98 ∷ 194 ∷ 160 ∷ []) (97 ∷ 98 ∷ []) false
    ∷ past (32 ∷ 59 ∷ []) 59 2
    ∷ refused (32 ∷ 123 ∷ []) 59 other_byte 1
    ∷ refused (32 ∷ []) 59 end_of_text 1
    ∷ refused (32 ∷ 195 ∷ 169 ∷ []) 59 high_byte_met 1
    ∷ []

right : T (all examples)
unfolding examples all holds same_bool is_past is_refused due_at due_here due_number refused_at is_high keyword_at starts_ident ends_keyword same part gap_end gap_turn
    after_white comment_end block_end closing pair_at run_end span in_run in_ident class_of turns
right = tt
