-- Worked examples of values, of what follows a string, and of a keyword's value with the byte due after it, one list and one claim: each
-- definition computes what stands beside the text.
-- Assumes nothing.
use Rattle.std.specs.Prelude.{Ok, Err, Result}
use mathlib.Core.Bool.{Bool, true, false, ◌&&◌}
use mathlib.Core.List.{List, [], ◌∷◌}
use Prim.Native.Nat.{ℕ}
use lib.Dec.{eqb, T}
use Rattle.text.specs.Class.{class_of}
use Rattle.text.specs.Due.{due_number, due_here, due_at}
use Rattle.text.specs.Refusal.{high_byte_met, no_value, other_byte, end_of_text, cut_short, is_high, refused_at}
use Rattle.text.specs.Keyword.{same, part}
use Rattle.text.specs.Scan.{in_ident, in_run, span, run_end, pair_at, closing, block_end, comment_end, after_white, gap_turn, gap_end}
use Rattle.text.specs.Turns.{turns}
use Rattle.text_value.specs.Argument.{argument_of, breaks_off, argument_at, after_due, after_argument, line_at}
use Rattle.text_string.specs.Str.{is_quote, escaped, escapes, str_end, str_bytes, closed_by, str_at}
use Rattle.text_value.specs.Value.{starts_name, More, added, ends, broken, added_by, after_plus, after_gap, more_at, add_to, join_turn, joined_with}
use Rattle.text_value.specs.Value.{joined, of_string, value_here, value_at, Val, value, none, closed_more, closed_turn, closed_from, closed_string, closed_here}
use Rattle.text_value.specs.Value.{closed_at}
use Rattle.text.specs.declared.Cursor.{Cursor}
use Rattle.text.specs.declared.Refusal.{Refusal}

-- the value at the text's start; what follows a string that ends at a place; the value at the start and a byte after it, read up to a place
-- with so many bytes stored, or refused with a number at a place, in the whole-text mode or not
data Example : Type 0 where
  val : List ℕ → Val → Example
  more : List ℕ → ℕ → More → Example
  reads : Bool → List ℕ → ℕ → ℕ → ℕ → Example
  refuses : Bool → List ℕ → ℕ → ℕ → ℕ → Example

same_val : Val → Val → Bool
same_val (value xs e) (value ys f) = same xs ys && eqb e f
same_val (value xs e) (none f) = false
same_val (none e) (value ys f) = false
same_val (none e) (none f) = eqb e f

same_more : More → More → Bool
same_more (added xs e) (added ys f) = same xs ys && eqb e f
same_more (ends e) (ends f) = eqb e f
same_more (broken e) (broken f) = eqb e f
same_more (added xs e) (ends f) = false
same_more (added xs e) (broken f) = false
same_more (ends e) (added ys f) = false
same_more (ends e) (broken f) = false
same_more (broken e) (added ys f) = false
same_more (broken e) (ends f) = false

is_read : ℕ → ℕ → Result (Cursor × ℕ) Refusal → Bool
is_read at n (Ok (c, m)) = eqb c.at at && eqb m n
is_read at n (Err r) = false

is_refused : ℕ → ℕ → Result (Cursor × ℕ) Refusal → Bool
is_refused k at (Ok (c, m)) = false
is_refused k at (Err r) = eqb r.number k && eqb r.at at

holds : Example → Bool
holds (val s v) = same_val (value_at s 0) v
holds (more s at m) = same_more (more_at s at) m
holds (reads whole s b at n) = is_read at n (line_at whole s 0 0 0 b)
holds (refuses whole s b k at) = is_refused k at (line_at whole s 0 0 0 b)

all : List Example → Bool
all [] = true
all (x ∷ xs) = holds x && all xs

-- "a"+"b" | "a"+"b with no end | "a" + b | "a"+{ | a+"b" | a name after a comment | "\n\t\x" | '\n' | "\"" | '\' | "" | "a with no end |
-- a line comment and no more | byte 28 before a name | byte 11 before a name | /*/ before a name | "é" | 'é' | "\é" | "é with no end | aé | é
-- after "a": +"b" | +"b with no end | + b | ;
-- a{ and { | a b and { | a and { | // and { | "a with no end and { | "a"+"b with no end and { | é and { | aé and { | "a" + é and { | "é with no end and {
-- in the whole-text mode: a{ and { | a and { | // and { | "a with no end and { | "a"+"b with no end and {
examples : List Example
examples =
    val (34 ∷ 97 ∷ 34 ∷ 43 ∷ 34 ∷ 98 ∷ 34 ∷ []) (value (97 ∷ 98 ∷ []) 7)
    ∷ val (34 ∷ 97 ∷ 34 ∷ 43 ∷ 34 ∷ 98 ∷ []) (value (97 ∷ []) 6)
    ∷ val (34 ∷ 97 ∷ 34 ∷ 32 ∷ 43 ∷ 32 ∷ 98 ∷ []) (value (97 ∷ []) 6)
    ∷ val (34 ∷ 97 ∷ 34 ∷ 43 ∷ 123 ∷ []) (value (97 ∷ []) 4)
    ∷ val (97 ∷ 43 ∷ 34 ∷ 98 ∷ 34 ∷ []) (value (97 ∷ []) 1)
    ∷ val (47 ∷ 42 ∷ 120 ∷ 42 ∷ 47 ∷ 32 ∷ 50 ∷ 48 ∷ 45 ∷ 58 ∷ 59 ∷ []) (value (50 ∷ 48 ∷ 45 ∷ 58 ∷ []) 10)
    ∷ val (34 ∷ 92 ∷ 110 ∷ 92 ∷ 116 ∷ 92 ∷ 120 ∷ 34 ∷ []) (value (10 ∷ 9 ∷ 120 ∷ []) 8)
    ∷ val (39 ∷ 92 ∷ 110 ∷ 39 ∷ []) (value (92 ∷ 110 ∷ []) 4)
    ∷ val (34 ∷ 92 ∷ 34 ∷ 34 ∷ []) (value (34 ∷ []) 4)
    ∷ val (39 ∷ 92 ∷ 39 ∷ []) (value (92 ∷ []) 3)
    ∷ val (34 ∷ 34 ∷ []) (value [] 2)
    ∷ val (34 ∷ 97 ∷ []) (none 2)
    ∷ val (32 ∷ 47 ∷ 47 ∷ 99 ∷ []) (none 4)
    ∷ val (28 ∷ 97 ∷ []) (none 0)
    ∷ val (11 ∷ 97 ∷ []) (value (97 ∷ []) 2)
    ∷ val (47 ∷ 42 ∷ 47 ∷ 97 ∷ []) (none 4)
    ∷ val (34 ∷ 195 ∷ 169 ∷ 34 ∷ []) (value (195 ∷ 169 ∷ []) 4)
    ∷ val (39 ∷ 195 ∷ 169 ∷ 39 ∷ []) (value (195 ∷ 169 ∷ []) 4)
    ∷ val (34 ∷ 92 ∷ 195 ∷ 169 ∷ 34 ∷ []) (value (195 ∷ 169 ∷ []) 5)
    ∷ val (34 ∷ 195 ∷ 169 ∷ []) (none 3)
    ∷ val (97 ∷ 195 ∷ 169 ∷ []) (value (97 ∷ []) 1)
    ∷ val (195 ∷ 169 ∷ []) (none 0)
    ∷ more (34 ∷ 97 ∷ 34 ∷ 43 ∷ 34 ∷ 98 ∷ 34 ∷ []) 3 (added (98 ∷ []) 7)
    ∷ more (34 ∷ 97 ∷ 34 ∷ 43 ∷ 34 ∷ 98 ∷ []) 3 (broken 6)
    ∷ more (34 ∷ 97 ∷ 34 ∷ 43 ∷ 32 ∷ 98 ∷ []) 3 (ends 5)
    ∷ more (34 ∷ 97 ∷ 34 ∷ 59 ∷ []) 3 (ends 3)
    ∷ reads false (97 ∷ 123 ∷ []) 123 2 1
    ∷ refuses false (97 ∷ 32 ∷ 98 ∷ []) 123 other_byte 2
    ∷ refuses false (97 ∷ []) 123 end_of_text 1
    ∷ refuses false (47 ∷ 47 ∷ []) 123 no_value 2
    ∷ refuses false (34 ∷ 97 ∷ []) 123 no_value 2
    ∷ refuses false (34 ∷ 97 ∷ 34 ∷ 43 ∷ 34 ∷ 98 ∷ []) 123 end_of_text 6
    ∷ refuses false (195 ∷ 169 ∷ 123 ∷ []) 123 high_byte_met 0
    ∷ refuses false (97 ∷ 195 ∷ 169 ∷ 123 ∷ []) 123 high_byte_met 1
    ∷ refuses false (34 ∷ 97 ∷ 34 ∷ 32 ∷ 43 ∷ 32 ∷ 195 ∷ 169 ∷ 123 ∷ []) 123 high_byte_met 6
    ∷ refuses false (34 ∷ 195 ∷ 169 ∷ []) 123 no_value 3
    ∷ reads true (97 ∷ 123 ∷ []) 123 2 1
    ∷ refuses true (97 ∷ []) 123 end_of_text 1
    ∷ refuses true (47 ∷ 47 ∷ []) 123 no_value 2
    ∷ refuses true (34 ∷ 97 ∷ []) 123 cut_short 2
    ∷ refuses true (34 ∷ 97 ∷ 34 ∷ 43 ∷ 34 ∷ 98 ∷ []) 123 cut_short 6
    ∷ []

right : T (all examples)
unfolding examples all holds same_val same_more is_read is_refused line_at after_argument after_due argument_at argument_of due_at due_here due_number refused_at is_high same value_at
    value_here of_string joined joined_with join_turn add_to more_at after_gap after_plus added_by is_quote starts_name breaks_off closed_at closed_here closed_string
    closed_from closed_turn closed_more str_at closed_by str_bytes str_end escaped escapes part gap_end gap_turn after_white comment_end block_end closing pair_at run_end
    span in_run in_ident class_of turns
right = tt
