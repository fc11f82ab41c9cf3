-- Skipping a token: a whole quoted string, a whole name if it starts with letter or `_`, else one byte.
-- The string closes by the rules of a value. 2026-01: a byte above 127 that is met as a token is refused (3).
-- `yang-version`, value if there is one: that value is skipped by the rules of a value too, and nothing of it is stored.
-- Assumes nothing.
use Rattle.std.specs.Prelude.{ℕ, ◌+◌, Bool, false, cond, List, length, drop, leb, Ok, Err, Some, None, Result, Option}
use Rattle.text.specs.Bytes.{look}
use Rattle.text.specs.Keyword.{starts_ident}
use Rattle.text.specs.Refusal.{is_high, high_at}
use Rattle.text.specs.Scan.{run_end}
use Rattle.text.specs.declared.Run.TheVariants.{Name}
use Rattle.text_string.specs.Str.{is_quote, str_end}
use Rattle.text_value.specs.Value.{More, added, ends, broken, joined, value_at, place_of, closed_from, closed_at}
use Rattle.text_past.specs.Past.{past_of}
use Rattle.text_past.specs.declared.How.{How}
use Rattle.text_past.specs.declared.How.TheVariants.{Whole, Text}
use Rattle.std.specs.declared.ops.ControlFlow.{ControlFlow}
use Rattle.std.specs.declared.ops.ControlFlow.TheVariants.{Continue, Break}
use Rattle.text.specs.declared.Cursor.{Cursor}
use Rattle.text.specs.declared.Refusal.{Refusal}

-- past a whole token or value; past one that the text's end ended
abbrev pub past_whole : ℕ → Result (Cursor × How) Refusal
past_whole end = Ok ((record { at = end }), Whole)

abbrev pub past_text : ℕ → Result (Cursor × How) Refusal
past_text end = Ok ((record { at = end }), Text)

-- ---- a token

-- a string, closed or not
unfoldable pub closed_token : List ℕ → Option ℕ → Result (Cursor × How) Refusal
closed_token s (Some end) = past_whole end
closed_token s None = past_text (length s)

-- within the text
unfoldable pub token_here : List ℕ → ℕ → Result (Cursor × How) Refusal
token_here s at =
    cond (is_quote (look s at)) (closed_token s (str_end (look s at) false (drop (at + 1) s) (at + 1)))
    (cond (starts_ident (look s at)) (past_whole (run_end Name s at))
    (cond (is_high (look s at)) (Err (high_at at)) (past_whole (at + 1))))

-- at the end nothing is skipped
unfoldable pub token_at : List ℕ → ℕ → Result (Cursor × How) Refusal
token_at s at = cond (leb (length s) at) (past_whole at) (token_here s at)

-- past it
unfoldable pub past_token : Bool → List ℕ → ℕ → Result Cursor Refusal
past_token whole s at = past_of whole (length s) (token_at s at)

-- ---- a value

-- what follows a string of it: one more that is added, or the value's end
unfoldable pub tail_of : More → Result (ControlFlow (Cursor × How) Cursor) Refusal
tail_of (added bs end) = Ok (Continue (record { at = end }))
tail_of (ends end) = Ok (Break (record { at = end }, Whole))
tail_of (broken end) = Ok (Break (record { at = end }, Text))

-- how it ends: with each of its strings closed, or by the text's end
abbrev pub how_closed : Bool → How
how_closed closed = cond closed Whole Text

-- all that is added, from a place after a string on
unfoldable pub added_at : List ℕ → ℕ → Result (Cursor × How) Refusal
added_at s at = Ok ((record { at = (joined s at).end }), (how_closed (closed_from s at)))

-- after a gap
unfoldable pub skipped_at : List ℕ → ℕ → Result (Cursor × How) Refusal
skipped_at s at = Ok ((record { at = place_of (value_at s at) }), (how_closed (closed_at s at)))

-- past it
unfoldable pub past_value : Bool → List ℕ → ℕ → Result Cursor Refusal
past_value whole s at = past_of whole (length s) (skipped_at s at)
