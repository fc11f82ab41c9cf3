-- Skipping a statement: gaps outside strings; `;` at depth 0 ends it, so does the `}` that returns to depth 0; `}` at depth 0 ends it
-- unconsumed. A string here ends at its own quote unless the byte before is a backslash, in single quotes too.
-- 2026-01: a byte above 127 outside strings and comments is refused (3).
-- Assumes nothing.
use Rattle.std.specs.Prelude.{ℕ, suc, ◌+◌, ◌-◌, Bool, cond, not, ◌&&◌, List, [], ◌∷◌, length, drop, eqb, leb, Ok, Err, Result}
use Rattle.text.specs.Bytes.{backslash, semicolon, open_brace, close_brace, look}
use Rattle.text.specs.Refusal.{is_high, high_at}
use Rattle.text.specs.Scan.{gap_end}
use Rattle.text.specs.Turns.{Turn, stop, on, turns}
use Rattle.text_string.specs.Str.{is_quote}
use Rattle.text_past.specs.Past.{past_of}
use Rattle.text_past.specs.declared.How.TheVariants.{Semicolon, Block, Before, Text}
use Rattle.std.specs.declared.ops.ControlFlow.{ControlFlow}
use Rattle.std.specs.declared.ops.ControlFlow.TheVariants.{Continue, Break}
use Rattle.text.specs.declared.Cursor.{Cursor}
use Rattle.text_past.specs.declared.How.{How}
use Rattle.text.specs.declared.Refusal.{Refusal}

-- ---- a string

-- whether the byte b closes a string in quotes q, where the byte before it is p
unfoldable pub closes : ℕ → ℕ → ℕ → Bool
closes q p b = eqb b q && not (eqb p backslash)

-- how many bytes xs has up to and with the closing quote, or all
unfoldable pub quoted_len : ℕ → ℕ → List ℕ → ℕ
quoted_len q p [] = 0
quoted_len q p (b ∷ xs) = cond (closes q p b) 1 (suc (quoted_len q b xs))

-- the place after the string whose bytes start at a place: the byte before the first is its quote
unfoldable pub quoted_end : List ℕ → ℕ → ℕ → ℕ
quoted_end s at q = at + quoted_len q q (drop at s)

-- ---- a part of a statement, at depth d

-- a part was passed, and the depth after it; or the statement ended, and how; or it is refused
abbrev pub Part : Type 0
Part = Result (ControlFlow (Cursor × How) (Cursor × ℕ)) Refusal

abbrev pub On : Cursor → ℕ → Part
On c d = Ok (Continue (c, d))

abbrev pub Stop : Cursor → How → Part
Stop c how = Ok (Break (c, how))

-- after a semicolon
unfoldable pub at_semicolon : ℕ → ℕ → Part
at_semicolon next d = cond (eqb d 0) (Stop (record { at = next }) Semicolon) (On (record { at = next }) d)

-- at a closing brace, and after it
unfoldable pub at_close : ℕ → ℕ → ℕ → Part
at_close at next d =
    cond (eqb d 0) (Stop (record { at = at }) Before)
    (cond (eqb d 1) (Stop (record { at = next }) Block) (On (record { at = next }) (d - 1)))

-- at any other byte b, and after it
unfoldable pub at_other : ℕ → ℕ → ℕ → ℕ → Part
at_other at next d b = cond (is_high b) (Err (high_at at)) (On (record { at = next }) d)

-- b: what stands at the place
unfoldable pub part_of : List ℕ → ℕ → ℕ → ℕ → Part
part_of s at d b =
    cond (is_quote b) (On (record { at = quoted_end s (at + 1) b }) d)
    (cond (eqb b semicolon) (at_semicolon (at + 1) d)
    (cond (eqb b open_brace) (On (record { at = at + 1 }) (d + 1))
    (cond (eqb b close_brace) (at_close at (at + 1) d) (at_other at (at + 1) d b))))

unfoldable pub part_at : List ℕ → ℕ → ℕ → Part
part_at s at d = cond (leb (length s) at) (Stop (record { at = at }) Text) (part_of s at d (look s at))

-- ---- a statement

-- a place inside a statement, and the depth there
pub record Inside : Type 0 where
  pub at : ℕ
  pub depth : ℕ

unfoldable pub of_part : Part → Turn Inside (Result (Cursor × How) Refusal)
of_part (Ok (Continue (c, d))) = on (record { at = c.at; depth = d })
of_part (Ok (Break end)) = stop (Ok end)
of_part (Err r) = stop (Err r)

unfoldable pub statement_turn : List ℕ → Inside → Turn Inside (Result (Cursor × How) Refusal)
statement_turn s i = of_part (part_at s (gap_end s i.at) i.depth)

unfoldable pub statement_from : List ℕ → ℕ → ℕ → Result (Cursor × How) Refusal
statement_from s at d = turns (statement_turn s) (Ok ((record { at = 0 }), Text)) (suc (length s)) (record { at = at; depth = d })

unfoldable pub statement_at : List ℕ → ℕ → Result (Cursor × How) Refusal
statement_at s at = statement_from s at 0

-- past it, in the whole-text mode or not
unfoldable pub past_statement : Bool → List ℕ → ℕ → Result Cursor Refusal
past_statement whole s at = past_of whole (length s) (statement_at s at)
