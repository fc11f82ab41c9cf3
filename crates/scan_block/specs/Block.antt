-- The block of an import or include: until `}`, `prefix` value `;` (of an import), `revision-date` value `;`, any other statement skipped.
-- Last one read wins. 8: end inside an import or include block, where its next statement or `}` is due.
-- 2026-07: in the whole-text mode a skipped statement that the text's end ends is 11, before 8.
-- Assumes nothing.
use Rattle.std.specs.Prelude.{ℕ, suc, ◌+◌, ◌-◌, Bool, cond, List, [], ◌++◌, eqb, length, Some, None, Ok, Err, Option, Result}
use Rattle.text.specs.Bytes.{close_brace, semicolon, the_end, look}
use Rattle.text.specs.Keyword.{match_at}
use Rattle.text.specs.Scan.{gap_end}
use Rattle.text.specs.Turns.{Turn, stop, on, turns}
use Rattle.text.specs.Refusal.{no_refusal, refusal_of}
use Rattle.text.specs.Words.{prefix_word, revision_date_word, prefix_keyword, import_keyword, revision_date_keyword}
use Rattle.text.specs.declared.Refusal.{Refusal}
use Rattle.text_value.specs.Value.{value_at, value_bytes}
use Rattle.text_value.specs.Argument.{line_at}
use Rattle.text_statement.specs.Statement.{past_statement}
use Rattle.scan_block.specs.Left.{Left, nothing}
use Rattle.scan_rows.specs.Span.{held, missing}
use Rattle.scan_rows.specs.declared.Span.{Span}
use Rattle.scan_block.specs.declared.Body.{Body}
use Rattle.scan_block.specs.declared.Inside.{Inside}
use Rattle.scan_block.specs.declared.Inside.TheVariants.{On, Closed}
use Rattle.text.specs.declared.Cursor.{Cursor}

abbrev pub open_ended : ℕ
open_ended = 8

-- ---- what a statement of the block is; k: import or include

-- the keyword j, if it matched
unfoldable pub or_line : ℕ → Option Cursor → Option (ℕ × Cursor) → Option (ℕ × Cursor)
or_line j (Some c) l = Some (j, c)
or_line j None l = l

abbrev pub revision_line : List ℕ → ℕ → Option (ℕ × Cursor)
revision_line s at = or_line revision_date_keyword (match_at s at revision_date_word) None

abbrev pub prefix_line : List ℕ → ℕ → Option (ℕ × Cursor)
prefix_line s at = or_line prefix_keyword (match_at s at prefix_word) (revision_line s at)

unfoldable pub line_kind : List ℕ → ℕ → ℕ → Option (ℕ × Cursor)
line_kind s at k = cond (eqb k import_keyword) (prefix_line s at) (revision_line s at)

-- ---- one statement, or the end of the block; b: what the block gave so far, and where it stands

-- the value x of the keyword j: the last one read wins
unfoldable pub kept : Body → ℕ → ℕ → ℕ → Span → Body
kept b j at n x =
    cond (eqb j prefix_keyword)
    (record { at = at; used = n; prefix = x; revision = b.revision })
    (record { at = at; used = n; prefix = b.prefix; revision = x })

unfoldable pub with_value : Body → ℕ → Result (Cursor × ℕ) Refusal → Result Inside Refusal
with_value b j (Ok (c, n)) = Ok (On (kept b j c.at n (held b.used (n - b.used))))
with_value b j (Err r) = Err r

-- the same from another place
abbrev pub moved : Body → ℕ → Body
moved b at = record { at = at; used = b.used; prefix = b.prefix; revision = b.revision }

-- any other statement is skipped
unfoldable pub with_skipped : Body → Result Cursor Refusal → Result Inside Refusal
with_skipped b (Ok c) = Ok (On (moved b c.at))
with_skipped b (Err r) = Err r

-- a value's bytes are stored, also where the semicolon is missing after it; whole: the whole-text mode
unfoldable pub after_kind : Bool → List ℕ → ℕ → Body → Option (ℕ × Cursor) → Left (Result Inside Refusal)
after_kind whole s at b (Some (j, c)) =
    record { answer = with_value b j (line_at whole s c.at b.used j semicolon); bytes = value_bytes (value_at s c.at) }
after_kind whole s at b None = nothing (with_skipped b (past_statement whole s at))

-- at the place after the gap
unfoldable pub inside_here : Bool → List ℕ → ℕ → ℕ → Body → Left (Result Inside Refusal)
inside_here whole s at k b =
    cond (eqb (look s at) the_end) (nothing (Err (record { number = open_ended; keyword = k; at = at })))
    (cond (eqb (look s at) close_brace) (nothing (Ok (Closed (moved b (at + 1))))) (after_kind whole s at b (line_kind s at k)))

unfoldable pub inside_at : Bool → List ℕ → ℕ → Body → Left (Result Inside Refusal)
inside_at whole s k b = inside_here whole s (gap_end s b.at) k b

-- ---- the whole block

-- the block so far, and the bytes that it stored
pub record Stored : Type 0 where
  pub body : Body
  pub bytes : List ℕ

unfoldable pub after_inside : List ℕ → Result Inside Refusal → Turn Stored (Left (Result Body Refusal))
after_inside bytes (Ok (On b)) = on (record { body = b; bytes = bytes })
after_inside bytes (Ok (Closed b)) = stop (record { answer = Ok b; bytes = bytes })
after_inside bytes (Err r) = stop (record { answer = Err r; bytes = bytes })

unfoldable pub block_turn : Bool → List ℕ → ℕ → Stored → Turn Stored (Left (Result Body Refusal))
block_turn whole s k g = after_inside (g.bytes ++ (inside_at whole s k g.body).bytes) (inside_at whole s k g.body).answer

unfoldable pub block_from : Bool → List ℕ → ℕ → Stored → Left (Result Body Refusal)
block_from whole s k g = turns (block_turn whole s k) (nothing (Err no_refusal)) (suc (length s)) g

-- nothing read yet: behind its `{`, at the store's place u
abbrev pub begun : ℕ → ℕ → Body
begun at u = record { at = at; used = u; prefix = missing; revision = missing }

unfoldable pub block_at : Bool → List ℕ → ℕ → ℕ → ℕ → Left (Result Body Refusal)
block_at whole s at u k = block_from whole s k (record { body = begun at u; bytes = [] })

-- its refusal, or none
unfoldable pub block_refusal : Result Body Refusal → Refusal
block_refusal x = refusal_of x
