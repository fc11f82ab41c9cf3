-- A byte that is required after a gap. 5: another byte than the one required after it. 6: the end instead of that byte.
-- A refusal has its number, its keyword and its position, which is the cursor after the gap. 2026-01: 3 before 5 at one place.
-- Assumes nothing.
use Rattle.std.specs.Prelude.{ℕ, ◌+◌, cond, List, eqb, Ok, Err, Result}
use Rattle.text.specs.Bytes.{the_end, look}
use Rattle.text.specs.Refusal.{other_byte, end_of_text, refused_at}
use Rattle.text.specs.Scan.{gap_end}
use Rattle.text.specs.declared.Refusal.{Refusal}
use Rattle.text.specs.declared.Cursor.{Cursor}

-- c stands where b is due: the end, or another byte
unfoldable pub due_number : ℕ → ℕ
due_number c = cond (eqb c the_end) end_of_text other_byte

-- the byte b at a place, for the keyword k
unfoldable pub due_here : List ℕ → ℕ → ℕ → ℕ → Result Cursor Refusal
due_here s at b k =
    cond (eqb (look s at) b) (Ok (record { at = at + 1 }))
    (Err (refused_at (look s at) (due_number (look s at)) k at))

-- and after a gap
unfoldable pub due_at : List ℕ → ℕ → ℕ → ℕ → Result Cursor Refusal
due_at s at b k = due_here s (gap_end s at) b k
