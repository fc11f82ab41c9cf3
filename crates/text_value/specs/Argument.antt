-- A keyword's value, and the byte that is due after it. 4: no value after the keyword. 5: another byte than the one required after it.
-- 6: the end instead of that byte. Position is the cursor.
-- 2026-07: in the whole-text mode a value with a string that never closes is 11, before 4 and 6.
-- 2026-01: 3 before 4 at one place.
-- Assumes nothing.
use Rattle.std.specs.Prelude.{ℕ, ◌+◌, Bool, cond, not, ◌&&◌, List, length, Ok, Err, Result}
use Rattle.text.specs.Bytes.{look}
use Rattle.text.specs.Due.{due_at}
use Rattle.text.specs.Refusal.{no_value, refused_at, cut_at}
use Rattle.text.specs.declared.Refusal.{Refusal}
use Rattle.text_value.specs.Value.{Val, value, none, value_at, closed_at}
use Rattle.text.specs.declared.Cursor.{Cursor}

-- whole: the whole-text mode, u: the store's next place, k: the keyword, b: the byte that is due

unfoldable pub argument_of : List ℕ → ℕ → ℕ → Val → Result (Cursor × ℕ) Refusal
argument_of s u k (value bs end) = Ok ((record { at = end }), (u + length bs))
argument_of s u k (none at) = Err (refused_at (look s at) no_value k at)

-- whether a text that must be whole breaks off inside a value; closed: each string of it closes
unfoldable pub breaks_off : Bool → Bool → Bool
breaks_off whole closed = whole && not closed

-- the value alone
unfoldable pub argument_at : Bool → List ℕ → ℕ → ℕ → ℕ → Result (Cursor × ℕ) Refusal
argument_at whole s at u k = cond (breaks_off whole (closed_at s at)) (Err (cut_at (length s))) (argument_of s u k (value_at s at))

unfoldable pub after_due : ℕ → Result Cursor Refusal → Result (Cursor × ℕ) Refusal
after_due n (Ok c) = Ok (c, n)
after_due n (Err r) = Err r

unfoldable pub after_argument : List ℕ → ℕ → ℕ → Result (Cursor × ℕ) Refusal → Result (Cursor × ℕ) Refusal
after_argument s k b (Ok (c, n)) = after_due n (due_at s c.at b k)
after_argument s k b (Err r) = Err r

-- the value and the byte
unfoldable pub line_at : Bool → List ℕ → ℕ → ℕ → ℕ → ℕ → Result (Cursor × ℕ) Refusal
line_at whole s at u k b = after_argument s k b (argument_at whole s at u k)
