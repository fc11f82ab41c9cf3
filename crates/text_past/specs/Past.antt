-- Every skip answers where and how what it skipped ended, or a refusal: 3 of a byte above 127 that it meets outside strings and comments (2026-01).
-- 2026-07: in the whole-text mode what the text's end ended is refused by 11, keyword 0, position at the text's end.
-- Assumes nothing.
use Rattle.std.specs.Prelude.{ℕ, Bool, true, false, cond, ◌&&◌, Ok, Err, Result}
use Rattle.text.specs.Refusal.{cut_at}
use Rattle.text.specs.declared.Refusal.{Refusal}
use Rattle.text_past.specs.declared.How.{How}
use Rattle.text_past.specs.declared.How.TheVariants.{Whole, Semicolon, Block, Before, Text}
use Rattle.text.specs.declared.Cursor.{Cursor}

-- whether the text's end ended what was skipped
unfoldable pub broke_off : How → Bool
broke_off Whole = false
broke_off Semicolon = false
broke_off Block = false
broke_off Before = false
broke_off Text = true

-- past what was skipped, or a refusal; whole: the whole-text mode, n: the text's length
unfoldable pub past_of : Bool → ℕ → Result (Cursor × How) Refusal → Result Cursor Refusal
past_of whole n (Ok (c, h)) = cond (whole && broke_off h) (Err (cut_at n)) (Ok c)
past_of whole n (Err r) = Err r
