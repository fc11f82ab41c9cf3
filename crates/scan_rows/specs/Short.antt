-- Whether something lent for a scan is too short: the store must be at least as long as the text; tables need 1,792 and 1,280 words.
-- Assumes nothing.
use Rattle.std.specs.Prelude.{ℕ, ◌*◌, Bool, ◌||◌, ltb}
use Rattle.scan_rows.specs.Rows.{most_rows, import_size, include_size}

-- the lengths of the text, of the store, of the import table and of the include table; short: whether something else that was lent is too short
unfoldable pub is_too_short : Bool → ℕ → ℕ → ℕ → ℕ → Bool
is_too_short short text store imports includes =
    short || ltb store text || ltb imports (most_rows * import_size) || ltb includes (most_rows * include_size)
