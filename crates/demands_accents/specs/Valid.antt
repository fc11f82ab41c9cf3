-- Valid UTF-8: characters of RFC 3629 from the first byte to the last.
-- Assumes nothing.
use Rattle.std.specs.Prelude.{ℕ, ◌≡◌, List, length}
use Rattle.text_utf8.specs.Utf8.{wrong_from}

-- the first wrong sequence of the bytes is none: it stands at their end
abbrev pub Valid : List ℕ → Type 0
Valid s = wrong_from s 0 ≡ length s
