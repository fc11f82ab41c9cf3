-- Dependencies: tokens are skipped until `import` or `include` matches. A matched `organization`, `contact`, `description` or `reference` ends the scan.
-- Assumes nothing.
use Rattle.std.specs.Prelude.{ℕ, List, Some, None, Option}
use Rattle.text.specs.Keyword.{match_at, or_match}
use Rattle.text.specs.Words.{import_word, include_word, organization_word, contact_word, description_word, reference_word}
use Rattle.text.specs.declared.Cursor.{Cursor}
use Rattle.scan_head.specs.declared.Head.{Head}
use Rattle.scan_head.specs.declared.Head.TheVariants.{Import, Include, Last, Other}

-- one of the four that end the scan
unfoldable pub last_at : List ℕ → ℕ → Option Cursor
last_at s at =
    or_match (match_at s at organization_word) (or_match (match_at s at contact_word) (or_match (match_at s at description_word) (match_at s at reference_word)))

unfoldable pub or_head : (Cursor → Head) → Option Cursor → Head → Head
or_head f (Some c) w = f c
or_head f None w = w

unfoldable pub head_at : List ℕ → ℕ → Head
head_at s at = or_head Import (match_at s at import_word) (or_head Include (match_at s at include_word) (or_head Last (last_at s at) Other))
