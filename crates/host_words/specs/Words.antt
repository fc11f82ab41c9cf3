-- The answers as words. Of a name: number, place of the fault, found, and two more. Of metadata: present, start and length of each value. Those of a scan
-- and of a graph are in crate nuvaleta (Words), over what these answer.
-- Assumes nothing.
use Rattle.std.specs.Prelude.{ℕ, ◌<◌, List, [], ◌∷◌, Err, Ok, None, Some, Result, Option}
use Rattle.scan_rows.specs.Span.{mark_of}
use Rattle.scan_rows.specs.declared.Span.{Span}

-- ---- a name

-- `number`: the refusal of what is broken, 20 for an image and 21 for a bundle
unfoldable pub told_words : (number : ℕ) → Result (Option (ℕ × ℕ)) ℕ → List ℕ
told_words number (Err p) = number ∷ p ∷ 0 ∷ 0 ∷ 0 ∷ []
told_words number (Ok None) = 0 ∷ 0 ∷ 0 ∷ 0 ∷ 0 ∷ []
told_words number (Ok (Some (a, b))) = 0 ∷ 0 ∷ 1 ∷ a ∷ b ∷ []

-- places and counts are words
unfoldable pub ToldFits : Result (Option (ℕ × ℕ)) ℕ → Type 0
ToldFits (Err p) = p < 4294967296
ToldFits (Ok None) = Unit {0}
ToldFits (Ok (Some (a, b))) = (a < 4294967296) × (b < 4294967296)

-- ---- metadata

unfoldable pub record_words : List Span → List ℕ
record_words [] = []
record_words (x ∷ xs) = mark_of x ∷ x.start ∷ x.size ∷ record_words xs
