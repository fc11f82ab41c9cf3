-- A value that a scan read: where it starts in the value store and how long it is. A missing value has 0, 0; a present one may be empty.
-- Assumes nothing.
use Rattle.std.specs.Prelude.{ℕ, ◌+◌, ◌<◌, ◌≤◌, true, false, cond, List, take, drop}
use Rattle.scan_rows.specs.declared.Span.{Span}

abbrev pub held : ℕ → ℕ → Span
held start size = record { present = true; start = start; size = size }

abbrev pub missing : Span
missing = record { present = false; start = 0; size = 0 }

-- 1 or 0 for present, then start and length
abbrev pub mark_of : Span → ℕ
mark_of x = cond x.present 1 0

-- its bytes in the store
unfoldable pub value_in : List ℕ → Span → List ℕ
value_in store x = take x.size (drop x.start store)

-- both numbers are words
abbrev pub Fits : Span → Type 0
Fits x = (x.start < 4294967296) × (x.size < 4294967296)

-- it ends among the first n bytes of the store
abbrev pub Within : ℕ → Span → Type 0
Within n x = x.start + x.size ≤ n
