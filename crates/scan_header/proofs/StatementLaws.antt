-- What is lent for the whole is enough behind a keyword.
-- Assumes nothing.
use mathlib.Core.Path.{◌≡◌, sym, ◌∙◌}
use mathlib.Core.List.{List}
use Prim.Native.Nat.{ℕ, ◌+◌, ◌-◌, ◌≤◌}
use native.Mathlib.Omega.{arith}
use lib.ListN.{length}
use Rattle.text.specs.Scan.{gap_end}
use Rattle.text.specs.declared.Cursor.{Cursor}
use Rattle.text.proofs.Laws.{gap_from}
use Rattle.scan_tag.specs.Tag.{tag_at}
use Rattle.scan_tag.specs.declared.Tag.{Tag}
use Rattle.scan_tag.specs.declared.Tag.TheVariants.{Statement}
use Rattle.scan_tag.proofs.TagLaws.{tag_far}

pub statement_room : (s : List ℕ) (at u l : ℕ) {g : Cursor} → g.at ≡ gap_end s at → {t : Tag} → t ≡ tag_at s g.at → (k : ℕ) (c : Cursor) → t ≡ Statement k c
    → u + (length s - at) ≤ l → u + (length s - c.at) ≤ l
statement_room s at u l {g} ge te k c m h = omega (arith, ge, gap_from s at, tag_far s g.at k c (sym te ∙ m))
