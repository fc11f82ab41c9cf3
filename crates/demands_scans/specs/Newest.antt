-- Newest revision: the greatest revision value read, in byte order, a beginning before what it begins; of equals the first. Newest refers to its revision's
-- bytes.
-- Assumes nothing.
use Rattle.std.specs.Prelude.{◌≡◌, Bool, true, false, List, [], ℕ}
use Rattle.scan_rows.specs.Rows.{Each}
use Rattle.scan_rows.specs.Span.{missing, value_in}
use Rattle.scan_newest.specs.Newest.{less, newest, First}
use Rattle.scan_metadata.specs.Metadata.{Metadata, good, metadata}

-- of what a metadata scan read
pub record NewestIsRight (m : Metadata) : Type 0 where
  -- present exactly if a revision was read
  pub none : m.revisions ≡ [] → (newest m.revisions).span ≡ missing
  pub some : (m.revisions ≡ [] → ⊥) → (newest m.revisions).span.present ≡ true
  -- no revision is greater
  pub greatest : Each (λ r. less (newest m.revisions).value r.value ≡ false) m.revisions
  -- it is one of them, and all before it are less
  pub first : (m.revisions ≡ [] → ⊥) → First m.revisions (newest m.revisions)
  -- its bytes are where it says
  pub stored : value_in m.bytes (newest m.revisions).span ≡ (newest m.revisions).value

-- and so for every good scan, in either mode
abbrev pub NewestRight : Type 0
NewestRight = (whole : Bool) (s : List ℕ) (short : Bool) (m : Metadata) → metadata whole s short ≡ good m → NewestIsRight m
