-- What the functions answer and leave. whole: the whole-text mode; d: the store at entry; e: at exit.
-- Assumes nothing.
use Rattle.std.specs.Prelude.{ℕ, ◌≤◌, ◌≡◌, Bool, List, ltb, length}
use Rattle.std.proofs.lemmas.List.Edits.{sets}
use Rattle.text_lent.specs.Padded.{zeros, padded}
use Rattle.scan_metadata.specs.Metadata.{Scan, scanned, metadata, answer_of, stored_of, kept_of}
use Rattle.scan_metadata.specs.declared.YangModuleMetadata.{YangModuleMetadata}

-- the inner scan, on a refusal too: it touches only what it uses
pub record Parses (whole : Bool) (s d : List ℕ) (r : YangModuleMetadata) (e : List ℕ) : Type 0 where
  pub answer : r ≡ answer_of (scanned whole s)
  pub stored : e ≡ sets d 0 (stored_of (scanned whole s))

-- the lent store is zero and long enough
pub record Cleared (s d : List ℕ) : Type 0 where
  pub store : d ≡ zeros (length d)
  pub room : length s ≤ length d

-- what an entry leaves of a scan x: all beyond what is used is zero, and on a refusal all
pub record Leaves (x : Scan) (d : List ℕ) (r : YangModuleMetadata) (e : List ℕ) : Type 0 where
  pub answer : r ≡ answer_of x
  pub stored : e ≡ padded (length d) (kept_of x)

-- the length lent is part of the input
abbrev pub Extracts : Bool → List ℕ → List ℕ → YangModuleMetadata → List ℕ → Type 0
Extracts whole s d r e = Leaves (metadata whole s (ltb (length d) (length s))) d r e
