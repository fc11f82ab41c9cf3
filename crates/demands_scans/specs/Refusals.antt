-- Which refusals a scan can give, by number and keyword. 1, 2 and 12 are given exactly when they are due. Of 3 it is shown that such a byte stands there. Of 4
-- to 10 it is shown that no other number or keyword comes: when they come is in the definitions of the scans alone. 11 comes in the whole-text mode only
-- (2026-07).
-- Assumes nothing.
use Rattle.std.specs.Prelude.{ℕ, ◌≤◌, ◌<◌, ◌≡◌, Bool, true, false, length}
use mathlib.Core.List.{List, [], ◌∷◌, Memᴰ}
use Rattle.text.specs.Refusal.{cut_at, MetHigh}
use Rattle.text.specs.declared.Refusal.{Refusal}
use Rattle.text_utf8.specs.Utf8.{wrong_from}

-- one of these numbers with one of these keywords
pub record OneOf (numbers keywords : List ℕ) (r : Refusal) : Type 0 where
  pub number : Memᴰ r.number numbers
  pub keyword : Memᴰ r.keyword keywords

-- what is checked first; short: whether something lent is too short, which the promises find from the lengths; `wrong_from s 0`: where the first sequence starts
-- that is no UTF-8, or the end
pub data FirstRefusal (s : List ℕ) (short : Bool) (r : Refusal) : Type 0 where
  too_long : 1048576 < length s → r ≡ record { number = 1; keyword = 0; at = 0 } → FirstRefusal s short r
  too_little : length s ≤ 1048576 → short ≡ true → r ≡ record { number = 2; keyword = 0; at = 0 } → FirstRefusal s short r
  not_utf8 : length s ≤ 1048576 → short ≡ false → wrong_from s 0 < length s → r ≡ record { number = 12; keyword = 0; at = wrong_from s 0 }
      → FirstRefusal s short r

-- then the text is read
pub record Fits (s : List ℕ) (short : Bool) : Type 0 where
  pub few : length s ≤ 1048576
  pub enough : short ≡ false
  pub utf8 : wrong_from s 0 ≡ length s

pub data RefusedAs (Read : Refusal → Type 0) (s : List ℕ) (short : Bool) (r : Refusal) : Type 0 where
  first : FirstRefusal s short r → RefusedAs Read s short r
  read : Fits s short → Read r → RefusedAs Read s short r

-- One statement: k is its keyword, 8 import or 9 include. Other keywords: 5 prefix, 10 revision-date.
pub data StatementRefusal (k : ℕ) (r : Refusal) : Type 0 where
  -- a value, or the byte due after it: its name's, or that of a revision-date
  argument : OneOf (4 ∷ 5 ∷ 6 ∷ []) (k ∷ 10 ∷ []) r → StatementRefusal k r
  -- that of a prefix, which only an import has; and an import without one
  prefix : k ≡ 8 → OneOf (4 ∷ 5 ∷ 6 ∷ []) (5 ∷ []) r → StatementRefusal k r
  no_prefix : k ≡ 8 → OneOf (7 ∷ []) (8 ∷ []) r → StatementRefusal k r
  -- the end inside its block
  block : OneOf (8 ∷ []) (k ∷ []) r → StatementRefusal k r

-- a statement's refusal, or a 257th row
pub data DependenciesRefusal (r : Refusal) : Type 0 where
  import : StatementRefusal 8 r → DependenciesRefusal r
  include : StatementRefusal 9 r → DependenciesRefusal r
  rows : OneOf (10 ∷ []) (8 ∷ 9 ∷ []) r → DependenciesRefusal r

-- One statement of a header. Keywords: 1 module, 2 submodule, 3 belongs-to, 4 namespace, 5 prefix, 6 yang-version, 7 revision.
pub data HeaderRefusal (r : Refusal) : Type 0 where
  no_value : OneOf (4 ∷ []) (1 ∷ 2 ∷ 3 ∷ 4 ∷ 5 ∷ 7 ∷ []) r → HeaderRefusal r
  no_byte : OneOf (5 ∷ 6 ∷ []) (1 ∷ 2 ∷ 4 ∷ 5 ∷ 6 ∷ 7 ∷ []) r → HeaderRefusal r

-- a statement's refusal, or no name
pub data MetadataRefusal (r : Refusal) : Type 0 where
  header : HeaderRefusal r → MetadataRefusal r
  no_name : OneOf (9 ∷ []) (0 ∷ []) r → MetadataRefusal r

-- A byte above 127 that is met outside strings and comments (2026-01): 3, keyword 0, at that byte. Or one of the others.
pub data MetRefusal (Read : Refusal → Type 0) (s : List ℕ) (r : Refusal) : Type 0 where
  high : MetHigh s r → MetRefusal Read s r
  other : Read r → MetRefusal Read s r

-- In the whole-text mode: 11 at the text's end, or a refusal of the old mode
pub data WholeRefusal (Read : Refusal → Type 0) (s : List ℕ) (r : Refusal) : Type 0 where
  cut_short : r ≡ cut_at (length s) → WholeRefusal Read s r
  as_before : Read r → WholeRefusal Read s r

-- by the mode
abbrev pub ModeRefusal : Bool → (Refusal → Type 0) → List ℕ → Refusal → Type 0
ModeRefusal true Read s r = WholeRefusal (MetRefusal Read s) s r
ModeRefusal false Read s r = MetRefusal Read s r
