-- 2026-07: "In a whole-text mode beside the old one the first such end is a refusal, also where demand 2 would have accepted. The old mode keeps every answer.
-- Refusals: 11 in the new mode only, keyword 0, position at the text's end, before 4, 6, 8 and 9 where both apply."
-- Assumes nothing.
use Rattle.std.specs.Prelude.{◌≡◌, Bool, true, false, ℕ, length, Ok}
use mathlib.Core.List.{List, [], ◌∷◌, Memᴰ}
use Rattle.text.specs.Refusal.{no_refusal, cut_at}
use Rattle.text.specs.declared.Cursor.{Cursor}
use Rattle.text.specs.declared.Refusal.{Refusal}
use Rattle.text_value.specs.Argument.{argument_of, argument_at}
use Rattle.text_value.specs.Value.{value_at}
use Rattle.text_past.specs.Past.{past_of}
use Rattle.text_past.specs.declared.How.{How}
use Rattle.yangparser.specs.Dependencies as Deps
use Rattle.scan_metadata.specs.Metadata as Meta

-- ---- the old mode: what was skipped goes on from where it ended, however that was, and a value is as it always was

pub record OldMode : Type 0 where
  pub skipped : (n : ℕ) (c : Cursor) (h : How) → past_of false n (Ok (c, h)) ≡ Ok c
  pub value : (s : List ℕ) (at u k : ℕ) → argument_at false s at u k ≡ argument_of s u k (value_at s at)

-- ---- the whole-text mode

-- what a scan tells: its refusal, or 0, 0, 0
abbrev pub told_dependencies : Deps.Scan → Refusal
told_dependencies (Deps.good d) = no_refusal
told_dependencies (Deps.bad r d) = r

abbrev pub told_metadata : Meta.Scan → Refusal
told_metadata (Meta.good m) = no_refusal
told_metadata (Meta.bad r bs) = r

-- x: a scan of s in the whole-text mode, y: in the old one. They are equal; or x is 11, 0 and the text's length, and the number that y tells is one of these.
pub data WholeOrOld {A : Type 0} (told : A → Refusal) (numbers s : List ℕ) (x y : A) : Type 0 where
  same : x ≡ y → WholeOrOld told numbers s x y
  cut : told x ≡ cut_at (length s) → Memᴰ (told y).number numbers → WholeOrOld told numbers s x y

-- 11 takes the place of good, 4, 6 or 8, of metadata of good, 4, 6 or 9, and of nothing else
abbrev pub old_dependencies : List ℕ
old_dependencies = 0 ∷ 4 ∷ 6 ∷ 8 ∷ []

abbrev pub old_metadata : List ℕ
old_metadata = 0 ∷ 4 ∷ 6 ∷ 9 ∷ []

-- of every text, whatever is lent
abbrev pub DependenciesWhole : Type 0
DependenciesWhole =
    (s : List ℕ) (short : Bool) → WholeOrOld told_dependencies old_dependencies s (Deps.dependencies true s short) (Deps.dependencies false s short)

abbrev pub MetadataWhole : Type 0
MetadataWhole = (s : List ℕ) (short : Bool) → WholeOrOld told_metadata old_metadata s (Meta.metadata true s short) (Meta.metadata false s short)
