-- Which keyword stands at a place: the keywords' own answers, in the order in which they are tried. One that matched ends behind its first byte and
-- within the text.
-- Assumes nothing.
use Rattle.std.specs.Prelude.{Some, None, Option}
use mathlib.Core.Path.{◌≡◌, refl, sym, ◌∙◌}
use mathlib.Core.Bool.{Bool, false}
use mathlib.Core.List.{List}
use Prim.Native.Nat.{ℕ, ◌<◌, ◌≤◌}
use native.Mathlib.Omega.{arith}
use lib.ListN.{length, get_or}
use Rattle.text.specs.Keyword.{starts_ident, match_at, or_match}
use Rattle.text.specs.Words.{import_word, include_word, organization_word, contact_word, description_word, reference_word}
use Rattle.text.specs.declared.Cursor.{Cursor}
use Rattle.text.proofs.KeywordLaws.{match_none, match_far}
use Rattle.scan_head.specs.Head.{last_at, or_head, head_at}
use Rattle.scan_head.specs.declared.Head.{Head}
use Rattle.scan_head.specs.declared.Head.TheVariants.{Import, Include, Last, Other}

-- i, n, l: what the functions answered for import, include and the four
module _ (s : List ℕ) (at : ℕ) {i : Option Cursor} (ie : i ≡ match_at s at import_word) where
  pub head_import : (c : Cursor) → i ≡ Some c → head_at s at ≡ Import c
  unfolding head_at or_head
  head_import c h = rw (sym ie ∙ h) refl

  module _ (no : i ≡ None) {n : Option Cursor} (ne : n ≡ match_at s at include_word) where
    pub head_include : (c : Cursor) → n ≡ Some c → head_at s at ≡ Include c
    unfolding head_at or_head
    head_include c h = rw (sym ie ∙ no, sym ne ∙ h) refl

-- p stands here, and no identifier begins so
pub head_none : (s : List ℕ) (at : ℕ) {p : ℕ} {t : Bool} → p ≡ get_or s at 256 → t ≡ starts_ident p → t ≡ false → head_at s at ≡ Other
unfolding head_at or_head last_at or_match
head_none s at pe te n =
    let no : (word : List ℕ) → match_at s at word ≡ None = λ word. match_none s at word pe te n in
    rw (no import_word, no include_word, no organization_word, no contact_word, no description_word, no reference_word) refl

-- ---- where it ends

-- m: what import answered, w: the word where it is none
import_is : (m : Option Cursor) (w : Head) (c : Cursor) → ((d : Cursor) → w ≡ Import d → ⊥) → or_head Import m w ≡ Import c → m ≡ Some c
unfolding or_head
import_is (Some d) w c other h = cc
import_is None w c other h = absurd (other c h)

not_import : (m l : Option Cursor) (c : Cursor) → or_head Include m (or_head Last l Other) ≡ Import c → ⊥
unfolding or_head
not_import (Some d) l c h = let z : ◌≡◌ {A = ℕ} 0 1 = cc in omega arith
not_import None (Some d) c h = let z : ◌≡◌ {A = ℕ} 0 1 = cc in omega arith
not_import None None c h = let z : ◌≡◌ {A = ℕ} 0 1 = cc in omega arith

include_is : (i m l : Option Cursor) (c : Cursor) → or_head Import i (or_head Include m (or_head Last l Other)) ≡ Include c → m ≡ Some c
unfolding or_head
include_is (Some d) m l c h = let z : ◌≡◌ {A = ℕ} 0 1 = cc in absurd (omega arith)
include_is None (Some d) l c h = cc
include_is None None (Some d) c h = let z : ◌≡◌ {A = ℕ} 0 1 = cc in absurd (omega arith)
include_is None None None c h = let z : ◌≡◌ {A = ℕ} 0 1 = cc in absurd (omega arith)

pub head_import_far : (s : List ℕ) (at : ℕ) (c : Cursor) → head_at s at ≡ Import c → (at < c.at) × (c.at ≤ length s)
unfolding head_at
head_import_far s at c h =
    match_far s at import_word c
    (import_is (match_at s at import_word) (or_head Include (match_at s at include_word) (or_head Last (last_at s at) Other)) c
    (not_import (match_at s at include_word) (last_at s at)) h)

pub head_include_far : (s : List ℕ) (at : ℕ) (c : Cursor) → head_at s at ≡ Include c → (at < c.at) × (c.at ≤ length s)
unfolding head_at
head_include_far s at c h =
    match_far s at include_word c (include_is (match_at s at import_word) (match_at s at include_word) (last_at s at) c h)
