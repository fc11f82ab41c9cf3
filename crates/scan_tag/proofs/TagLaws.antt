-- Which keyword of the header stands at a place: each is an answer of a keyword's own match, so it ends behind its first byte and within the
-- text, and where no identifier begins there is none.
-- Assumes nothing.
use Rattle.std.specs.Prelude.{Some, None, Option}
use mathlib.Core.Path.{◌≡◌, refl, subst}
use mathlib.Core.Bool.{Bool, false}
use mathlib.Core.List.{List}
use Prim.Native.Nat.{ℕ, ◌<◌, ◌≤◌}
use lib.ListN.{length, get_or}
use Rattle.text.specs.Keyword.{starts_ident, match_at, or_match}
use Rattle.text.specs.Words.{module_word, submodule_word, belongs_to_word, namespace_word, prefix_word, yang_version_word, revision_word, container_word, list_word}
use Rattle.text.specs.Words.{leaf_word, grouping_word, typedef_word, identity_word, augment_word, rpc_word, notification_word}
use Rattle.text.specs.declared.Cursor.{Cursor}
use Rattle.text.proofs.KeywordLaws.{Far, match_none, match_far, or_match_far}
use Rattle.scan_tag.specs.Tag.{data_at, last_tag, or_tag, tag_at}
use Rattle.scan_tag.specs.declared.Tag.{Tag}
use Rattle.scan_tag.specs.declared.Tag.TheVariants.{Statement, Last, Other}

-- ---- where it ends

data_far : (s : List ℕ) (at : ℕ) → Far s at (data_at s at)
unfolding data_at
data_far s at =
    let by : (word : List ℕ) → Far s at (match_at s at word) = match_far s at in
    or_match_far s at _ _ (by container_word) (or_match_far s at _ _ (by list_word) (or_match_far s at _ _ (by leaf_word)
    (or_match_far s at _ _ (by grouping_word) (or_match_far s at _ _ (by typedef_word) (or_match_far s at _ _ (by identity_word)
    (or_match_far s at _ _ (by augment_word) (or_match_far s at _ _ (by rpc_word) (by notification_word))))))))

abbrev TagFar : List ℕ → ℕ → Tag → Type 0
TagFar s at (Statement k c) = (at < c.at) × (c.at ≤ length s)
TagFar s at (Last c) = (at < c.at) × (c.at ≤ length s)
TagFar s at Other = Unit {0}

last_tag_far : (s : List ℕ) (at : ℕ) (m : Option Cursor) → Far s at m → TagFar s at (last_tag m)
unfolding last_tag
last_tag_far s at (Some c) f = f c refl
last_tag_far s at None f = tt

or_tag_far : (s : List ℕ) (at k : ℕ) (m : Option Cursor) (t : Tag) → Far s at m → TagFar s at t → TagFar s at (or_tag k m t)
unfolding or_tag
or_tag_far s at k (Some c) t f g = f c refl
or_tag_far s at k None t f g = g

tag_goes : (s : List ℕ) (at : ℕ) → TagFar s at (tag_at s at)
unfolding tag_at
tag_goes s at =
    let by : (word : List ℕ) → Far s at (match_at s at word) = match_far s at in
    or_tag_far s at _ _ _ (by module_word) (or_tag_far s at _ _ _ (by submodule_word) (or_tag_far s at _ _ _ (by belongs_to_word)
    (or_tag_far s at _ _ _ (by namespace_word) (or_tag_far s at _ _ _ (by prefix_word) (or_tag_far s at _ _ _ (by yang_version_word)
    (or_tag_far s at _ _ _ (by revision_word) (last_tag_far s at _ (data_far s at))))))))

pub tag_far : (s : List ℕ) (at k : ℕ) (c : Cursor) → tag_at s at ≡ Statement k c → (at < c.at) × (c.at ≤ length s)
tag_far s at k c h = subst (TagFar s at) h (tag_goes s at)

pub tag_last_far : (s : List ℕ) (at : ℕ) (c : Cursor) → tag_at s at ≡ Last c → (at < c.at) × (c.at ≤ length s)
tag_last_far s at c h = subst (TagFar s at) h (tag_goes s at)

-- ---- where none stands

-- p stands here, and no identifier begins so
pub tag_none : (s : List ℕ) (at : ℕ) {p : ℕ} {t : Bool} → p ≡ get_or s at 256 → t ≡ starts_ident p → t ≡ false → tag_at s at ≡ Other
unfolding tag_at or_tag last_tag data_at or_match
tag_none s at pe te n =
    let no : (word : List ℕ) → match_at s at word ≡ None = λ word. match_none s at word pe te n in
    rw (no module_word, no submodule_word, no belongs_to_word, no namespace_word, no prefix_word, no yang_version_word, no revision_word)
    (rw (no container_word, no list_word, no leaf_word, no grouping_word, no typedef_word, no identity_word, no augment_word, no rpc_word, no notification_word) refl)
