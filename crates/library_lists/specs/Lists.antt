-- The lists of an image read by code, and what stands behind a name: where a part ends, or where it is wrong. What a part holds is said by Image.
-- Assumes nothing.
use Rattle.std.specs.Prelude.{ℕ, zero, suc, Bool, true, false, cond, List, Ok, Err, Result}
use Rattle.text.specs.Keyword.{same}
use Rattle.library_form.specs.Form.{Ans, good, bad, bind, PlacedName, name_at}
use Rattle.library_image.specs.Image.{most_names, least_revisions, most_revisions, Reader, counted, any_word, new_word, revision_at}

-- ---- readings without what was read

abbrev pub done : {A : Type 0} → Ans A → Ans Unit
done (good a n) = good tt n
done (bad p) = bad p

abbrev pub read_seen : Result ℕ ℕ → Ans Unit
read_seen (Ok n) = good tt n
read_seen (Err p) = bad p

-- by what a reading answered: f of what was read and the place behind it, or g of the wrong place
abbrev pub on_ans : {A B : Type 0} → Ans A → (A → ℕ → B) → (ℕ → B) → B
on_ans (good a n) f g = f a n
on_ans (bad p) f g = g p

-- ---- lists of names

-- one of a list of names that may have to differ
abbrev pub word_of : (differ : Bool) → Reader PlacedName
word_of differ s seen at = cond differ (new_word s seen at) (any_word s seen at)

unfoldable pub list_at : (differ : Bool) → List ℕ → ℕ → Ans (List PlacedName)
list_at differ s at = counted 0 most_names (word_of differ) s at

-- one of the `count` names from `at` on, read one after the other, has the bytes t
unfoldable pub among_at : (count : ℕ) → List ℕ → ℕ → List ℕ → Bool
among_at zero s at t = false
among_at (suc k) s at t = on_ans (name_at s at) (λ w n. cond (same w.text t) true (among_at k s n t)) (λ p. false)

-- the name at a place, behind i names from `from` on
unfoldable pub word_behind : (differ : Bool) → List ℕ → (from i at : ℕ) → Ans PlacedName
word_behind differ s from i at = bind (name_at s at) (λ w n. cond differ (cond (among_at i s from w.text) (bad at) (good w n)) (good w n))

-- ---- behind a name

-- behind the name of an entry: a module's submodules, augmenting modules and deviations, or an import-only module's revisions
unfoldable pub rest_at : (import_only : Bool) → List ℕ → ℕ → Ans Unit
rest_at import_only s at =
    cond import_only (done (counted least_revisions most_revisions revision_at s at))
    (bind (list_at false s at) (λ submodules n₁. bind (list_at false s n₁) (λ augmenting n₂. done (list_at false s n₂))))
