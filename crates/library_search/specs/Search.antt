-- The searches of the finds over the bytes of an image, as the code makes them: each part of it is the one that is sought, or is passed. In a part that breaks
-- the form, which no well-formed image has, a search is given up.
-- Assumes nothing.
use Rattle.std.specs.Prelude.{ℕ, zero, suc, Bool, true, false, cond, List, Ok, Some, None, Result, Option}
use Rattle.text.specs.Keyword.{same}
use Rattle.library_form.specs.Form.{Ans, good, bad, bind, number_at, name_at}
use Rattle.library_image.specs.Image.{most_sets, most_modules, most_names, count_at}
use Rattle.library_lists.specs.Lists.{done, on_ans, list_at, rest_at}
use Rattle.std.proofs.Common.{ControlFlow, Continue, Break}

-- what a search comes to at a part: it goes on at a place, or ends at a hit, with its place and its count of revisions, or with none at a broken part
abbrev pub Tried : Type 0
Tried = ControlFlow (Option (ℕ × ℕ)) ℕ

-- one part behind another: from the place behind the first, unless that is the end of the search
abbrev pub and_then : Tried → (ℕ → Tried) → Tried
and_then (Continue n) f = f n
and_then (Break h) f = Break h

-- `count` parts
unfoldable pub tries : (ℕ → Tried) → (count : ℕ) → ℕ → Tried
tries f zero at = Continue at
tries f (suc k) at = and_then (f at) (tries f k)

-- a part that is passed by reading it
abbrev pub past : {A : Type 0} → Ans A → Tried
past (good a n) = Continue n
past (bad p) = Break None

-- a counted list, each of its parts tried
unfoldable pub list_tried : (most : ℕ) → (ℕ → Tried) → List ℕ → ℕ → Tried
list_tried most f s at = on_ans (count_at 0 most s at) (λ c n. tries f c n) (λ p. Break None)

-- what the search comes to
abbrev pub found_by : Tried → Result (Option (ℕ × ℕ)) ℕ
found_by (Continue n) = Ok None
found_by (Break h) = Ok h

-- the number of a module's submodules, behind its name
unfoldable pub submodule_count : List ℕ → ℕ → Ans ℕ
submodule_count s at = bind (name_at s at) (λ w n. count_at 0 most_names s n)

-- a module's augmenting modules and deviations
unfoldable pub lists_behind : List ℕ → ℕ → Ans Unit
lists_behind s at = bind (list_at false s at) (λ augmenting n. done (list_at false s n))

-- ---- modules and import-only modules

-- a hit, whose name ends at n: the revision count of an import-only module stands there
unfoldable pub hit_at : List ℕ → (import_only : Bool) → (place n : ℕ) → Tried
hit_at s import_only place n = cond import_only (on_ans (number_at s n) (λ c m. Break (Some (place, c))) (λ p. Break None)) (Break (Some (place, 0)))

module _ (s t : List ℕ) where
  -- an entry of a list that is looked through (`wanted`) or passed
  unfoldable pub entry_tried : (import_only wanted : Bool) → ℕ → Tried
  entry_tried import_only wanted at =
      on_ans (name_at s at)
      (λ w n. cond wanted (cond (same w.text t) (hit_at s import_only w.place n) (past (rest_at import_only s n))) (past (rest_at import_only s n)))
      (λ p. Break None)

  unfoldable pub entries_tried : (import_only wanted : Bool) → ℕ → Tried
  entries_tried import_only wanted at = list_tried most_modules (entry_tried import_only wanted) s at

  -- a set, for a module or for an import-only module
  unfoldable pub set_tried : (modules import_only : Bool) → ℕ → Tried
  set_tried modules import_only at = and_then (entries_tried false modules at) (entries_tried true import_only)

  unfoldable pub sets_tried : (modules import_only : Bool) → Tried
  sets_tried modules import_only = list_tried most_sets (set_tried modules import_only) s 0

  -- ---- submodules

  unfoldable pub word_tried : ℕ → Tried
  word_tried at = on_ans (name_at s at) (λ w n. cond (same w.text t) (Break (Some (w.place, 0))) (Continue n)) (λ p. Break None)

  -- a module: its submodules behind its name, and the two lists behind them
  unfoldable pub submodules_tried : ℕ → Tried
  submodules_tried at = on_ans (submodule_count s at) (λ c n. and_then (tries word_tried c n) (λ m. past (lists_behind s m))) (λ p. Break None)

  -- a set: its modules, and the import-only modules behind them
  unfoldable pub set_submodules_tried : ℕ → Tried
  set_submodules_tried at = and_then (list_tried most_modules submodules_tried s at) (entries_tried true false)

  unfoldable pub all_submodules_tried : Tried
  all_submodules_tried = list_tried most_sets set_submodules_tried s 0
