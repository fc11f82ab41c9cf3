-- Image, at most 65,536 bytes: number of sets (0 to 16); each set: modules (0 to 512), each name, then counted lists (0 to 64 each) of submodules,
-- augmenting modules, deviations; then import-only modules (0 to 512), each name, revisions (1 to 8), each a counted list (0 to 64) of submodules. In
-- one set module names differ, and import-only names differ; in one import-only revision submodules differ. Nothing follows. Wrong: start of the first
-- wrong number or name in reading order, or first extra byte; a repeated name is wrong where it comes again; 0 for over-length.
-- Assumes nothing.
use Rattle.std.specs.Prelude.{ℕ, cond, List, [], map, length, ltb}
use Rattle.library_form.specs.Form.{Ans, good, bad, bind, PlacedName, number_at, name_at, many}
use Rattle.library_index.specs.Names.{new_name}
use Rattle.library_image.specs.Library.{Module, ImportOnly, ModuleSet, Library}

-- the refusal of an image that breaks its form
abbrev pub image_broken : ℕ
image_broken = 20

-- ---- limits

abbrev pub most_image : ℕ
most_image = 65536

abbrev pub most_sets : ℕ
most_sets = 16

abbrev pub most_modules : ℕ
most_modules = 512

abbrev pub most_names : ℕ
most_names = 64

abbrev pub least_revisions : ℕ
least_revisions = 1

abbrev pub most_revisions : ℕ
most_revisions = 8

-- ---- counted lists

-- reads one thing of a list at a place of the bytes, told those of the list before it
abbrev pub Reader : Type 0 → Type 0
Reader A = List ℕ → List A → ℕ → Ans A

-- a number from `least` to `most`, wrong where it starts
unfoldable pub count_at : (least most : ℕ) → List ℕ → ℕ → Ans ℕ
count_at least most s at = bind (number_at s at) (λ c n. cond (ltb c least) (bad at) (cond (ltb most c) (bad at) (good c n)))

-- and as many things
unfoldable pub counted : {A : Type 0} → (least most : ℕ) → Reader A → List ℕ → ℕ → Ans (List A)
counted least most p s at = bind (count_at least most s at) (λ c n. many (p s) c [] n)

-- ---- names that differ

-- one of a list whose names may be the same, and one of a list whose names differ
abbrev pub any_word : Reader PlacedName
any_word s seen at = name_at s at

abbrev pub new_word : Reader PlacedName
new_word s seen at = new_name s seen at

-- ---- the library

unfoldable pub module_at : Reader Module
module_at s seen at =
    bind (new_name s (map (λ (m : Module). m.name) seen) at) (λ w n₁.
    bind (counted 0 most_names any_word s n₁) (λ submodules n₂.
    bind (counted 0 most_names any_word s n₂) (λ augmenting n₃.
    bind (counted 0 most_names any_word s n₃) (λ deviations n₄.
    good (record { name = w; submodules = submodules; augmenting = augmenting; deviations = deviations }) n₄))))

-- a revision is its submodules
abbrev pub revision_at : Reader (List PlacedName)
revision_at s seen at = counted 0 most_names new_word s at

unfoldable pub import_only_at : Reader ImportOnly
import_only_at s seen at =
    bind (new_name s (map (λ (m : ImportOnly). m.name) seen) at) (λ w n₁.
    bind (counted least_revisions most_revisions revision_at s n₁) (λ revisions n₂.
    good (record { name = w; revisions = revisions }) n₂))

unfoldable pub set_at : Reader ModuleSet
set_at s seen at =
    bind (counted 0 most_modules module_at s at) (λ modules n₁.
    bind (counted 0 most_modules import_only_at s n₁) (λ import_only n₂.
    good (record { modules = modules; import_only = import_only }) n₂))

unfoldable pub library_at : List ℕ → ℕ → Ans Library
library_at s at = counted 0 most_sets set_at s at

-- nothing follows
unfoldable pub image_at : List ℕ → Ans Library
image_at s =
    cond (ltb most_image (length s)) (bad 0)
    (bind (library_at s 0) (λ l n. cond (ltb n (length s)) (bad n) (good l n)))
