-- Image, at most 65,536 bytes: number of sets (0 to 16); each set: modules (0 to 512), each name, then counted lists (0 to 64 each) of submodules,
-- augmenting modules, deviations; then import-only modules (0 to 512), each name, revisions (1 to 8), each a counted list (0 to 64) of submodules. In
-- one set module names differ, and import-only names differ; in one import-only revision submodules differ. Here written, where Image reads.
-- Assumes nothing.
use Rattle.std.specs.Prelude.{ℕ, ◌≤◌, ◌≡◌, List, [], ◌∷◌, ◌++◌, map, length}
use Rattle.library_form.specs.Writer.{write_number, write_name, NameBytes}
use Rattle.library_image.specs.Library.{Name, PlainModule, PlainImportOnly, PlainSet, PlainLibrary}
use Rattle.library_image.specs.Image.{most_image, most_sets, most_modules, most_names, least_revisions, most_revisions}

-- ---- written

module _ {B : Type 0} where
  unfoldable pub write_each : (B → List ℕ) → List B → List ℕ
  write_each w [] = []
  write_each w (b ∷ bs) = w b ++ write_each w bs

  -- how many, and then each
  unfoldable pub write_list : (B → List ℕ) → List B → List ℕ
  write_list w bs = write_number (length bs) ++ write_each w bs

unfoldable pub write_module : PlainModule → List ℕ
write_module m =
    write_name m.name
    ++ (write_list write_name m.submodules ++ (write_list write_name m.augmenting ++ write_list write_name m.deviations))

unfoldable pub write_import_only : PlainImportOnly → List ℕ
write_import_only m = write_name m.name ++ write_list (write_list write_name) m.revisions

unfoldable pub write_set : PlainSet → List ℕ
write_set s = write_list write_module s.modules ++ write_list write_import_only s.import_only

unfoldable pub write_image : PlainLibrary → List ℕ
write_image l = write_list write_set l

-- ---- what can be written

module _ {B : Type 0} where
  -- each of the list is right, told those before it
  unfoldable pub EachOf : (List B → B → Type 0) → (before : List B) → List B → Type 0
  EachOf Right before [] = Unit {0}
  EachOf Right before (b ∷ bs) = Right before b × EachOf Right (before ++ (b ∷ [])) bs

  pub record Listed (least most : ℕ) (Right : List B → B → Type 0) (bs : List B) : Type 0 where
    pub enough : least ≤ length bs
    pub few : length bs ≤ most
    pub each : EachOf Right [] bs

abbrev pub AnyName : (before : List Name) → Name → Type 0
AnyName before n = NameBytes n

-- a name differs from each of the list
unfoldable pub NoneOf : Name → List Name → Type 0
NoneOf n [] = Unit {0}
NoneOf n (u ∷ us) = (u ≡ n → ⊥) × NoneOf n us

abbrev pub NewName : (before : List Name) → Name → Type 0
NewName before n = NameBytes n × NoneOf n before

pub record FormedModule (before : List PlainModule) (m : PlainModule) : Type 0 where
  pub name : NewName (map (λ (k : PlainModule). k.name) before) m.name
  pub submodules : Listed 0 most_names AnyName m.submodules
  pub augmenting : Listed 0 most_names AnyName m.augmenting
  pub deviations : Listed 0 most_names AnyName m.deviations

abbrev pub FormedRevision : (before : List (List Name)) → List Name → Type 0
FormedRevision before r = Listed 0 most_names NewName r

pub record FormedImportOnly (before : List PlainImportOnly) (m : PlainImportOnly) : Type 0 where
  pub name : NewName (map (λ (k : PlainImportOnly). k.name) before) m.name
  pub revisions : Listed least_revisions most_revisions FormedRevision m.revisions

pub record FormedSet (before : List PlainSet) (s : PlainSet) : Type 0 where
  pub modules : Listed 0 most_modules FormedModule s.modules
  pub import_only : Listed 0 most_modules FormedImportOnly s.import_only

pub record Formed (l : PlainLibrary) : Type 0 where
  pub sets : Listed 0 most_sets FormedSet l
  pub short : length (write_image l) ≤ most_image
