-- The image read by code: where a part of it ends, or where it is wrong. What a part holds is said by Image; of it the code keeps only the names that
-- must differ.
-- Assumes nothing.
use Rattle.std.specs.Prelude.{ℕ, ◌+◌, ◌≤◌, ◌≡◌, Bool, List, [], ◌∷◌, ◌++◌, length, Ok, Err, Result}
use Rattle.library_form.specs.Form.{Ans, good, bad, bind, PlacedName}
use Rattle.library_index.specs.Names.{new_name, names_in, Indexed}
use Rattle.library_image.specs.Image.{image_broken, most_image, most_modules, Reader, counted}
use Rattle.library_lists.specs.Lists.{read_seen, rest_at}

-- how many words the table of names has at the least
abbrev pub table_words : ℕ
table_words = 3584

-- ---- entries of a set

-- a module or an import-only module, of which the name is kept
unfoldable pub entry_at : (import_only : Bool) → Reader PlacedName
entry_at import_only s seen at = bind (new_name s seen at) (λ w n. bind (rest_at import_only s n) (λ u m. good w m))

unfoldable pub entries_at : (import_only : Bool) → List ℕ → ℕ → Ans (List PlacedName)
entries_at import_only s at = counted 0 most_modules (entry_at import_only) s at

-- ---- what the code asks and does

-- an entry that was read, whose name is now the last of the table
pub record Entered (import_only : Bool) (s tab : List ℕ) (i at n : ℕ) (after : List ℕ) : Type 0 where
  pub word : PlacedName
  pub read : entry_at import_only s (names_in s tab i) at ≡ good word n
  pub indexed : Indexed s after (i + 1)
  pub names : names_in s after (i + 1) ≡ names_in s tab i ++ (word ∷ [])

abbrev pub EntryOr : Bool → List ℕ → List ℕ → (i at : ℕ) → Result ℕ ℕ → List ℕ → Type 0
EntryOr import_only s tab i at (Ok n) after = Entered import_only s tab i at n after
EntryOr import_only s tab i at (Err p) after = entry_at import_only s (names_in s tab i) at ≡ bad p

pub record EntryTaken (import_only : Bool) (s tab : List ℕ) (i at : ℕ) (r : Result ℕ ℕ) (after : List ℕ) : Type 0 where
  pub kept : length after ≡ length tab
  pub answer : EntryOr import_only s tab i at r after

-- a table for a list of entries of an image that is not too long
pub record Roomy (s tab : List ℕ) : Type 0 where
  pub space : table_words ≤ length tab
  pub short : length s ≤ most_image

-- what was read is r, whatever the table then holds
pub record ReadAs (r : Result ℕ ℕ) (expected : Ans Unit) (tab after : List ℕ) : Type 0 where
  pub answer : read_seen r ≡ expected
  pub kept : length after ≡ length tab

-- of an image: its refusal's number, or 0
unfoldable pub read_number : Result ℕ ℕ → ℕ
read_number (Ok n) = 0
read_number (Err p) = image_broken
