-- The text under a name is handed back as the caller's own bytes, uncopied. For it a bundle is read once into the index: the table holds the
-- names in their order, and behind each name stands the length of its text.
-- Assumes nothing.
use Rattle.std.specs.Prelude.{ℕ, max, ◌+◌, ◌≤◌, ◌≡◌, List, [], ◌∷◌, ◌++◌, length, get_or, Ok, Err, Result}
use Rattle.library_form.specs.Form.{Ans, good, bad, PlacedName, number_at}
use Rattle.library_form.specs.Writer.{NameBytes}
use Rattle.library_index.specs.Names.{row_of, row_words, name_in_row, names_in, Indexed}
use Rattle.library_bundle.specs.Bundle.{Text, filed_at, words, bundle_at}

-- how many words the table has at the least
abbrev pub table_words : ℕ
table_words = 8192

-- how many were read, and where that ended
abbrev pub counted : Ans (List Text) → Ans ℕ
counted (good es n) = good (length es) n
counted (bad p) = bad p

abbrev pub opened_seen : List ℕ → Result ℕ ℕ → Ans ℕ
opened_seen s (Ok k) = good k (length s)
opened_seen s (Err p) = bad p

-- what holds of a text that was read: its name is one, its length stands behind the name, and it lies within the bytes
pub record Sized (s : List ℕ) (e : Text) : Type 0 where
  pub named : NameBytes e.word.text
  pub name_in : e.word.place + e.word.size ≤ length s
  pub length_of : number_at s (e.word.place + e.word.size) ≡ good e.size e.from
  pub within : e.from + e.size ≤ length s

abbrev pub Sizes : List ℕ → List Text → Type 0
Sizes s [] = Unit
Sizes s (e ∷ es) = Sized s e × Sizes s es

-- what the filing of one text does
pub record Entered (s tab : List ℕ) (i at n : ℕ) (after : List ℕ) : Type 0 where
  pub entry : Text
  pub kept : length after ≡ length tab
  pub read : filed_at s (names_in s tab i) at ≡ good entry n
  pub indexed : Indexed s after (i + 1)
  pub names : names_in s after (i + 1) ≡ names_in s tab i ++ (entry.word ∷ [])

abbrev pub FiledAs : List ℕ → List ℕ → (i at : ℕ) → Result ℕ ℕ → List ℕ → Type 0
FiledAs s tab i at (Ok n) after = Entered s tab i at n after
FiledAs s tab i at (Err p) after = filed_at s (names_in s tab i) at ≡ bad p

-- a table that holds the names of the bundle in their order
pub record Held (s tab : List ℕ) (n : ℕ) : Type 0 where
  pub texts : List Text
  pub read : bundle_at s ≡ good texts (length s)
  pub indexed : Indexed s tab n
  pub names : names_in s tab n ≡ words texts
  pub sizes : Sizes s texts

-- the number of texts or the wrong place; and in a bundle that is good, the table
pub record OpenedAs (s : List ℕ) (r : Result ℕ ℕ) (after : List ℕ) : Type 0 where
  pub answer : opened_seen s r ≡ counted (bundle_at s)
  pub held : (n : ℕ) → r ≡ Ok n → Held s after n

-- ---- the longest text of a bundle, read or not; one that breaks its form has none

unfoldable pub longest_of : List Text → ℕ
longest_of [] = 0
longest_of (e ∷ es) = max e.size (longest_of es)

abbrev pub texts_or : Ans (List Text) → List Text
texts_or (good es n) = es
texts_or (bad p) = []

unfoldable pub longest_text : List ℕ → ℕ
longest_text s = longest_of (texts_or (bundle_at s))

-- ---- the length that stands behind a name; behind the i-th name of the table it is that of the i-th text

abbrev pub size_read : Ans ℕ → ℕ
size_read (good z f) = z
size_read (bad p) = 0

abbrev pub size_behind : List ℕ → PlacedName → ℕ
size_behind s w = size_read (number_at s (w.place + w.size))

unfoldable pub size_in : List ℕ → List ℕ → ℕ → ℕ
size_in s tab i = size_behind s (name_in_row s tab i)

-- the table has an i-th name, and it lies within the bytes
pub record NameHeld (s tab : List ℕ) (i : ℕ) : Type 0 where
  pub row : row_of i + row_words ≤ length tab
  pub inside : get_or tab (row_of i) 0 + get_or tab (row_of i + 1) 0 ≤ length s
