-- Names in order and the plain search for the first that has given bytes; and a table of names with an index over them, by which the search is
-- fast. The table is one list of words: a head for each bucket, then three words for each name, its place, its length and its link. A head and
-- a link are one more than the number of a name, or 0.
-- Assumes nothing.
use Rattle.std.specs.Prelude.{ℕ, zero, suc, ◌+◌, ◌*◌, ◌%◌, ◌≤◌, ◌<◌, ◌≡◌, Bool, false, cond, ◌||◌, List, [], ◌∷◌, ◌++◌, length, get_or, eqb}
use Rattle.std.specs.Prelude.{Ok, Some, None, Result, Option}
use Rattle.text.specs.Keyword.{same}
use Rattle.library_form.specs.Form.{Ans, good, bad, bind, PlacedName, word_at, name_at, name_seen}

-- ---- the plain search

-- the number of the first of the words, counted from i, whose bytes are t
unfoldable pub first_from : ℕ → List ℕ → List PlacedName → Option ℕ
first_from i t [] = None
first_from i t (w ∷ ws) = cond (same w.text t) (Some i) (first_from (suc i) t ws)

abbrev pub first_of : List ℕ → List PlacedName → Option ℕ
first_of t ws = first_from 0 t ws

-- any search for the first hit: f of the first whose name has the bytes t, or d
abbrev pub first_by : {A B : Type 0} → (name : A → PlacedName) → (f : A → B) → List ℕ → List A → B → B
first_by name f t [] d = d
first_by name f t (a ∷ l) d = cond (same (name a).text t) (f a) (first_by name f t l d)

-- `among`: a name stands in a list; `add_new`: one more, unless its name stands there; `add_all`: so one after another
module _ {A : Type 0} (name : A → List ℕ) where
  unfoldable pub among : List ℕ → List A → Bool
  among t [] = false
  among t (a ∷ l) = same (name a) t || among t l

  abbrev pub add_new : List A → A → List A
  add_new l a = cond (among (name a) l) l (l ++ (a ∷ []))

  unfoldable pub add_all : List A → List A → List A
  add_all l [] = l
  add_all l (a ∷ more) = add_all (add_new l a) more

-- the same of words
abbrev pub memb : List ℕ → List PlacedName → Bool
memb t ws = among (λ (w : PlacedName). w.text) t ws

-- a name that is none of those before it; a repeated one is wrong where it comes again
unfoldable pub new_name : List ℕ → (before : List PlacedName) → ℕ → Ans PlacedName
new_name s before at = bind (name_at s at) (λ w n. cond (memb w.text before) (bad at) (good w n))

-- ---- the table

-- how many buckets there are
abbrev pub buckets : ℕ
buckets = 2048

-- how many words a name takes
abbrev pub row_words : ℕ
row_words = 3

-- what the hash is multiplied by for each byte
abbrev pub factor : ℕ
factor = 131

-- the most names of a table, and the most bytes that they stand in: 16 MiB
abbrev pub most : ℕ
most = 16777216

-- where the words of the i-th name start
abbrev pub row_of : ℕ → ℕ
row_of i = buckets + i * row_words

-- the i-th name of the table, and the first n
abbrev pub name_in_row : List ℕ → List ℕ → ℕ → PlacedName
name_in_row s tab i = word_at s (get_or tab (row_of i) 0) (get_or tab (row_of i + 1) 0)

unfoldable pub names_in : List ℕ → List ℕ → ℕ → List PlacedName
names_in s tab zero = []
names_in s tab (suc n) = names_in s tab n ++ (name_in_row s tab n ∷ [])

-- the bucket of a name, from the bytes that are left
unfoldable pub hash_from : ℕ → List ℕ → ℕ
hash_from h [] = h
hash_from h (b ∷ xs) = hash_from ((h * factor + b) % buckets) xs

abbrev pub hash_of : List ℕ → ℕ
hash_of t = hash_from 0 t

-- one more than the number of the last of the first n names that is in the bucket h; 0 where there is none
unfoldable pub top_in : List ℕ → List ℕ → (h n : ℕ) → ℕ
top_in s tab h zero = 0
top_in s tab h (suc n) = cond (eqb (hash_of (name_in_row s tab n).text) h) (suc n) (top_in s tab h n)

-- what the table keeps with n names in it: a link is what the head of its bucket was when its name came, and no two names have the same bytes
pub record Indexed (s tab : List ℕ) (n : ℕ) : Type 0 where
  pub long : row_of n ≤ length tab
  pub small : n ≤ most
  pub heads : (h : ℕ) → h < buckets → get_or tab h 0 ≡ top_in s tab h n
  pub links : (i : ℕ) → i < n → get_or tab (row_of i + 2) 0 ≡ top_in s tab (hash_of (name_in_row s tab i).text) i
  pub inside : (i : ℕ) → i < n → get_or tab (row_of i) 0 + get_or tab (row_of i + 1) 0 ≤ length s
  pub differ : (i : ℕ) → i < n → first_of (name_in_row s tab i).text (names_in s tab i) ≡ None

-- ---- what the code asks and does

-- every bucket is empty
pub record Cleared (before tab : List ℕ) : Type 0 where
  pub long : buckets ≤ length tab
  pub kept : length tab ≡ length before
  pub heads : (h : ℕ) → h < buckets → get_or tab h 0 ≡ 0

-- what a search in the bucket h asks
pub record Sought (s tab : List ℕ) (n h : ℕ) (t : List ℕ) : Type 0 where
  pub indexed : Indexed s tab n
  pub bucket : h ≡ hash_of t
  pub low : h < buckets

-- what an addition asks: room in the table, the name within bytes whose places fit a word
pub record Room (s tab : List ℕ) (n place len : ℕ) : Type 0 where
  pub indexed : Indexed s tab n
  pub free : row_of n + row_words ≤ length tab
  pub small : n < most
  pub within : place + len ≤ length s
  pub short : length s ≤ most

-- what an addition does: a name that is there is answered, and the table left; any other becomes the last
pub record Added (s tab : List ℕ) (n place len : ℕ) (r : Option ℕ) (after : List ℕ) : Type 0 where
  pub answer : r ≡ first_of (word_at s place len).text (names_in s tab n)
  pub kept : length after ≡ length tab
  pub there : (i : ℕ) → r ≡ Some i → after ≡ tab
  pub indexed : r ≡ None → Indexed s after (n + 1)
  pub names : r ≡ None → names_in s after (n + 1) ≡ names_in s tab n ++ (word_at s place len ∷ [])

-- what the taking of a name asks, and does: a name that is read and new becomes the last
pub record Space (s tab : List ℕ) (n : ℕ) : Type 0 where
  pub indexed : Indexed s tab n
  pub free : row_of n + row_words ≤ length tab
  pub small : n < most
  pub short : length s ≤ most

pub record Taken (s tab : List ℕ) (n at : ℕ) (r : Result (ℕ × ℕ) ℕ) (after : List ℕ) : Type 0 where
  pub answer : name_seen s r ≡ new_name s (names_in s tab n) at
  pub kept : length after ≡ length tab
  pub indexed : (first len : ℕ) → r ≡ Ok (first, len) → Indexed s after (n + 1)
  pub names : (first len : ℕ) → r ≡ Ok (first, len) → names_in s after (n + 1) ≡ names_in s tab n ++ (word_at s first len ∷ [])

-- what the storing of one name needs, and what it leaves: four words, and all others as they were
pub record Puts (tab : List ℕ) (n h place len : ℕ) : Type 0 where
  pub free : row_of n + row_words ≤ length tab
  pub small : n < most
  pub low : h < buckets
  pub place_small : place ≤ most
  pub len_small : len ≤ most

pub record Stored (tab : List ℕ) (n h place len : ℕ) (after : List ℕ) : Type 0 where
  pub kept : length after ≡ length tab
  pub place_of : get_or after (row_of n) 0 ≡ place
  pub len_of : get_or after (row_of n + 1) 0 ≡ len
  pub link_of_lem : get_or after (row_of n + 2) 0 ≡ get_or tab h 0
  pub head_of : get_or after h 0 ≡ n + 1
  pub rows : (k : ℕ) → buckets ≤ k → k < row_of n → get_or after k 0 ≡ get_or tab k 0
  pub heads : (k : ℕ) → k < buckets → (k ≡ h → ⊥) → get_or after k 0 ≡ get_or tab k 0
