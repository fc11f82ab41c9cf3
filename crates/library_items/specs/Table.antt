-- The list in a table: two words an item, the place of its name, and eight times the name's length and its kind. And what the code reads: the items of
-- each part of an image where it stands, with no look at the names before it.
-- Assumes nothing.
use Rattle.std.specs.Prelude.{ℕ, zero, suc, ◌+◌, ◌-◌, ◌*◌, ◌/◌, ◌%◌, ◌≤◌, ◌<◌, ◌≡◌, Bool, true, false, cond, List, [], ◌∷◌, ◌++◌, length, get_or}
use Rattle.library_form.specs.Form.{Ans, good, bind, PlacedName, word_at, name_at}
use Rattle.library_image.specs.Image.{most_image, most_sets, most_modules, most_names, least_revisions, most_revisions, count_at}
use Rattle.library_lists.specs.Lists.{on_ans}
use Rattle.library_items.specs.Items.{ItemOf, item, module_kind, submodule_kind, augmenting_kind, deviation_kind, import_only_kind}
use Rattle.library_items.specs.Items.{first_sub_kind, later_sub_kind}
use Rattle.library_items.specs.Items.{kind_of, items_at}
use Rattle.library_items.specs.declared.Item.{Item}
use Rattle.library_items.specs.declared.Kind.{Kind}
use Rattle.library_items.specs.declared.Reach.{Reach}

abbrev pub kinds : ℕ
kinds = 8

-- a name takes two bytes at the least
abbrev pub most_items : ℕ
most_items = 32768

abbrev pub table_words : ℕ
table_words = 65536

-- ---- the table read

unfoldable pub item_in : List ℕ → ℕ → Item
item_in tab i = record { kind = kind_of (get_or tab (i * 2 + 1) 0 % kinds); place = get_or tab (i * 2) 0; size = get_or tab (i * 2 + 1) 0 / kinds }

abbrev pub item_word : List ℕ → Item → ItemOf PlacedName
item_word s x = item x.kind (word_at s x.place x.size)

unfoldable pub items_in : List ℕ → List ℕ → ℕ → List (ItemOf PlacedName)
items_in s tab zero = []
items_in s tab (suc n) = items_in s tab n ++ (item_word s (item_in tab n) ∷ [])

-- those from the i-th on, k of them
unfoldable pub items_from : List ℕ → List ℕ → (i k : ℕ) → List (ItemOf PlacedName)
items_from s tab i zero = []
items_from s tab i (suc k) = item_word s (item_in tab i) ∷ items_from s tab (i + 1) k

-- ---- the items of a part, and the place behind it

abbrev pub Items : Type 0
Items = List (ItemOf PlacedName)

-- one part behind another
abbrev pub and_then : Ans Items → (ℕ → Ans Items) → Ans Items
and_then r f = bind r (λ xs n. bind (f n) (λ ys m. good (xs ++ ys) m))

-- as many parts
unfoldable pub each : (ℕ → Ans Items) → (count : ℕ) → ℕ → Ans Items
each p zero at = good [] at
each p (suc k) at = and_then (p at) (λ n. each p k n)

unfoldable pub each_counted : (least most : ℕ) → (ℕ → Ans Items) → List ℕ → ℕ → Ans Items
each_counted least most p s at = bind (count_at least most s at) (λ c n. each p c n)

unfoldable pub name_read : (kind : Kind) → List ℕ → ℕ → Ans Items
name_read k s at = bind (name_at s at) (λ w n. good (item k w ∷ []) n)

unfoldable pub list_read : (kind : Kind) → List ℕ → ℕ → Ans Items
list_read k s at = each_counted 0 most_names (name_read k s) s at

unfoldable pub lists_read : List ℕ → ℕ → Ans Items
lists_read s at = and_then (list_read submodule_kind s at) (λ n. and_then (list_read augmenting_kind s n) (list_read deviation_kind s))

unfoldable pub revisions_read : List ℕ → ℕ → Ans Items
revisions_read s at =
    bind (count_at least_revisions most_revisions s at) (λ c n. and_then (list_read first_sub_kind s n) (λ m. each (list_read later_sub_kind s) (c - 1) m))

unfoldable pub entry_read : (import_only : Bool) → List ℕ → ℕ → Ans Items
entry_read import_only s at =
    cond import_only (and_then (name_read import_only_kind s at) (revisions_read s)) (and_then (name_read module_kind s at) (lists_read s))

unfoldable pub entries_read : (import_only : Bool) → List ℕ → ℕ → Ans Items
entries_read import_only s at = each_counted 0 most_modules (entry_read import_only s) s at

unfoldable pub set_read : List ℕ → ℕ → Ans Items
set_read s at = and_then (entries_read false s at) (entries_read true s)

unfoldable pub sets_read : List ℕ → ℕ → Ans Items
sets_read s at = each_counted 0 most_sets (set_read s) s at

-- ---- what the code asks and does

-- a reading that is good
pub record Reads {A : Type 0} (r : Ans A) : Type 0 where
  pub value : A
  pub end : ℕ
  pub read : r ≡ good value end

-- what was read, and where it ended
abbrev pub value_or : {A : Type 0} → A → Ans A → A
value_or d r = on_ans r (λ a n. a) (λ p. d)

abbrev pub end_of : {A : Type 0} → Ans A → ℕ
end_of r = on_ans r (λ a n. n) (λ p. p)

-- an item stands for 1 to 128 bytes of the image
pub record ItemFits (s : List ℕ) (x : Item) : Type 0 where
  pub some : 1 ≤ x.size
  pub few : x.size ≤ 128
  pub inside : x.place + x.size ≤ length s

-- there is room for an item behind n others, and its numbers fit their words
pub record Puts (tab : List ℕ) (n : ℕ) (x : Item) : Type 0 where
  pub free : n * 2 + 2 ≤ length tab
  pub low : n < most_items
  pub place : x.place ≤ most_image
  pub size : x.size ≤ 128

pub record Laid (tab : List ℕ) (n : ℕ) (x : Item) (after : List ℕ) : Type 0 where
  pub kept : length after ≡ length tab
  pub own : item_in after n ≡ x
  pub others : (i : ℕ) → i < n → item_in after i ≡ item_in tab i

-- n items in the table so far, and the place: there is room, since each item took two bytes
pub record Room (s tab : List ℕ) (n at : ℕ) : Type 0 where
  pub short : length s ≤ most_image
  pub space : table_words ≤ length tab
  pub inside : at ≤ length s
  pub taken : n * 2 ≤ at
  pub fits : (i : ℕ) → i < n → ItemFits s (item_in tab i)

-- the items of what was read behind those, and the place behind it
pub record Gained (s tab : List ℕ) (n : ℕ) (read : Ans Items) (r : Reach) (after : List ℕ) : Type 0 where
  pub items : items_in s after r.items ≡ items_in s tab n ++ value_or [] read
  pub at : r.at ≡ end_of read
  pub kept : length after ≡ length tab
  pub room : Room s after r.items r.at

-- all items of an image
pub record Itemized (s : List ℕ) (n : ℕ) (tab : List ℕ) : Type 0 where
  pub items : items_in s tab n ≡ items_at s
  pub long : n * 2 ≤ length tab
  pub few : n ≤ most_items
  pub fits : (i : ℕ) → i < n → ItemFits s (item_in tab i)
