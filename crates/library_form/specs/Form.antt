-- A number is seven-bit groups, low group first, top bit set on all but the last; shortest form; at most three bytes (2,097,151). A name is a
-- number 1 to 128 and as many bytes from 33 to 126. Wrong is the start of a number or name; a name starts at its length. What is missing at the
-- end is wrong at the end.
-- Assumes nothing.
use Rattle.std.specs.Prelude.{ℕ, zero, suc, ◌+◌, ◌-◌, ◌*◌, List, [], ◌∷◌, ◌++◌, Bool, true, false, cond, length, get_or, take, drop, ltb, eqb, Ok, Err, Result}
use Rattle.library_form.specs.declared.ImageCursor.{ImageCursor}

-- what a parser answers: what it read and the place behind it, or the place where the form is broken
pub data Ans (A : Type 0) : Type 0 where
  good : A → ℕ → Ans A
  bad : ℕ → Ans A

-- a byte from here on has its top bit set; a 1 in the second group is worth as much
abbrev pub top_bit : ℕ
top_bit = 128

-- what a 1 in the third group is worth
abbrev pub third : ℕ
third = 16384

-- the most bytes and the greatest value of a number
abbrev pub most_groups : ℕ
most_groups = 3

abbrev pub most_number : ℕ
most_number = 2097151

-- the most bytes of a name, and which they may be
abbrev pub most_name : ℕ
most_name = 128

abbrev pub least_byte : ℕ
least_byte = 33

abbrev pub most_byte : ℕ
most_byte = 126

-- the groups from `at` on: `room` bytes may still come, `start` is where the number begins, `unit` is what a 1 in this group is worth
unfoldable pub groups : (room : ℕ) → List ℕ → (start at unit sum : ℕ) → Ans ℕ
groups zero s start at unit sum = bad start
groups (suc room) s start at unit sum =
    cond (ltb at (length s))
    (cond (ltb (get_or s at 0) top_bit)
    (cond (eqb (get_or s at 0) 0)
    (cond (eqb at start) (good 0 (at + 1)) (bad start))
    (good (sum + unit * get_or s at 0) (at + 1)))
    (groups room s start (at + 1) (unit * top_bit) (sum + unit * (get_or s at 0 - top_bit))))
    (bad start)

unfoldable pub number_at : List ℕ → ℕ → Ans ℕ
number_at s at = groups most_groups s at at 1 0

abbrev pub number_seen : Result (ℕ × ImageCursor) ℕ → Ans ℕ
number_seen (Ok (v, c)) = good v c.at
number_seen (Err p) = bad p

-- one reading after another; the first that is wrong ends it
abbrev pub bind : {A B : Type 0} → Ans A → (A → ℕ → Ans B) → Ans B
bind (good a n) f = f a n
bind (bad p) f = bad p

-- `count` things from `at` on, added to those that were `seen`; each reading is told the ones before it
unfoldable pub many : {A : Type 0} → (List A → ℕ → Ans A) → (count : ℕ) → List A → ℕ → Ans (List A)
many p zero seen at = good seen at
many p (suc k) seen at = bind (p seen at) (λ a n. many p k (seen ++ (a ∷ [])) n)

-- a byte that may stand in a name: one from 33 to 126
abbrev pub fine_byte : ℕ → Bool
fine_byte b = cond (ltb b least_byte) false (cond (ltb most_byte b) false true)

-- `count` bytes from `at` on are all from 33 to 126
unfoldable pub printable_at : (count : ℕ) → List ℕ → ℕ → Bool
printable_at zero s at = true
printable_at (suc n) s at = cond (ltb (get_or s at 0) least_byte) false (cond (ltb most_byte (get_or s at 0)) false (printable_at n s (at + 1)))

-- a name where it stands: the place of its first byte, how many they are, and the bytes
pub record PlacedName : Type 0 where
  pub place : ℕ
  pub size : ℕ
  pub text : List ℕ

abbrev pub word_at : List ℕ → ℕ → ℕ → PlacedName
word_at s first len = record { place = first; size = len; text = take len (drop first s) }

-- behind a name's length
unfoldable pub name_body : List ℕ → (start len first : ℕ) → Ans PlacedName
name_body s start len first =
    cond (ltb len 1) (bad start)
    (cond (ltb most_name len) (bad start)
    (cond (ltb (length s - first) len) (bad start)
    (cond (printable_at len s first) (good (word_at s first len) (first + len)) (bad start))))

-- a number 1 to 128 and as many bytes from 33 to 126; wrong where its length starts
unfoldable pub name_at : List ℕ → ℕ → Ans PlacedName
name_at s at = bind (number_at s at) (name_body s at)

abbrev pub name_seen : List ℕ → Result (ℕ × ℕ) ℕ → Ans PlacedName
name_seen s (Ok (first, len)) = good (word_at s first len) (first + len)
name_seen s (Err p) = bad p
