-- A keyword matches if the identifier here (letter or `_`, then letters, digits, `_ - .`) equals it and the next byte is white, `{`, `;`,
-- a quote, or the end.
-- Assumes nothing.
use Rattle.std.specs.Prelude.{ℕ, ◌-◌, Bool, true, false, cond, ◌&&◌, ◌||◌, List, [], ◌∷◌, take, drop, eqb, Some, None, Option}
use Rattle.text.specs.Bytes.{quote, apostrophe, hyphen, dot, semicolon, underscore, open_brace, the_end, look}
use Rattle.text.specs.Class.{letter, digit, class_of, white_class, letter_class}
use Rattle.text.specs.Scan.{run_end}
use Rattle.text.specs.declared.Run.TheVariants.{Ident}
use Rattle.text.specs.declared.Cursor.{Cursor}

-- a letter or _
unfoldable pub starts_ident : ℕ → Bool
starts_ident b = eqb (class_of b) letter_class || eqb b underscore

-- white, { ; " ' or the end
unfoldable pub ends_keyword : ℕ → Bool
ends_keyword b = eqb (class_of b) white_class || eqb b open_brace || eqb b semicolon || eqb b quote || eqb b apostrophe || eqb b the_end

unfoldable pub same : List ℕ → List ℕ → Bool
same [] [] = true
same [] (y ∷ ys) = false
same (x ∷ xs) [] = false
same (x ∷ xs) (y ∷ ys) = eqb x y && same xs ys

-- the bytes from a place up to another
unfoldable pub part : List ℕ → ℕ → ℕ → List ℕ
part s at end = take (end - at) (drop at s)

-- the identifier at a place is the word, and a keyword can end there
unfoldable pub keyword_at : List ℕ → ℕ → List ℕ → Bool
keyword_at s at word =
    starts_ident (look s at) && same (part s at (run_end Ident s at)) word && ends_keyword (look s (run_end Ident s at))

unfoldable pub match_at : List ℕ → ℕ → List ℕ → Option Cursor
match_at s at word = cond (keyword_at s at word) (Some (record { at = run_end Ident s at })) None

-- the first of two that matched
unfoldable pub or_match : Option Cursor → Option Cursor → Option Cursor
or_match (Some c) n = Some c
or_match None n = n

-- ---- what the code tests

-- a word that is itself an identifier
abbrev pub first_byte : ℕ → Bool
first_byte b = letter b || eqb b underscore

abbrev pub next_byte : ℕ → Bool
next_byte b = letter b || digit b || eqb b underscore || eqb b hyphen || eqb b dot

abbrev pub word_rest : List ℕ → Bool
word_rest [] = true
word_rest (b ∷ xs) = next_byte b && word_rest xs

abbrev pub wordly : List ℕ → Bool
wordly [] = false
wordly (b ∷ xs) = first_byte b && word_rest (b ∷ xs)

-- whether a list begins with a word
unfoldable pub begins : List ℕ → List ℕ → Bool
begins [] xs = true
begins (w ∷ ws) [] = false
begins (w ∷ ws) (x ∷ xs) = eqb x w && begins ws xs
