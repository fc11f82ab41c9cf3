-- Bundle, at most 16,777,216 bytes: texts (0 to 2,048), each name, length, bytes; names differ. Nothing follows. The text under a name is handed
-- back as the caller's own bytes, uncopied; empty at 21 or if there is none, and a call beside it says which. Wrong is the start of the first
-- wrong number or name in reading order, or the first extra byte; a repeated name is wrong where it comes again, a text cut short at its length;
-- 0 for over-length.
-- Assumes nothing.
use Rattle.std.specs.Prelude.{ℕ, ◌+◌, ◌-◌, cond, List, [], map, length, take, drop, ltb, Some, None, Err, Ok, Option, Result}
use Rattle.library_form.specs.Form.{Ans, good, bad, bind, PlacedName, number_at, many}
use Rattle.library_index.specs.Names.{first_by, new_name}

-- the refusal of a bundle that breaks its form
abbrev pub bundle_broken : ℕ
bundle_broken = 21

-- the most bytes of a bundle, and the most texts
abbrev pub most_bytes : ℕ
most_bytes = 16777216

abbrev pub most_texts : ℕ
most_texts = 2048

-- ---- the reading

-- a name and the bytes under it, by their place and length
pub record Text : Type 0 where
  pub word : PlacedName
  pub from : ℕ
  pub size : ℕ

abbrev pub text_of : PlacedName → ℕ → ℕ → Text
text_of w f z = record { word = w; from = f; size = z }

-- behind a text's length, which starts at `start`: a text cut short is wrong there
unfoldable pub body_at : List ℕ → PlacedName → (start size from : ℕ) → Ans Text
body_at s w start size from = cond (ltb (length s - from) size) (bad start) (good (text_of w from size) (from + size))

-- a text whose name is none of the words; a repeated name is wrong where it comes again, whatever follows it
unfoldable pub filed_at : List ℕ → List PlacedName → ℕ → Ans Text
filed_at s ws at = bind (new_name s ws at) (λ w n. bind (number_at s n) (body_at s w n))

abbrev pub words : List Text → List PlacedName
words es = map (λ (e : Text). e.word) es

abbrev pub new_text : List ℕ → List Text → ℕ → Ans Text
new_text s seen at = filed_at s (words seen) at

-- nothing follows the last
abbrev pub ended : List ℕ → List Text → ℕ → Ans (List Text)
ended s es n = cond (ltb n (length s)) (bad n) (good es n)

-- more texts than there may be are wrong where their number starts
unfoldable pub texts_at : List ℕ → (count at : ℕ) → Ans (List Text)
texts_at s k n = cond (ltb most_texts k) (bad 0) (bind (many (new_text s) k [] n) (ended s))

unfoldable pub bundle_at : List ℕ → Ans (List Text)
bundle_at s = cond (ltb most_bytes (length s)) (bad 0) (bind (number_at s 0) (texts_at s))

-- ---- the look-up

-- where the first text with the name t stands
abbrev pub place_of : List ℕ → List Text → Option (ℕ × ℕ)
place_of t es = first_by (λ (e : Text). e.word) (λ (e : Text). Some (e.from, e.size)) t es None

abbrev pub looked : Option (ℕ × ℕ) → Result (Option (ℕ × ℕ)) ℕ
looked (Some (from, size)) = Ok (Some (from, size))
looked None = (Ok None)

-- which it is: 21 at a place, none, or a place and a length
abbrev pub look_in : List ℕ → Ans (List Text) → Result (Option (ℕ × ℕ)) ℕ
look_in t (good es n) = looked (place_of t es)
look_in t (bad p) = Err p

unfoldable pub look_up : List ℕ → List ℕ → Result (Option (ℕ × ℕ)) ℕ
look_up s t = look_in t (bundle_at s)

abbrev pub part_of : List ℕ → Result (Option (ℕ × ℕ)) ℕ → List ℕ
part_of s (Err p) = []
part_of s (Ok None) = []
part_of s (Ok (Some (from, size))) = take size (drop from s)

-- the bytes under the name t
unfoldable pub text_under : List ℕ → List ℕ → List ℕ
text_under s t = part_of s (look_up s t)
