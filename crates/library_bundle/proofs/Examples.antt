-- Worked examples: each definition computes what stands beside it.
-- Assumes nothing.
use Rattle.std.specs.Prelude.{Err, Ok, None, Some}
use mathlib.Core.Path.{◌≡◌, refl}
use mathlib.Core.List.{List, [], ◌∷◌}
use Prim.Native.Nat.{ℕ}
use Rattle.text.specs.Keyword.{same}
use Rattle.library_form.specs.Form.{good, bad, groups, number_at, printable_at, word_at, name_body, name_at, many}
use Rattle.library_form.specs.Writer.{write_number, write_name}
use Rattle.library_index.specs.Names.{among, new_name}
use Rattle.library_bundle.specs.Bundle.{text_of, body_at, filed_at, texts_at, bundle_at, look_up, text_under}
use Rattle.library_bundle.specs.BundleWriter.{write_text, write_texts, write_bundle}

-- m
abbrev m : List ℕ
m = 109 ∷ []

-- ---- good bundles

no_texts : bundle_at (0 ∷ []) ≡ good [] 1
unfolding bundle_at number_at groups texts_at many
no_texts = refl

-- 01 01 6D 00
abbrev empty_text : List ℕ
empty_text = 1 ∷ 1 ∷ 109 ∷ 0 ∷ []

empty_text_lem : bundle_at empty_text ≡ good (text_of (word_at empty_text 2 1) 4 0 ∷ []) 4
unfolding bundle_at number_at groups texts_at many filed_at new_name among name_at name_body printable_at body_at
empty_text_lem = refl

-- an empty text is there
empty_there : look_up empty_text m ≡ Ok (Some (4, 0))
unfolding look_up bundle_at number_at groups texts_at many filed_at new_name among name_at name_body printable_at body_at same
empty_there = refl

-- two texts: m with 7 8, and mm with 9
abbrev two : List ℕ
two = 2 ∷ 1 ∷ 109 ∷ 2 ∷ 7 ∷ 8 ∷ 2 ∷ 109 ∷ 109 ∷ 1 ∷ 9 ∷ []

first_text : text_under two m ≡ 7 ∷ 8 ∷ []
unfolding text_under look_up bundle_at number_at groups texts_at many filed_at new_name among name_at name_body printable_at body_at same
first_text = refl

second_text : text_under two (109 ∷ 109 ∷ []) ≡ 9 ∷ []
unfolding text_under look_up bundle_at number_at groups texts_at many filed_at new_name among name_at name_body printable_at body_at same
second_text = refl

none_there : look_up two (110 ∷ []) ≡ (Ok None)
unfolding look_up bundle_at number_at groups texts_at many filed_at new_name among name_at name_body printable_at body_at same
none_there = refl

no_name : look_up two [] ≡ (Ok None)
unfolding look_up bundle_at number_at groups texts_at many filed_at new_name among name_at name_body printable_at body_at same
no_name = refl

-- ---- wrong ones

empty_bundle : bundle_at [] ≡ bad 0
unfolding bundle_at number_at groups
empty_bundle = refl

-- what is missing is wrong at the end
no_text_lem : bundle_at (1 ∷ []) ≡ bad 1
unfolding bundle_at number_at groups texts_at many filed_at new_name among name_at
no_text_lem = refl

no_length : bundle_at (1 ∷ 1 ∷ 109 ∷ []) ≡ bad 3
unfolding bundle_at number_at groups texts_at many filed_at new_name among name_at name_body printable_at
no_length = refl

-- m again, where its length stands
repeated : bundle_at (2 ∷ 1 ∷ 109 ∷ 0 ∷ 1 ∷ 109 ∷ 0 ∷ []) ≡ bad 4
unfolding bundle_at number_at groups texts_at many filed_at new_name among name_at name_body printable_at body_at same
repeated = refl

-- and before what follows it: here its text's length is missing
repeated_first : bundle_at (2 ∷ 1 ∷ 109 ∷ 0 ∷ 1 ∷ 109 ∷ []) ≡ bad 4
unfolding bundle_at number_at groups texts_at many filed_at new_name among name_at name_body printable_at body_at same
repeated_first = refl

cut_short : bundle_at (1 ∷ 1 ∷ 109 ∷ 2 ∷ 7 ∷ []) ≡ bad 3
unfolding bundle_at number_at groups texts_at many filed_at new_name among name_at name_body printable_at body_at
cut_short = refl

extra : bundle_at (1 ∷ 1 ∷ 109 ∷ 0 ∷ 5 ∷ []) ≡ bad 4
unfolding bundle_at number_at groups texts_at many filed_at new_name among name_at name_body printable_at body_at
extra = refl

-- 81 10: 2,049 texts
too_many : bundle_at (129 ∷ 16 ∷ []) ≡ bad 0
unfolding bundle_at number_at groups texts_at
too_many = refl

broken : look_up (1 ∷ 1 ∷ 109 ∷ 0 ∷ 5 ∷ []) m ≡ Err 4
unfolding look_up bundle_at number_at groups texts_at many filed_at new_name among name_at name_body printable_at body_at
broken = refl

broken_empty : text_under (1 ∷ 1 ∷ 109 ∷ 0 ∷ 5 ∷ []) m ≡ []
unfolding text_under look_up bundle_at number_at groups texts_at many filed_at new_name among name_at name_body printable_at body_at
broken_empty = refl

-- ---- written

written : write_bundle (record { name = m; bytes = 7 ∷ 8 ∷ [] } ∷ record { name = 109 ∷ 109 ∷ []; bytes = 9 ∷ [] } ∷ []) ≡ two
unfolding write_bundle write_texts write_text write_name write_number
written = refl

none_written : write_bundle [] ≡ 0 ∷ []
unfolding write_bundle write_texts write_number
none_written = refl
