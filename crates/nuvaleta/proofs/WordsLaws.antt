-- The first word of an answer is its number.
-- Assumes nothing.
use Rattle.std.specs.Prelude.{Ok, Err, Result}
use mathlib.Core.Path.{◌≡◌, refl}
use lib.ListN.{get_or}
use Rattle.text.specs.declared.Refusal.{Refusal}
use Rattle.yangparser.specs.declared.Rows.{Rows}
use Rattle.nuvaleta.specs.Words.{number_of, answer_words}

-- the first is the number
pub first_word : (r : Result Rows Refusal) → get_or (answer_words r) 0 0 ≡ number_of r
unfolding answer_words number_of
first_word (Ok r) = let record { imports = m; includes = n; used = k } = r in refl
first_word (Err y) = refl
