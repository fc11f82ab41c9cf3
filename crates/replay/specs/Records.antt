-- Whether what a call answers is what is recorded, and a run over the records of a file.
-- Assumes nothing.
use Rattle.std.specs.Prelude.{ℕ, zero, suc, ◌≡◌, ◌+◌, ◌<◌, ◌%◌, ◌^◌, Bool, true, false, cond, ◌&&◌, ◌||◌, List, length, ◌==◌, nat_le, slice_index}
use Rattle.std.specs.Borrow.{Bor}
use Rattle.text.specs.Refusal.{other_byte, end_of_text}
use Rattle.text.specs.Turns.{Turn, stop, on, turns}
use Rattle.text.specs.declared.Refusal.{Refusal}
use Rattle.replay.specs.Fields.{on_by, behind, word_at}
use Rattle.replay.specs.declared.Tally.{Tally}

-- ---- refusals

-- the Rust's one error for refusals 5 and 6 after an include's value
abbrev pub five_or_six : ℕ
five_or_six = 56

unfoldable pub number_told_as : ℕ → ℕ → Bool
number_told_as recorded is = cond (recorded == five_or_six) (is == other_byte || is == end_of_text) (recorded == is)

-- number, keyword and position, from a place of the answer on; a position is recorded as a word
unfoldable pub refusal_told_as : List ℕ → ℕ → Refusal → Bool
refusal_told_as answer at r =
    number_told_as (word_at answer at) r.number && word_at answer (at + 4) == r.keyword
    && word_at answer (at + 8) == r.at % 4294967296

-- ---- words of a table

-- the place of the next recorded word, and that of the word of the table
pub record Pair : Type 0 where
  pub at : ℕ
  pub row : ℕ

-- one word of the table, beside one of the field; behind the field's end a recorded word is 0
unfoldable pub pair_turn : List ℕ → List ℕ → (step : ℕ) → Pair → Turn Pair Bool
pair_turn f t step p =
    cond (nat_le (length t) p.row) (stop true)
    (cond (word_at f p.at == slice_index t p.row) (on (record { at = on_by f p.at 4; row = p.row + step })) (stop false))

-- each word of the table, or each second one and so on, by the step
unfoldable pub words_from : List ℕ → List ℕ → (step : ℕ) → Pair → Bool
words_from f t step p = turns (pair_turn f t step) true (suc (length t)) p

abbrev pub words_told_as : List ℕ → (first : ℕ) → List ℕ → (step : ℕ) → Bool
words_told_as f first t step = words_from f t step (record { at = first; row = 0 })

-- ---- a run

-- the place behind so many fields
unfoldable pub behind_all : (count : ℕ) → List ℕ → ℕ → ℕ
behind_all zero d at = at
behind_all (suc k) d at = behind_all k d (behind d at)

abbrev pub begun : Tally
begun = record { at = 0; records = 0; different = 0 }

-- one record more, which agrees or not, and the place behind it
abbrev pub passed : Tally → (agrees : Bool) → (next : ℕ) → Tally
passed t agrees next =
    record { at = next; records = (t.records + 1) % 2 ^ 64; different = cond agrees t.different ((t.different + 1) % 2 ^ 64) }

-- what a closure told of the record at a place: whether it agrees, and the place behind it
abbrev pub Told : (post : Bor (List ℕ) → ℕ → Bool × ℕ → Type 0) → (d : List ℕ) → (at : ℕ) → (agrees : Bool) → (next : ℕ) → Type 0
Told post d at agrees next = (s : Bor (List ℕ)) × (s.now ≡ d) × post s at (agrees, next)

-- the runs over a file: each record starts before its end, where the closure said of the one before
pub data Runs (post : Bor (List ℕ) → ℕ → Bool × ℕ → Type 0) (d : List ℕ) : Tally → Type 0 where
  none_yet : Runs post d begun
  one_more : {t : Tally} {agrees : Bool} {next : ℕ} → Runs post d t → t.at < length d → Told post d t.at agrees next → Runs post d (passed t agrees next)

-- such a run, to the file's end, or over as many records as there are bytes
abbrev pub RunsThrough : (post : Bor (List ℕ) → ℕ → Bool × ℕ → Type 0) → (d : List ℕ) → Tally → Type 0
RunsThrough post d t = Runs post d t × (t.at < length d → t.records ≡ length d)
