-- `text_utf8::seq_len`. Each way out is one law.
-- Assumes nothing.
use Rattle.text_utf8.proofs.Utf8Laws.{seq_one, seq_two, seq_three, seq_four, seq_none}
use Rattle.text_utf8.specs.Utf8.{some_len}
use mathlib.Core.Path.{ap}
use Rattle.text_utf8.proofs.seq_len.Goals as goal

pub returns-then-a-lt128 : goal.returns-then-a-lt128
returns-then-a-lt128 c = ap some_len {x = 1} (search seq_one)

pub returns-then-two : goal.returns-then-two
returns-then-two c = ap some_len {x = 2} (search seq_two)

pub returns-then-three : goal.returns-then-three
returns-then-three c = ap some_len {x = 3} (search seq_three)

pub returns-then-four : goal.returns-then-four
returns-then-four c = ap some_len {x = 4} (search seq_four)

pub returns : goal.returns
returns c = ap some_len {x = 0} (search seq_none)
