-- `text_utf8::utf8_end`. Where the blocks reach the text's end and the last one is below 128 as well, no sequence is wrong; else the characters tell.
-- Assumes nothing.
use mathlib.Core.Path.{◌∙◌}
use Rattle.text_utf8.proofs.Utf8Laws.{low_last}
use Rattle.text_utf8.proofs.utf8_end.Goals as goal

pub returns-then-largest-lt128 : goal.returns-then-largest-lt128
returns-then-largest-lt128 c =
    low_last c.args.s.now _ _ c.low_blocks-near.ensures.1 c.if-last-near.true c.largest.ensures c.if-largest-lt128.true

pub returns : goal.returns
returns c = c.characters_from.ensures ∙ c.low_blocks-near.ensures.1
