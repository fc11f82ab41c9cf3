-- `text_utf8::short_end`. Where all bytes are below 128 the first wrong sequence is none; else the characters tell.
-- Assumes nothing.
use Rattle.text_utf8.proofs.Utf8Laws.{low_end}
use mathlib.Core.Path.{sym}
use Rattle.text_utf8.proofs.short_end.Goals as goal

pub returns-then-largest-lt128 : goal.returns-then-largest-lt128
returns-then-largest-lt128 c = sym (search low_end)
