-- `scan_header::after_value`. What its calls require; the keyword decides what is due.
-- Assumes nothing.
use Rattle.scan_header.proofs.ReadLaws.{due_byte}
use Rattle.text.proofs.Laws.{gap_done}
use borrow.Author.Rules.{rules}
use Rattle.scan_header.proofs.after_value.Goals as goal

pub after_revision-requires : goal.after_revision-requires
after_revision-requires c = search (gap_done, rules)

pub expect_char-requires : goal.expect_char-requires
expect_char-requires c = search (due_byte, rules)
