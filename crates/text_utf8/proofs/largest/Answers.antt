-- `text_utf8::largest`. It is the library's fold by `max`.
-- Assumes nothing.
use Rattle.text_utf8.proofs.LargestLaws.{largest_fold}
use borrow.Author.Rules.{rules}
use Rattle.text_utf8.proofs.largest.Goals as goal

pub returns : goal.returns
returns c = rw (largest_fold 0 c.args.s.now) (search rules)
