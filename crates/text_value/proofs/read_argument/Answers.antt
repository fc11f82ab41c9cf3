-- `text_value::read_argument`. A refused value is the answer as it is; after a value the answer is that of the byte due there.
-- Assumes nothing.
use borrow.Author.Rules.{rules}
use Rattle.text_value.specs.Argument.{line_at, after_argument, after_due}
use Rattle.text_value.proofs.read_argument.Goals as goal

pub returns-in_err-next : goal.returns-in_err-next
unfolding line_at after_argument after_due
returns-in_err-next c = (search (rules, c.in_err-next.was), c.read_value.ensures.1)

pub returns-in_err-end : goal.returns-in_err-end
unfolding line_at after_argument after_due
returns-in_err-end c = (search (rules, c.in_ok-next.was, c.in_err-end.was), c.read_value.ensures.1)

pub returns : goal.returns
unfolding line_at after_argument after_due
returns c = (search (rules, c.in_ok-next.was, c.in_ok-end.was), c.read_value.ensures.1)
