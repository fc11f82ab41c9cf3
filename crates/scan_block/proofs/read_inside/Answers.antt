-- `scan_block::read_inside`. The answer is the line's, by cases.
-- Assumes nothing.
use Rattle.scan_block.proofs.InsideLaws.{line_grows, value_refused, value_read}
use borrow.Author.Rules.{rules}
use native.Mathlib.Omega.{arith}
use Rattle.scan_block.proofs.read_inside.Goals as goal

pub returns-in_err-next : goal.returns-in_err-next
returns-in_err-next c = (search (rules, value_refused, c.in_err-next.was), search rules)

pub overflow_sub-n : goal.overflow_sub-n
overflow_sub-n c =
    let a = c.args in
    line_grows a.whole a.s.now a.here.at a.body.used a.keyword 59 c.in_ok-next.next c.in_ok-next.n (omega arith) c.read_argument.ensures.0 c.in_ok-next.was

pub returns : goal.returns
returns c = (search (rules, value_read, c.in_ok-next.was), search rules)
