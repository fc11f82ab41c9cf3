-- `text_statement::past_statement`. A gap ends once, so none stands where it ended, and the statement is the same from there.
-- Assumes nothing.
use Rattle.text.proofs.Laws.{gap_done}
use Rattle.text_statement.proofs.PastLaws.{past_gap}
use mathlib.Core.Path.{◌∙◌}
use Rattle.text_statement.proofs.past_statement.Goals as goal

pub past_statement_here-requires : goal.past_statement_here-requires
past_statement_here-requires c =
    gap_done c.args.s.now c.args.from.at c.skip_whitespace_and_comments-here.ensures

pub returns : goal.returns
returns c =
    let a = c.args in
    c.past_statement_here.ensures ∙ past_gap a.whole a.s.now a.from.at c.skip_whitespace_and_comments-here.ensures
