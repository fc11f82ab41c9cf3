-- `text_string::among`. The library's test is the definition's, one byte after the other.
-- Assumes nothing.
use Rattle.text_string.proofs.StrLaws.{among_eight}
use Rattle.text_string.proofs.among.Goals as goal

pub returns : goal.returns
returns c = among_eight c.args.b c.args.s.now c.args.at c.contains.ensures.value
