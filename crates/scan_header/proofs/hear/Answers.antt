-- `scan_header::hear`. What is lent for the whole is enough behind a keyword; what stands after the gap decides.
-- Assumes nothing.
use Rattle.scan_header.proofs.StatementLaws.{statement_room}
use Rattle.scan_header.proofs.hear.Goals as goal

pub read_statement-requires : goal.read_statement-requires
read_statement-requires c =
    let a = c.args in
    statement_room a.s.now a.from.at a.used _ c.skip_whitespace_and_comments-here.ensures c.read_tag.ensures c.in-Statement.keyword
    c.in-Statement.after c.in-Statement.is c.requires
