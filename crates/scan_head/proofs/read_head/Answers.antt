-- `scan_head::read_head`. Where no identifier begins no keyword matches.
-- Assumes nothing.
use Rattle.scan_head.proofs.HeadLaws.{head_none}
use mathlib.Core.Path.{sym}
use Rattle.scan_head.proofs.read_head.Goals as goal

pub returns-else-starts_ident : goal.returns-else-starts_ident
returns-else-starts_ident c = sym (search head_none)
