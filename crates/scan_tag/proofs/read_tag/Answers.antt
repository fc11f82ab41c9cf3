-- `scan_tag::read_tag`. Where no identifier begins no keyword matches.
-- Assumes nothing.
use Rattle.scan_tag.proofs.TagLaws.{tag_none}
use mathlib.Core.Path.{sym}
use Rattle.scan_tag.proofs.read_tag.Goals as goal

pub returns-else-starts_ident : goal.returns-else-starts_ident
returns-else-starts_ident c = sym (search tag_none)
