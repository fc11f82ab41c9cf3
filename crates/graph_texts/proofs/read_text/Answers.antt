-- `graph_texts::read_text`. Each way out is one law of Under.
-- Assumes nothing.
use Rattle.graph_texts.proofs.Under.{none_under, under_room, text_under}
use Rattle.library_bundle.proofs.Looking.{text_in}
use Rattle.graph_texts.proofs.read_text.Goals as goal

pub returns-in_default : goal.returns-in_default
returns-in_default c = search none_under

pub text_at-requires : goal.text_at-requires
text_at-requires c = search text_in

pub scan_text-requires : goal.scan_text-requires
scan_text-requires c = search under_room

pub returns : goal.returns
returns c = search text_under
