-- `library_bundle::text`. Each way out is one law of Looking.
-- Assumes nothing.
use Rattle.library_bundle.proofs.Looking.{no_text_lem, text_in, the_text}
use Rattle.library_bundle.proofs.text.Goals as goal

pub text_at-requires : goal.text_at-requires
text_at-requires c = search text_in

pub returns-in-Some : goal.returns-in-Some
returns-in-Some c = search the_text

pub returns-in-None : goal.returns-in-None
returns-in-None c = search no_text_lem
