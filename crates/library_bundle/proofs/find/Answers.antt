-- `library_bundle::find`. Each way out is one law of Looking.
-- Assumes nothing.
use Rattle.library_bundle.proofs.Looking.{unnamed, low_word, name_fits, unsized, stands}
use Rattle.library_bundle.proofs.find.Goals as goal

pub returns-in_err-i : goal.returns-in_err-i
returns-in_err-i c = rw c.from_residual.ensures (search (unnamed, c.in_err-i.was))

pub place_of-place-requires : goal.place_of-place-requires
place_of-place-requires c = search (low_word, c.in_ok-i.was)

pub length_of-len-requires : goal.length_of-len-requires
length_of-len-requires c = search (low_word, c.in_ok-i.was)

pub overflow_add-place : goal.overflow_add-place
overflow_add-place c = search (name_fits, c.in_ok-i.was)

pub returns-in_err-size : goal.returns-in_err-size
returns-in_err-size c = rw c.from_residual-in_err-size.ensures (search (unsized, c.in_ok-i.was, c.in_err-size.ensures.value))

pub returns : goal.returns
returns c = search (stands, c.in_ok-i.was, c.in_ok-size.ensures.value)
