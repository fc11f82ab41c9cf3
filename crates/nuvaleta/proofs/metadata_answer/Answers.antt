-- `nuvaleta::metadata_answer`. What the scan answered, in words.
-- Assumes nothing.
use Rattle.nuvaleta.proofs.RecordLaws.{small, described}
use mathlib.Core.Path.{refl}
use Rattle.nuvaleta.proofs.metadata_answer.Goals as goal

pub record_words-requires : goal.record_words-requires
record_words-requires c =
    let a = c.args in
    let k = small a.whole a.text.now _ a.store.now c.extract_yang_metadata-read.ensures in
    (k.six_values, k.fit)

pub metadata_words-requires : goal.metadata_words-requires
metadata_words-requires c =
    let a = c.args in
    let k = small a.whole a.text.now _ a.store.now c.extract_yang_metadata-read.ensures in
    (k.place, k.count)

pub returns : goal.returns
returns c =
    let a = c.args in
    described a.whole a.text.now _ a.store.now c.extract_yang_metadata-read.ensures c.record_words.ensures
    c.metadata_words.ensures c.number.ensures
