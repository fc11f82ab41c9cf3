-- `scan_metadata::extract_yang_metadata`. What was lent is cleared, then checked; only where it is fit the scan runs.
-- Assumes nothing.
use Rattle.scan_metadata.proofs.EntryLaws.{entry_cleared, entry_scanned, entry_refused}
use mathlib.Core.Path.{refl}
use Rattle.scan_metadata.proofs.extract_yang_metadata.Goals as goal

pub returns-in-Err : goal.returns-in-Err
returns-in-Err c =
    let a = c.args in
    entry_refused a.whole a.s.now a.store.now (c.fill.ensures.after (λ y e. e)) refl c.check_lent.ensures c.in-Err.r c.in-Err.is c.refused.ensures

pub parse_cleared-requires : goal.parse_cleared-requires
parse_cleared-requires c =
    let a = c.args in
    entry_cleared a.whole a.s.now a.store.now (c.fill.ensures.after (λ y e. e)) refl c.check_lent.ensures c.in-Ok.is

pub returns-in-Ok : goal.returns-in-Ok
returns-in-Ok c =
    let a = c.args in
    entry_scanned a.whole a.s.now a.store.now (c.fill.ensures.after (λ y e. e)) refl c.check_lent.ensures c.in-Ok.is
    c.parse_cleared.ensures
