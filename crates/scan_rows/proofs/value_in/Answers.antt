-- `scan_rows::value_in`. The store's end bounds both places.
-- Assumes nothing.
use Rattle.scan_rows.proofs.Values.{value_is}
use Rattle.scan_rows.proofs.value_in.Goals as goal

pub returns : goal.returns
returns c = value_is c.args.store.now c.args.x c.min.ensures c.min-2.ensures
