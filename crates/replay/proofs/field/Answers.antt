-- `replay::field` hands back what lies between the two places, neither behind the end.
-- Assumes nothing.
use Rattle.replay.proofs.Laws.{field_order, field_end, field_is}
use Rattle.replay.proofs.field.Goals as goal

pub slice_bounds-result-count : goal.slice_bounds-result-count
slice_bounds-result-count c = search field_order

pub slice_bounds-result-start : goal.slice_bounds-result-start
slice_bounds-result-start c = search field_order

pub slice_bounds-result-end : goal.slice_bounds-result-end
slice_bounds-result-end c = search field_end

pub returns : goal.returns
returns c =
    field_is c.args.d.now c.args.at c.on_by.ensures c.after.ensures
