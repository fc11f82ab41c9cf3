-- `graph_marks::mark_item`. Each way out is one law of Setting.
-- Assumes nothing.
use Rattle.graph_nodes.proofs.Growing.{entry_told}
use Rattle.graph_marks.proofs.Setting.{end_in, end_fits, row_low, node_low, at_bytes, at_in, next_fits, next_bytes, next_in, mark_nowhere, mark_other}
use Rattle.graph_marks.proofs.Setting.{mark_entry, mark_sub}
use borrow.Author.Rules.{rules}
use mathlib.Core.Path.{refl}
use Rattle.graph_marks.proofs.mark_item.Goals as goal

pub overflow_add-x : goal.overflow_add-x
overflow_add-x c = search end_fits

pub slice_bounds-find-end : goal.slice_bounds-find-end
slice_bounds-find-end c = search end_in

pub returns-in_default : goal.returns-in_default
returns-in_default c = (search mark_nowhere, refl)

pub node_of-requires : goal.node_of-requires
node_of-requires c = search row_low

pub pair_row-at-requires : goal.pair_row-at-requires
pair_row-at-requires c = search node_low

pub offset_bounds-marks-at : goal.offset_bounds-marks-at
offset_bounds-marks-at c = search at_bytes

pub bounds-marks-at : goal.bounds-marks-at
bounds-marks-at c = search at_in

pub returns-then-is_entry : goal.returns-then-is_entry
returns-then-is_entry c = (search (mark_entry, entry_told), search rules)

pub returns-else-is_submodule : goal.returns-else-is_submodule
returns-else-is_submodule c = (search (mark_other, entry_told), refl)

pub overflow_add-marks : goal.overflow_add-marks
overflow_add-marks c = search next_fits

pub offset_bounds-marks-at-then-is_submodule : goal.offset_bounds-marks-at-then-is_submodule
offset_bounds-marks-at-then-is_submodule c = search next_bytes

pub bounds-marks-at-then-is_submodule : goal.bounds-marks-at-then-is_submodule
bounds-marks-at-then-is_submodule c = search next_in

pub returns-then-is_submodule : goal.returns-then-is_submodule
returns-then-is_submodule c = (search (mark_sub, entry_told), search rules)
