use Rattle.graph_link.proofs.Saving.{included_low, saving_begins, all_saved, level_in, saved_on}
use Rattle.graph_marks.proofs.Nodes.{desk_of}
use native.Mathlib.Omega.{arith}
use Rattle.graph_link.proofs.save_includes.Goals as goal

pub loop-i-init : goal.loop-i-init
loop-i-init c = search saving_begins

pub code_of-requires : goal.code_of-requires
code_of-requires c = search (included_low, desk_of)

pub overflow_add-levels : goal.overflow_add-levels
overflow_add-levels c = record { fits = omega (arith, level_in _ _ _ _ _ _ _ _ _ _ c.loop-i.invariant c.loop-i-test.true, c.loop-i.invariant.long) }

pub offset_bounds-levels-base : goal.offset_bounds-levels-base
offset_bounds-levels-base c = record { fits = omega (arith, level_in _ _ _ _ _ _ _ _ _ _ c.loop-i.invariant c.loop-i-test.true, c.loop-i.invariant.long) }

pub bounds-levels-base : goal.bounds-levels-base
bounds-levels-base c = search level_in

pub loop-i-preserved : goal.loop-i-preserved
loop-i-preserved c = search saved_on

pub returns : goal.returns
returns c = search all_saved
