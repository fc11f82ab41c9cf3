use Rattle.library_search.proofs.Loops.{part_passed, part_ends, all_passed, list_uncounted, list_begun}
use Rattle.library_search.proofs.try_list.Goals as goal

pub returns-in_default : goal.returns-in_default
returns-in_default g c = search (list_uncounted, c.in_default.ensures)

pub loop-init : goal.loop-init
loop-init g c = search (list_begun, c.in-Ok.ensures)

pub returns-in_err-here : goal.returns-in_err-here
returns-in_err-here g c =
    rw c.from_residual.ensures
    (part_ends _ _ _ _ _ c.loop.invariant (c.requires.1.1 _ _ c.in_err-here.ensures) c.loop-test.true)

pub loop-preserved : goal.loop-preserved
loop-preserved g c = part_passed _ _ _ _ _ c.loop.invariant (c.requires.1.1 _ _ c.in_ok-here.ensures) c.loop-test.true

pub returns : goal.returns
returns g c = search all_passed
