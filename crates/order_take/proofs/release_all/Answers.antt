use Rattle.order_take.proofs.Releasing.{release_begun, release_done, release_falls, may_release, release_more}
use Rattle.order_take.proofs.release_all.Goals as goal

pub loop-e-init : goal.loop-e-init
loop-e-init c = search release_begun

pub release-requires : goal.release-requires
release-requires c = search may_release

pub loop-e-smaller : goal.loop-e-smaller
loop-e-smaller c = search release_falls

pub loop-e-preserved : goal.loop-e-preserved
loop-e-preserved c =
    let pre = c.requires in
    release_more _ _ _ _ _ _ pre _ _ _ c.loop-e.invariant c.loop-e-test.true c.node_row.ensures
    c.release.ensures c.of_link-e-in-loop-e.ensures

pub returns : goal.returns
returns c = search release_done
