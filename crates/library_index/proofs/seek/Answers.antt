use Rattle.library_index.proofs.Chain.{chain_begun, name_fits, chain_hit, chain_on, chain_falls, chain_done}
use mathlib.Core.Path.{refl}
use Rattle.library_index.proofs.seek.Goals as goal

pub loop-j-init : goal.loop-j-init
loop-j-init c = search chain_begun

pub overflow_add-place : goal.overflow_add-place
overflow_add-place c = search name_fits

pub returns-then-same : goal.returns-then-same
returns-then-same c = chain_hit _ _ _ _ _ c.requires _ c.loop-j.invariant refl refl c.loop-j-test.true c.same.ensures c.if-same.true

pub loop-j-smaller : goal.loop-j-smaller
loop-j-smaller c = chain_falls _ _ _ _ _ c.requires _ c.loop-j.invariant refl refl c.loop-j-test.true refl

pub loop-j-preserved : goal.loop-j-preserved
loop-j-preserved c = chain_on _ _ _ _ _ c.requires _ c.loop-j.invariant refl refl c.loop-j-test.true c.same.ensures refl c.if-same.false

pub returns : goal.returns
returns c = search chain_done
