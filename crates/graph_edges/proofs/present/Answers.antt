use Rattle.graph_edges.proofs.Chains.{seek_begun, seek_found, seek_falls, seek_next, seek_none}
use Rattle.graph_edges.proofs.present.Goals as goal

pub loop-e-init : goal.loop-e-init
loop-e-init c = search seek_begun

pub returns-then-is_at : goal.returns-then-is_at
returns-then-is_at c = search seek_found

pub loop-e-smaller : goal.loop-e-smaller
loop-e-smaller c = search seek_falls

pub loop-e-preserved : goal.loop-e-preserved
loop-e-preserved c = search seek_next

pub returns : goal.returns
returns c = search seek_none
