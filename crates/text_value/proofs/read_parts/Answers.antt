use Rattle.text_value.proofs.JoinLaws.{join_begun, join_long, join_nearer, join_more, join_done}
use native.Mathlib.Omega.{arith}
use Rattle.text_value.proofs.read_parts.Goals as goal

pub loop-m-init : goal.loop-m-init
loop-m-init c = join_begun (omega arith)

pub read_part-part-requires : goal.read_part-part-requires
read_part-part-requires c = omega (arith, join_long c.loop-m.invariant)

pub loop-m-smaller : goal.loop-m-smaller
loop-m-smaller c = join_nearer c.loop-m.invariant c.read_part-part.ensures.0 c.in-Some.m c.in-Some.is

pub loop-m-preserved : goal.loop-m-preserved
loop-m-preserved c = let part = c.read_part-part.ensures in join_more c.loop-m.invariant part.0 part.1 c.in-Some.m c.in-Some.is

pub returns-in_default : goal.returns-in_default
returns-in_default c = let part = c.read_part-part.ensures in join_done c.loop-m.invariant part.0 part.1 c.in_default.is
