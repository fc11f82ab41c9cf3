use Rattle.scan_block.proofs.BlockLaws.{reading_begun, reading_long, reading_on, reading_more, reading_done, reading_refused}
use Rattle.std.specs.Prelude.{Ok}
use borrow.Author.Rules.{rules}
use mathlib.Core.Path.{ap, ◌∙◌}
use native.Mathlib.Omega.{arith}
use Rattle.scan_block.proofs.parse_block.Goals as goal

pub loop-next-init : goal.loop-next-init
loop-next-init c = reading_begun c.args.here.at c.begun-body.ensures c.requires

pub parse_inside-requires : goal.parse_inside-requires
parse_inside-requires c =
    let j = c.loop-next.invariant in
    omega (arith, reading_long j, j.room)

pub loop-next-smaller : goal.loop-next-smaller
loop-next-smaller c =
    let w = c.parse_inside.ensures in
    reading_on c.loop-next.invariant w c.in-On.next (c.in_ok-next.was ∙ ap Ok c.in-On.is)

pub loop-next-preserved : goal.loop-next-preserved
loop-next-preserved c =
    let w = c.parse_inside.ensures in
    reading_more c.loop-next.invariant w c.in-On.next (c.in_ok-next.was ∙ ap Ok c.in-On.is)

pub shape_of-store-in-Closed : goal.shape_of-store-in-Closed
shape_of-store-in-Closed c =
    c.parse_inside.auto.store ∙ reading_long c.loop-next.invariant

pub returns-in-Closed : goal.returns-in-Closed
returns-in-Closed c =
    let w = c.parse_inside.ensures in
    let a = c.args in
    reading_done c.loop-next.invariant w a.here.at c.begun-body.ensures c.in-Closed.end (c.in_ok-next.was ∙ ap Ok c.in-Closed.is)

pub returns-in_err-next : goal.returns-in_err-next
returns-in_err-next c =
    let w = c.parse_inside.ensures in
    let a = c.args in
    let l = reading_refused c.loop-next.invariant w a.here.at c.begun-body.ensures c.in_err-next.field-0.0 c.in_err-next.was in
    (search (rules, l.0), l.1)
