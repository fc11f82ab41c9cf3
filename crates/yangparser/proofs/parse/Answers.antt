use Rattle.std.specs.Prelude.{Ok}
use Rattle.yangparser.proofs.LoopLaws.{read_begun, read_long, read_room, read_nearer, read_more, read_done, read_refused}
use borrow.Author.Rules.{rules}
use mathlib.Core.Path.{ap, ◌∙◌}
use native.Mathlib.Omega.{arith}
use Rattle.yangparser.proofs.parse.Goals as goal

pub loop-next-init : goal.loop-next-init
loop-next-init c = read_begun

pub parse_next-requires : goal.parse_next-requires
parse_next-requires c =
    let l = read_long c.loop-next.invariant in
    (read_room c.loop-next.invariant, omega (arith, l), c.requires.1, omega (arith, l), omega (arith, l))

pub loop-next-smaller : goal.loop-next-smaller
loop-next-smaller c =
    read_nearer c.loop-next.invariant c.parse_next.ensures c.in-Some.next (c.in_ok-next.was ∙ ap Ok c.in-Some.is)

pub loop-next-preserved : goal.loop-next-preserved
loop-next-preserved c =
    read_more c.loop-next.invariant c.parse_next.ensures c.in-Some.next (c.in_ok-next.was ∙ ap Ok c.in-Some.is)

pub returns : goal.returns
returns c =
    read_done c.loop-next.invariant c.parse_next.ensures (c.in_ok-next.was ∙ ap Ok c.in_default.is)

pub returns-in_err-next : goal.returns-in_err-next
returns-in_err-next c =
    read_refused c.loop-next.invariant c.parse_next.ensures c.in_err-next.field-0.0 c.in_err-next.was (search rules)
