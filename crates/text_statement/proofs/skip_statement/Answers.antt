use Rattle.std.specs.Prelude.{Ok}
use Rattle.text.proofs.Laws.{gap_from, gap_done}
use Rattle.text_statement.proofs.StatementLaws.{statement_is, statement_stop, statement_high, statement_more, statement_on, statement_room, statement_gap}
use borrow.Author.Rules.{rules}
use mathlib.Core.Path.{sym, ap, ◌∙◌}
use native.Mathlib.Omega.{arith}
use Rattle.text_statement.proofs.skip_statement.Goals as goal

pub loop-next-init : goal.loop-next-init
loop-next-init c = let a = c.args in (omega arith, c.requires, sym (statement_is a.s.now a.here.at))

pub skip_part-requires : goal.skip_part-requires
skip_part-requires c = c.loop-next.invariant.0

pub returns-in_err-next : goal.returns-in_err-next
returns-in_err-next c =
    let s = c.args.s.now in
    let high = statement_high s c.loop-next.at.at c.loop-next.depth (sym c.loop-next.invariant.1) c.skip_part.ensures _ c.in_err-next.was in
    search (rules, sym high ∙ c.loop-next.invariant.2)

pub loop-next-smaller : goal.loop-next-smaller
loop-next-smaller c =
    let s = c.args.s.now in
    let told = c.in_ok-next.was ∙ ap Ok c.in-Continue.is in
    let less = statement_on s c.loop-next.at.at c.loop-next.depth (sym c.loop-next.invariant.1) c.skip_part.ensures c.in-Continue.next c.in-Continue.d told in
    omega (arith, less, c.skip_whitespace_and_comments-at.ensures, gap_from s c.in-Continue.next.at)

pub loop-next-preserved : goal.loop-next-preserved
loop-next-preserved c =
    let s = c.args.s.now in
    let at = c.loop-next.at.at in
    let d = c.loop-next.depth in
    let next = c.in-Continue.next in
    let told = c.in_ok-next.was ∙ ap Ok c.in-Continue.is in
    let none = sym c.loop-next.invariant.1 in
    let e = c.skip_whitespace_and_comments-at.ensures in
    let room = statement_room s at d none c.skip_part.ensures next c.in-Continue.d told c.loop-next.invariant.0 in
    let more = statement_more s at d none c.skip_part.ensures next c.in-Continue.d told in (
      omega (arith, room, e, gap_from s next.at),
      gap_done s next.at e,
      statement_gap s next.at c.in-Continue.d e ∙ sym more ∙ c.loop-next.invariant.2,
    )

pub returns-in-Break : goal.returns-in-Break
returns-in-Break c =
    let end = c.in-Break.end in
    sym (statement_stop c.args.s.now c.loop-next.at.at c.loop-next.depth (sym c.loop-next.invariant.1) c.skip_part.ensures end.0 end.1
    (c.in_ok-next.was ∙ ap Ok c.in-Break.is)) ∙ c.loop-next.invariant.2
