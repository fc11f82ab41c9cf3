use mathlib.Core.Path.{ap, ◌∙◌}
use native.Mathlib.Omega.{arith}
use Rattle.std.specs.Prelude.{Ok}
use Rattle.std.proofs.lemmas.Result.{err_from_is_err_and}
use Rattle.graph_marks.proofs.Nodes.{desk_of}
use Rattle.graph_link.proofs.Single.{node_low}
use Rattle.graph_visit.proofs.Visiting.{longer}
use Rattle.graph_walk.proofs.Walking.{opened, not_visited, known, memory_in, word_node, kept_out, ended_all, halted_here, kept_end, some_left, child_low}
use Rattle.graph_walk.proofs.Walking.{child_room, sent_up, child_height, went_on, kept_sent}
use Rattle.graph_walk.proofs.+walk.Goals as goal

pub returns-in_err-met : goal.returns-in_err-met
returns-in_err-met t c =
    let p = err_from_is_err_and c.from_residual.result c.from_residual.ensures.1 in
    rw (p.1, p.2) (opened _ _ _ _ _ _ _ _ _ _ _ _ (not_visited _ _ c.meet.ensures.0 c.in_err-met.was), c.meet.ensures.1)

pub returns-in_default : goal.returns-in_default
returns-in_default t c =
    (opened _ _ _ _ _ _ _ _ _ _ _ _ (known _ _ c.meet.ensures.0 (c.in_ok-met.was ∙ ap Ok c.in_default.is)), c.meet.ensures.1)

pub step-requires : goal.step-requires
step-requires t c =
    let l = c.loop-i.invariant in
    let desk = desk_of c.args.ground.nodes.found in
    (l.0.filed, word_node l.0 desk c.loop-i-test.true, node_low _ _ _ _ desk _ c.requires.1)

pub returns-in_err-u : goal.returns-in_err-u
returns-in_err-u t c =
    let l = c.loop-i.invariant in
    let p = err_from_is_err_and c.from_residual-in_err-u.result c.from_residual-in_err-u.ensures.1 in
    rw (p.1, p.2) (
      opened _ _ _ _ _ _ _ _ _ _ _ _
          (halted_here l.0 c.meet.ensures.0 (c.in_ok-met.was ∙ ap Ok c.in-Some.is) c.step.ensures c.loop-i-test.true c.in_err-u.was),
      kept_out l.0 c.meet.ensures.1 l.1,
    )

pub walk-requires : goal.walk-requires
walk-requires t c =
    let l = c.loop-i.invariant in
    let more = c.loop-i-test.true in (
      omega (arith, c.decreases, some_left l.0 c.step.ensures more c.in_ok-u.was),
      (
        child_room l.0 c.step.ensures more c.in_ok-u.was c.requires.0 c.meet.ensures.1 l.1,
        child_low l.0 c.step.ensures more c.in_ok-u.was,
      ),
    )

pub returns-in_err-total : goal.returns-in_err-total
returns-in_err-total t c =
    let l = c.loop-i.invariant in
    let more = c.loop-i-test.true in
    let below = c.walk.ensures in
    let p = err_from_is_err_and c.from_residual-in_err-total.result c.from_residual-in_err-total.ensures.1 in
    rw (p.1, p.2) (
      opened _ _ _ _ _ _ _ _ _ _ _ _
          (sent_up l.0 c.step.ensures more c.in_ok-u.was below.0 c.meet.ensures.0 (c.in_ok-met.was ∙ ap Ok c.in-Some.is) c.in_err-total.was),
      kept_sent l.0 c.step.ensures more c.in_ok-u.was below.0 below.1 c.meet.ensures.1 l.1,
    )

pub raise-most-requires : goal.raise-most-requires
raise-most-requires t c =
    let l = c.loop-i.invariant in
    let more = c.loop-i-test.true in
    let below = c.walk.ensures in (
      omega (arith, memory_in l.0, below.1.long.levels_long),
      node_low _ _ _ _ (desk_of c.args.ground.nodes.found) _ (child_low l.0 c.step.ensures more c.in_ok-u.was),
      omega (arith, child_height l.0 c.step.ensures more c.in_ok-u.was below.0 below.1 c.in_ok-total.was, c.requires.0.deep),
    )

pub loop-i-preserved : goal.loop-i-preserved
loop-i-preserved t c =
    let l = c.loop-i.invariant in
    let below = c.walk.ensures in (
      went_on l.0 c.step.ensures c.loop-i-test.true c.in_ok-u.was below.0 below.1 c.in_ok-total.was c.raise-most.ensures,
      longer l.1 below.1.long,
    )

pub returns : goal.returns
returns t c =
    let l = c.loop-i.invariant in (
      opened _ _ _ _ _ _ _ _ _ _ _ _
          (ended_all l.0 c.meet.ensures.0 (c.in_ok-met.was ∙ ap Ok c.in-Some.is) (node_low _ _ _ _ (desk_of c.args.ground.nodes.found) _ c.requires.1)
          c.remember.ensures c.loop-i-test.false),
      kept_end l.0 c.meet.ensures.1 l.1 c.remember.ensures,
    )
