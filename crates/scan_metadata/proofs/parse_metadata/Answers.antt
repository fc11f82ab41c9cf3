use Rattle.scan_metadata.proofs.LoopLaws.{loop_done, loop_refused}
use Rattle.scan_metadata.proofs.LoopLaws.{loop_begin, loop_room, loop_value, loop_value_nearer, loop_passed, loop_passed_nearer}
use Rattle.std.specs.Prelude.{Ok}
use mathlib.Core.Path.{refl, ap, ◌∙◌}
use Rattle.scan_metadata.proofs.parse_metadata.Goals as goal

pub loop-keyword-init : goal.loop-keyword-init
loop-keyword-init c = loop_begin c.no_values-values.ensures c.requires

pub hear-requires : goal.hear-requires
hear-requires c = loop_room c.loop-keyword.invariant

pub loop-keyword-smaller-in-Ok-Value : goal.loop-keyword-smaller-in-Ok-Value
loop-keyword-smaller-in-Ok-Value c =
    let j = c.loop-keyword.invariant in
    let h = c.hear.ensures in
    let v = c.in-Ok-Value in
    loop_value_nearer j refl h.0 h.1 v.keyword v.value v.next v.n (v.is ∙ ap Ok v.field-0-is)

pub loop-keyword-preserved-in-Ok-Value : goal.loop-keyword-preserved-in-Ok-Value
loop-keyword-preserved-in-Ok-Value c =
    let j = c.loop-keyword.invariant in
    let h = c.hear.ensures in
    let v = c.in-Ok-Value in
    loop_value j refl h.0 h.1 v.keyword v.value v.next v.n (v.is ∙ ap Ok v.field-0-is) c.kept-values.ensures

pub loop-keyword-smaller : goal.loop-keyword-smaller
loop-keyword-smaller c =
    let j = c.loop-keyword.invariant in
    let h = c.hear.ensures in
    let v = c.in-Ok-Passed in
    loop_passed_nearer j refl h.0 h.1 v.next (v.is ∙ ap Ok v.field-0-is)

pub loop-keyword-preserved : goal.loop-keyword-preserved
loop-keyword-preserved c =
    let j = c.loop-keyword.invariant in
    let h = c.hear.ensures in
    let v = c.in-Ok-Passed in
    loop_passed j refl h.0 h.1 v.next (v.is ∙ ap Ok v.field-0-is)

pub returns-in-Ok-Done : goal.returns-in-Ok-Done
returns-in-Ok-Done c =
    let j = c.loop-keyword.invariant in
    let h = c.hear.ensures in
    let v = c.in-Ok-Done in
    loop_done j refl h.0 h.1 v.end (v.is ∙ ap Ok v.field-0-is) c.ended.ensures

pub returns-in-Err : goal.returns-in-Err
returns-in-Err c =
    let j = c.loop-keyword.invariant in
    let h = c.hear.ensures in
    loop_refused j refl h.0 h.1 c.in-Err.r c.in-Err.is c.refused.ensures
