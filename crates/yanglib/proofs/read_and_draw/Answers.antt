-- `yanglib::read_and_draw`. Each way out is one law of Whole.
-- Assumes nothing.
use mathlib.Core.Path.{◌≡◌, refl}
use borrow.Author.Rules.{rules}
use Rattle.std.proofs.lemmas.Result.{err_from_is_err_and}
use Rattle.graph_tables.specs.Lengths.{lengths_of}
use Rattle.graph_link.proofs.Handing.{was_ok, was_err}
use Rattle.graph_build.specs.Result.{refused_at}
use Rattle.yanglib.proofs.Whole.{both_read, lent, lent_nodes, no_image, no_bundle, not_enough, all_held}
use Rattle.yanglib.proofs.read_and_draw.Goals as goal

pub returns-in_err-map_err : goal.returns-in_err-map_err
returns-in_err-map_err c =
    let p = err_from_is_err_and c.from_residual.result c.from_residual.ensures.1 in
    let w = was_err _ c.read_image.result c.map_err.ensures.cases c.in_err-map_err.was in
    let z : c.in_err-map_err.field-0.0 ≡ refused_at 20 w.0 = search rules in
    rw (p.1, p.2) (no_image _ _ _ _ _ _ _ _ _ c.requires.0 c.requires.1 w.1 c.read_image.ensures z)

pub returns-in_err-texts : goal.returns-in_err-texts
returns-in_err-texts c =
    let p = err_from_is_err_and c.from_residual-in_err-texts.result c.from_residual-in_err-texts.ensures.1 in
    let r = was_ok _ c.read_image.result c.map_err.ensures.cases c.in_ok-map_err.was in
    let w = was_err _ c.«open».result c.map_err-2.ensures.cases c.in_err-texts.was in
    let z : c.in_err-texts.field-0.0 ≡ refused_at 21 w.0 = search rules in
    rw (p.1, p.2) (no_bundle _ _ _ _ _ _ _ _ _ c.requires.0 c.requires.1 r c.read_image.ensures c.«open».ensures w.1 z)

pub returns-then-too_short : goal.returns-then-too_short
returns-then-too_short c =
    let r = was_ok _ c.read_image.result c.map_err.ensures.cases c.in_ok-map_err.was in
    let o = was_ok _ c.«open».result c.map_err-2.ensures.cases c.in_ok-texts.was in
    not_enough _ _ _ _ _ _ _ _ _ c.requires.0 c.requires.1 (both_read _ _ _ _ r c.read_image.ensures c.«open».ensures o)
    c.longest-longest.ensures c.too_short.ensures c.if-too_short.true c.refused_at.ensures

pub draw-requires : goal.draw-requires
draw-requires c =
    let r = was_ok _ c.read_image.result c.map_err.ensures.cases c.in_ok-map_err.was in
    let o = was_ok _ c.«open».result c.map_err-2.ensures.cases c.in_ok-texts.was in
    let a = c.args in
    let k = lengths_of a.nodes.now a.edges.now a.store.now a.imports.now a.includes.now a.levels.now in (
      both_read _ _ _ _ r c.read_image.ensures c.«open».ensures o,
      lent _ _ _ _ _ _ _ k c.longest-longest.ensures c.too_short.ensures c.if-too_short.false refl refl refl refl refl c.requires.1,
      lent_nodes _ _ k c.too_short.ensures c.if-too_short.false refl c.requires.0,
    )

pub returns : goal.returns
returns c =
    let r = was_ok _ c.read_image.result c.map_err.ensures.cases c.in_ok-map_err.was in
    let o = was_ok _ c.«open».result c.map_err-2.ensures.cases c.in_ok-texts.was in
    all_held _ _ _ _ _ _ _ _ _ c.requires.0 c.requires.1 (both_read _ _ _ _ r c.read_image.ensures c.«open».ensures o)
    c.longest-longest.ensures c.too_short.ensures c.if-too_short.false c.draw.ensures
