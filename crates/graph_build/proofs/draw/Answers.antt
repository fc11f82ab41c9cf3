-- `graph_build::draw`. Each way out is one law of Holds.
-- Assumes nothing.
use mathlib.Core.Path.{◌≡◌, ◌∙◌}
use borrow.Author.Rules.{rules}
use Rattle.std.proofs.lemmas.Result.{err_from_is_err_and}
use Rattle.graph_link.proofs.Handing.{was_some, was_none, was_ok, was_err}
use Rattle.graph_build.proofs.Holds.{image_short, prepared, nodes_many, nodes_room, held_refused, held_built}
use Rattle.graph_build.proofs.draw.Goals as goal

pub list_items-count-requires : goal.list_items-count-requires
list_items-count-requires c =
    (search rules, c.requires.0.reads)

pub construct_nodes-made-requires : goal.construct_nodes-made-requires
construct_nodes-made-requires c =
    (search rules, c.list_items-count.ensures.0, image_short c.requires.0)

pub returns-in_err-n : goal.returns-in_err-n
returns-in_err-n c =
    let p = err_from_is_err_and c.from_residual.result c.from_residual.ensures.1 in
    let w = was_none c.construct_nodes-made.result _ c.ok_or.ensures.value c.in_err-n.was in
    rw (p.1, p.2)
    (nodes_many c.requires.0 c.construct_nodes-made.ensures c.type_inv.image c.requires.1 c.requires.2 w.0 (w.1 ∙ c.refused_at.ensures))

pub draw_edges-requires : goal.draw_edges-requires
draw_edges-requires c = (
  prepared c.requires.0 c.construct_nodes-made.ensures c.type_inv.image (was_some _ _ c.ok_or.ensures.value c.in_ok-n.was)
      c.list_items-count.ensures.0,
  c.requires.1,
)

pub put_nodes-requires : goal.put_nodes-requires
put_nodes-requires c =
    nodes_room c.requires.0 c.construct_nodes-made.ensures c.type_inv.image c.requires.1 c.requires.2
    (was_some _ _ c.ok_or.ensures.value c.in_ok-n.was) c.draw_edges.ensures

pub returns-in_err-m : goal.returns-in_err-m
returns-in_err-m c =
    let p = err_from_is_err_and c.from_residual-in_err-m.result c.from_residual-in_err-m.ensures.1 in
    let w = was_err _ c.draw_edges.result c.map_err.ensures.cases c.in_err-m.was in
    let z : c.in_err-m.field-0.0 ≡ record { number = w.0.1.number; entry = w.0.0; scan = w.0.1.scan; place = 0 } = search rules in
    rw (p.1, p.2, z) (
    held_refused c.requires.0 c.construct_nodes-made.ensures c.type_inv.image c.requires.1 c.requires.2
    (was_some _ _ c.ok_or.ensures.value c.in_ok-n.was) c.draw_edges.ensures w.1
    )

pub returns : goal.returns
returns c =
    held_built c.requires.0 c.construct_nodes-made.ensures c.type_inv.image c.requires.1 c.requires.2
    (was_some _ _ c.ok_or.ensures.value c.in_ok-n.was) c.draw_edges.ensures
    (was_ok _ c.draw_edges.result c.map_err.ensures.cases c.in_ok-m.was) c.put_nodes.ensures
