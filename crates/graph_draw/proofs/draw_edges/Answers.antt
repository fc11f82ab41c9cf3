-- `graph_draw::draw_edges`. Each way out is one law of Drawing.
-- Assumes nothing.
use Rattle.graph_draw.proofs.Drawing.{no_marks, no_edges, none_read, marks_room, cleared_long, edges_refused, edges_built}
use mathlib.Core.Path.{refl, sym, ◌∙◌}
use Rattle.graph_draw.proofs.draw_edges.Goals as goal

pub mark_nodes-requires : goal.mark_nodes-requires
mark_nodes-requires c =
    (c.requires.0.itemized, c.requires.0.holding, marks_room, no_marks)

pub walk_items-drawn-requires : goal.walk_items-drawn-requires
walk_items-drawn-requires c =
    let z = c.fill.ensures.after (λ y e. e) in
    (no_edges c.requires.1 z, none_read c.requires.1 z, c.requires.0.itemized)

pub returns-then-is_err : goal.returns-then-is_err
returns-then-is_err c =
    edges_refused (cleared_long refl (c.fill.ensures.after (λ y e. e))) c.walk_items-drawn.ensures (sym c.is_err.ensures.value ∙ c.if-is_err.true)
    (c.fill-then-is_err.ensures.after (λ y e. e))

pub returns-else-is_err : goal.returns-else-is_err
returns-else-is_err c =
    edges_built (cleared_long refl (c.fill.ensures.after (λ y e. e))) c.walk_items-drawn.ensures (sym c.is_err.ensures.value ∙ c.if-is_err.false)
