use mathlib.Core.Path.{◌≡◌}
use borrow.Author.Rules.{rules}
use Rattle.std.proofs.lemmas.Result.{err_from_is_err_and}
use Rattle.graph_link.proofs.Handing.{was_ok, was_err}
use Rattle.graph_marks.proofs.Nodes.{desk_of}
use Rattle.graph_entries.proofs.Going.{going_none, item_there, entry_low, next_asked, placed, sent_out, going_on, all_drawn}
use Rattle.graph_entries.proofs.walk_items.Goals as goal

pub loop-i-init : goal.loop-i-init
loop-i-init c =
    going_none _ _ _ _ _ _ _ _ _ _ _ _ _ c.node_of-v.ensures c.requires.0 c.requires.1 c.requires.2

pub get_item-x-requires : goal.get_item-x-requires
get_item-x-requires c =
    item_there c.loop-i.invariant c.loop-i-test.true

pub next_entry-entry-requires : goal.next_entry-entry-requires
next_entry-entry-requires c =
    entry_low c.loop-i.invariant c.loop-i-test.true

pub next_node-v-requires : goal.next_node-v-requires
next_node-v-requires c =
    next_asked c.loop-i.invariant c.loop-i-test.true c.get_item-x.ensures (desk_of c.args.ground.nodes.found)

pub walk_item-requires : goal.walk_item-requires
walk_item-requires c = (
  c.loop-i.invariant.tables,
  c.loop-i.invariant.between,
  placed c.loop-i.invariant c.loop-i-test.true c.get_item-x.ensures
      c.next_node-v.ensures.0 c.next_node-v.ensures.1,
)

pub returns-in_err-total : goal.returns-in_err-total
returns-in_err-total c =
    let p = err_from_is_err_and c.from_residual.result c.from_residual.ensures.1 in
    let w = was_err _ c.walk_item.result c.map_err.ensures.cases c.in_err-total.was in
    let z : c.in_err-total.field-0.0 ≡ (c.next_entry-entry.result, w.0) = search rules in
    rw (p.1, p.2, z) (
    sent_out c.loop-i.invariant c.loop-i-test.true c.get_item-x.ensures c.next_node-v.ensures.0
    c.next_node-v.ensures.1 c.next_entry-entry.ensures c.walk_item.ensures.0 c.walk_item.ensures.1 w.1
    )

pub loop-i-preserved : goal.loop-i-preserved
loop-i-preserved c =
    going_on c.loop-i.invariant c.loop-i-test.true c.get_item-x.ensures c.next_node-v.ensures.0
    c.next_node-v.ensures.1 c.next_entry-entry.ensures c.walk_item.ensures.0 c.walk_item.ensures.1
    (was_ok _ c.walk_item.result c.map_err.ensures.cases c.in_ok-total.was) c.walk_item.ensures.2

pub returns : goal.returns
returns c =
    all_drawn c.loop-i.invariant c.loop-i-test.false
