use Rattle.graph_tables.proofs.Tables.{naming_none, naming_all, naming_more, name_row, first_word, second_set, place_fits, size_fits}
use Rattle.graph_tables.proofs.put_nodes.Goals as goal

pub loop-i-init : goal.loop-i-init
loop-i-init c = search naming_none

pub place_of-requires : goal.place_of-requires
place_of-requires c = search name_row

pub overflow_cast-nodes : goal.overflow_cast-nodes
overflow_cast-nodes c = search place_fits

pub bounds-nodes-i : goal.bounds-nodes-i
bounds-nodes-i c = search first_word

pub length_of-requires : goal.length_of-requires
length_of-requires c = search name_row

pub overflow_cast-nodes-in-loop-i : goal.overflow_cast-nodes-in-loop-i
overflow_cast-nodes-in-loop-i c = search size_fits

pub bounds-nodes-i-in-loop-i : goal.bounds-nodes-i-in-loop-i
bounds-nodes-i-in-loop-i c = search second_set

pub loop-i-preserved : goal.loop-i-preserved
loop-i-preserved c = search naming_more

pub returns : goal.returns
returns c = search naming_all
